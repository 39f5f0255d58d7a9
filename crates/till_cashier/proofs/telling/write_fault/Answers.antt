use Rattle.std.proofs.Common.{◌∙◌, inl, inr, refl, w32, to_z, of_z}
use Rattle.std.specs.Prelude.{codes, decimal}
use Rattle.till_cashier.specs.Faults.{fault_text}
use Rattle.till_cashier.specs.Telling.{date_in}
use Rattle.till_cashier.proofs.Parts.{line_of_two, line_of_four, line_of_six}
use Rattle.till_cashier.proofs.telling.write_fault.Goals as goal

pub returns-in-Ahead : goal.returns-in-Ahead
returns-in-Ahead g c =
    let is = line_of_four c.as_bytes-sentences.result.now (codes " Wait ") c.as_bytes-seconds.result.now (codes " seconds, and say the word again.\n")
    (fault_text c.args.fault) (decimal c.in-Ahead.seconds) (c.as_bytes-sentences.ensures.value ∙ c.sentences.ensures)
    (c.as_bytes-seconds.ensures.value ∙ c.format.ensures.text) in
    (_, (_, inl (c.in-Ahead.seconds, c.in-Ahead.is, refl), is), c.write_parts.ensures.ok, c.write_parts.ensures.err)

pub returns-in-Joined : goal.returns-in-Joined
returns-in-Joined g c =
    let is = line_of_four c.as_bytes-sentences.result.now (codes " It is customer ") c.as_bytes-number.result.now
    (codes ": if this is somebody else, say --yes before the word.\n") (fault_text c.args.fault) (decimal c.in-Joined.number)
    (c.as_bytes-sentences.ensures.value ∙ c.sentences.ensures) (c.as_bytes-number.ensures.value ∙ c.format-in-Joined.ensures.text) in
    (_, (_, inr (inl (c.in-Joined.number, c.in-Joined.is, refl)), is), c.write_parts-in-Joined.ensures.ok, c.write_parts-in-Joined.ensures.err)

pub returns-in-OtherDay : goal.returns-in-OtherDay
returns-in-OtherDay g c =
    let is = line_of_six c.as_bytes-sentences.result.now (codes " It says ") c.date_of-clock.result.now (codes ", not ") c.date_of-said.result.now
    (codes ". Mend the clock, or the zone, or say the date again.\n") (fault_text c.args.fault) (date_in c.day_text-clock.result)
    (date_in c.day_text-said.result) (c.as_bytes-sentences.ensures.value ∙ c.sentences.ensures) c.date_of-clock.ensures c.date_of-said.ensures in (
      _,
      (
        _,
        inr (inr (inl (
          c.in-OtherDay.clock,
          c.in-OtherDay.said,
          to_z w32 (of_z w32 c.in-OtherDay.clock),
          to_z w32 (of_z w32 c.in-OtherDay.said),
          c.in-OtherDay.is,
          (_, _, c.day_text-clock.ensures, c.day_text-said.ensures, refl),
        ))),
        is,
      ),
      c.write_parts-in-OtherDay.ensures.ok,
      c.write_parts-in-OtherDay.ensures.err,
    )

pub returns-in_default : goal.returns-in_default
returns-in_default g c =
    let is = line_of_two c.as_bytes-sentences.result.now (codes "\n") (fault_text c.args.fault) (c.as_bytes-sentences.ensures.value ∙ c.sentences.ensures) in (
      _,
      (_, inr (inr (inr (refl, c.in_default.not-Ahead, c.in_default.not-Joined, c.in_default.not-OtherDay))), is),
      c.write_parts-in_default.ensures.ok,
      c.write_parts-in_default.ensures.err,
    )
