use Rattle.std.proofs.Common.{◌∙◌, sym, string_bytes}
use Rattle.serde_json.specs.View.{view}
use Rattle.till_shows.specs.Bodies.{each}
use Rattle.till_shows.specs.Fields.{field_text}
use Rattle.till_shows.proofs.EachLemmas.{behind_all, turn, stop, whole}
use Rattle.till_shows.proofs.FoundLemmas.{handed_on}
use Rattle.till_shows.proofs.parts.row_text.Goals as goal

pub loop-part-preserved : goal.loop-part-preserved
loop-part-preserved c =
    let f = field_text (view c.args.value.now) in
    rw c.in_ok-push.ensures.pushed
    (sym (turn f c.loop-part.row c.args.parts.now c.loop-part.part-index c.part-item.result
    (string_bytes c.in_ok-text.text) c.loop-part-test.true c.part-item.is c.in_ok-text.ensures.shown)
    ∙ c.loop-part.invariant)

pub returns-in_err-text-clause-other : goal.returns-in_err-text-clause-other
returns-in_err-text-clause-other c =
    let f = field_text (view c.args.value.now) in
    handed_on _ _ c.from_residual.ensures.1 (λ e.
    sym (behind_all (each f c.args.parts.now)) ∙ sym c.loop-part.invariant
    ∙ stop f c.loop-part.row c.args.parts.now c.loop-part.part-index c.part-item.result c.loop-part-test.true c.part-item.is (c.in_err-text.ensures.other e))

pub returns-clause-shown : goal.returns-clause-shown
returns-clause-shown c =
    let f = field_text (view c.args.value.now) in
    sym (behind_all (each f c.args.parts.now)) ∙ sym c.loop-part.invariant
    ∙ whole f c.loop-part.row c.args.parts.now c.loop-part.part-index c.loop-part-test.false
