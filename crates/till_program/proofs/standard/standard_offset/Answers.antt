use Rattle.std.proofs.Common.{◌≡◌, ◌∙◌, ap, sym, arith, Some, None, option_map, w32, to_z, of_z, FitsSigned}
use Rattle.std.proofs.lemmas.Int.{to_z-of_z}
use Rattle.jiff_core.proofs.SignedLemmas.{signed_arith}
use Rattle.jiff_tz.specs.PosixRule.{transition_view}
use Rattle.jiff_tz.specs.Zone.{next_at}
use Rattle.till_program.specs.StandardTime.{smaller}
use Rattle.till_program.proofs.StandardLemmas.{none_left, too_late, one_more, all_looked}
use Rattle.till_program.proofs.standard.standard_offset.Goals as goal

pub returns-in-None : goal.returns-in-None
returns-in-None c =
    let none : next_at c.args.zone c.loop.at.nanosecond ≡ None = sym c.next_transition.ensures ∙ ap (option_map transition_view) c.in-None.is in
    sym (none_left _ _ _ _ _ none) ∙ c.loop.invariant.rest

pub returns-then-not-is_within : goal.returns-then-not-is_within
returns-then-not-is_within c =
    let next : next_at c.args.zone c.loop.at.nanosecond ≡ Some (transition_view c.in-Some.next) =
    sym c.next_transition.ensures ∙ ap (option_map transition_view) c.in-Some.is in
    sym (too_late _ _ _ _ _ _ _ next (sym c.is_within.ensures ∙ c.if-not-is_within.true)) ∙ c.loop.invariant.rest

pub loop-preserved : goal.loop-preserved
loop-preserved c =
    let next : next_at c.args.zone c.loop.at.nanosecond ≡ Some (transition_view c.in-Some.next) =
    sym c.next_transition.ensures ∙ ap (option_map transition_view) c.in-Some.is in
    let offset = c.in-Some.next.info.offset in
    let fits : FitsSigned w32 offset.seconds = omega (arith, signed_arith, offset.in_range.0, offset.in_range.1) in
    let kept : to_z w32 (of_z w32 c.smaller-least.result) ≡ smaller (to_z w32 c.loop.least-bits) c.in-Some.next.info.offset.seconds =
    to_z-of_z w32 c.smaller-least.result (record { sfits = c.smaller-least.type_inv })
    ∙ c.smaller-least.ensures ∙ ap (smaller (to_z w32 c.loop.least-bits)) (to_z-of_z w32 offset.seconds fits) in
    record {
      rest = rw kept
          (sym (one_more c.loop.counter _ _ _ _ _ _ c.loop-test.true next (sym c.is_within.ensures ∙ c.if-not-is_within.false)) ∙ c.loop.invariant.rest);
    }

pub returns : goal.returns
returns c = sym (all_looked c.loop.counter _ _ _ _ c.loop-test.false) ∙ c.loop.invariant.rest
