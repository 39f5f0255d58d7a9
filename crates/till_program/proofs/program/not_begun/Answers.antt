use Rattle.std.proofs.Common.{inl, inr}
use Rattle.std.proofs.KnownBytes.{Keeps-refl}
use Rattle.till_program.proofs.OutputLaws.{errors_more, fault_grows, five_not_zero, grows_none, not_done_fault, nothing_shown, output_more, shown_more}
use Rattle.till_program.proofs.program.not_begun.Goals as goal

pub returns-in-Missing-clause-shown : goal.returns-in-Missing-clause-shown
returns-in-Missing-clause-shown g c = (_, grows_none _, inl (not_done_fault _ _ _ _ _ c.not_done.ensures.shown))

pub returns-in-Missing-clause-grows : goal.returns-in-Missing-clause-grows
returns-in-Missing-clause-grows g c = errors_more _ _ _ (fault_grows _ _ _ _ c.not_done.ensures.shown)

pub returns-in-Refused-clause-shown : goal.returns-in-Refused-clause-shown
returns-in-Refused-clause-shown g c = (_, grows_none _, inl (nothing_shown _ _ _ c.left_alone.ensures.shown))

pub returns-in-Refused-clause-grows : goal.returns-in-Refused-clause-grows
returns-in-Refused-clause-grows g c = shown_more _ _ _ _ _ c.left_alone.ensures.shown

pub returns-in-Asked-clause-status : goal.returns-in-Asked-clause-status
returns-in-Asked-clause-status g c = five_not_zero _ c.question_outcome.ensures.asked

pub returns-in-Asked-clause-shown : goal.returns-in-Asked-clause-shown
returns-in-Asked-clause-shown g c =
    (_, grows_none _, inr (c.question_outcome.ensures.asked, c.question_outcome.ensures.grows, Keeps-refl _))

pub returns-in-Asked-clause-grows : goal.returns-in-Asked-clause-grows
returns-in-Asked-clause-grows g c = output_more _ _ _ c.question_outcome.ensures.grows
