use Rattle.std.proofs.Common.{ℕ, List, Option, inl, inr}
use Rattle.till_cashier.specs.Asked.{Grows}
use Rattle.till_program.specs.Performing.{IsNotDone}
use Rattle.till_program.specs.Screens.{Screen, screen}
use Rattle.till_program.proofs.DoneLaws.{sure_over_one}
use Rattle.till_program.proofs.OutputLaws.{errors_more, fault_grows, grows_then, more_then, not_done_fault, output_more}
use Rattle.till_program.proofs.program.with_tools.Goals as goal

pub returns-in-Err-clause-attempted : goal.returns-in-Err-clause-attempted
returns-in-Err-clause-attempted g c clean =
    inl (c.not_done.ensures.status, (_, c.ask_before.ensures.grows, inl (not_done_fault _ _ _ _ _ c.not_done.ensures.shown)), c.ask_before.ensures.stays clean)

-- what was printed first was printed before it too
not_done_after : (status : ℕ) (output asked errors : Option (List ℕ)) (final : Screen) → Grows output asked → IsNotDone status (screen asked errors) final
    → IsNotDone status (screen output errors) final
not_done_after status output asked errors final grows it = (it.0, grows_then output asked it.0 grows it.1, it.2)

pub returns-in-Err-ask_consent-clause-attempted : goal.returns-in-Err-ask_consent-clause-attempted
returns-in-Err-ask_consent-clause-attempted g c clean =
    let asked = grows_then _ _ _ c.ask_before.ensures.grows c.ask_consent.ensures.grows in
    inl (
      c.not_begun.ensures.status,
      not_done_after _ _ _ _ _ asked c.not_begun.ensures.shown,
      c.ask_before.ensures.stays clean,
    )

pub returns-clause-attempted : goal.returns-clause-attempted
returns-clause-attempted g c clean =
    inr
    (record {
      looked = c.ask_before.new.conn;
      looks = c.ask_before.ensures.stays (c.word_at.ensures.clean clean);
      sheet = _;
      wall = _;
      asked = _;
      grows = grows_then _ _ _ c.ask_before.ensures.grows c.ask_consent.ensures.grows;
      performs = sure_over_one _ _ _ _ _ _ _ _ _ _ _ _ _ _ _ _ _ _ _ (c.word_at.ensures.performed clean);
    })

pub returns-in-Err-clause-grows : goal.returns-in-Err-clause-grows
returns-in-Err-clause-grows g c =
    more_then _ _ _ (output_more _ _ _ c.ask_before.ensures.grows) (errors_more _ _ _ (fault_grows _ _ _ _ c.not_done.ensures.shown))

pub returns-in-Err-ask_consent-clause-grows : goal.returns-in-Err-ask_consent-clause-grows
returns-in-Err-ask_consent-clause-grows g c =
    more_then _ _ _ (output_more _ _ _ (grows_then _ _ _ c.ask_before.ensures.grows c.ask_consent.ensures.grows)) c.not_begun.ensures.grows

pub returns-clause-grows : goal.returns-clause-grows
returns-clause-grows g c =
    more_then _ _ _ (output_more _ _ _ (grows_then _ _ _ c.ask_before.ensures.grows c.ask_consent.ensures.grows)) c.word_at.ensures.grows

pub returns-clause-clean : goal.returns-clause-clean
returns-clause-clean g c clean = c.ask_before.ensures.clean (c.word_at.ensures.clean clean)
