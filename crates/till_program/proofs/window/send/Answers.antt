use Rattle.till_program.proofs.OutputLaws.{grows_none}
use Rattle.till_program.proofs.RelayLaws.{asked_only, leaves, relays, silent_asked, some_so}
use Rattle.till_program.proofs.window.send.Goals as goal

pub returns-in_default-clause-relayed : goal.returns-in_default-clause-relayed
returns-in_default-clause-relayed g c =
    relays (g.D.DeskWay.replies c.args.desk.now) _ _ c.print.result _ _ _ _ _ _ c.as_slice-in_default.ensures.value c.in_ok-text.ensures
    (grows_none _) c.print.ensures.shown

pub returns-in_default-clause-asked : goal.returns-in_default-clause-asked
returns-in_default-clause-asked g c = silent_asked c.print.result _ _ _ _ (grows_none _) c.print.ensures.silent

pub returns-then-not-says_yes-clause-relayed : goal.returns-then-not-says_yes-clause-relayed
returns-then-not-says_yes-clause-relayed g c =
    leaves (g.D.DeskWay.replies c.args.desk.now) _ _ _ _ _ _ _ _ _ c.as_slice.ensures.value c.in_ok-text.ensures
    (some_so _ _ c.in-Some.is c.in_ok-question.ensures) c.says_yes.ensures.grows c.show.ensures

pub returns-clause-relayed : goal.returns-clause-relayed
returns-clause-relayed g c =
    relays (g.D.DeskWay.replies c.args.desk.now) _ _ c.print-2.result _ _ _ _ _ _ c.as_slice-2.ensures.value c.in_ok-text-2.ensures
    c.says_yes.ensures.grows c.print-2.ensures.shown

pub returns-clause-asked : goal.returns-clause-asked
returns-clause-asked g c = silent_asked c.print-2.result _ _ _ _ c.says_yes.ensures.grows c.print-2.ensures.silent

pub returns-in_err-text-2-clause-asked : goal.returns-in_err-text-2-clause-asked
returns-in_err-text-2-clause-asked g c = asked_only _ _ _ _ c.says_yes.ensures.grows
