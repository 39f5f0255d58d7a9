use Rattle.std.proofs.Common.{[], inl}
use Rattle.till_program.proofs.RelayLaws.{at_desk, by_help}
use Rattle.till_program.proofs.window.perform.Goals as goal

pub returns-in-Help-clause-done : goal.returns-in-Help-clause-done
returns-in-Help-clause-done g c = by_help (g.D.DeskWay.replies c.args.desk.now) _ _ c.help.result _ _ c.help.ensures.done

pub returns-in-Init-clause-done : goal.returns-in-Init-clause-done
returns-in-Init-clause-done g c = inl (inl c.run_till.ensures)

pub returns-in-Import-clause-done : goal.returns-in-Import-clause-done
returns-in-Import-clause-done g c = at_desk (g.D.DeskWay.replies c.args.desk.now) _ _ c.send.result _ _ _ c.send.ensures.relayed

pub returns-in-Ok : goal.returns-in-Ok
returns-in-Ok g c =
    record {
      done = at_desk (g.D.DeskWay.replies c.args.desk.now) _ _ c.send-in_default.result [] _ _ c.send-in_default.ensures.relayed;
      asked = c.send-in_default.ensures.asked;
    }

pub returns-clause-done : goal.returns-clause-done
returns-clause-done g c = inl (inl c.run_till-in-Err.ensures)
