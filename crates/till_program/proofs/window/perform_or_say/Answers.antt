use Rattle.std.proofs.Common.{inl}
use Rattle.till_program.proofs.RelayLaws.{kept_from}
use Rattle.till_program.proofs.window.perform_or_say.Goals as goal

pub returns-in-Ok : goal.returns-in-Ok
returns-in-Ok g c = inl c.in-Ok.ensures.done

pub returns-in-Err : goal.returns-in-Err
returns-in-Err g c =
    kept_from (g.D.DeskWay.replies c.args.desk.now) _ _ c.in-Err.fault _ _ _ _ _ _ c.in-Err.ensures.asked.0 c.in-Err.ensures.asked.1 c.show_shop_fault.ensures
