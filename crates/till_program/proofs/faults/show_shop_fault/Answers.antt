use Rattle.till_program.proofs.RelayLaws.{shop_cut, shop_whole}
use Rattle.till_program.proofs.faults.show_shop_fault.Goals as goal

pub returns-in-Ok : goal.returns-in-Ok
returns-in-Ok g c = shop_whole _ _ _ _ _ c.status-status.ensures.fails c.status-status.ensures.status c.in-Ok.ensures.1 c.in-Ok.ensures.2

pub returns-in-Err : goal.returns-in-Err
returns-in-Err g c = shop_cut _ _ _ _ c.in-Err.ensures.1 c.in-Err.ensures.3
