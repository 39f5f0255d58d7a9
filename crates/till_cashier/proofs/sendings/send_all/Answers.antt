use Rattle.till_cashier.proofs.GoingOn.{desk_kept, desk_kept_ok}
use Rattle.till_cashier.proofs.sendings.send_all.Goals as goal

pub returns-in-Ok-clause-sends : goal.returns-in-Ok-clause-sends
returns-in-Ok-clause-sends g c clean kept = c.in-Ok.ensures.sends clean (desk_kept_ok _)

pub returns-in-Err-clause-sends : goal.returns-in-Err-clause-sends
returns-in-Err-clause-sends g c clean kept = c.in-Err.ensures.sends clean (desk_kept _ c.in-Err.fault c.from.ensures kept)

pub returns-in-Err-clause-why : goal.returns-in-Err-clause-why
returns-in-Err-clause-why g c clean = (c.in-Err.fault, c.from.ensures, c.in-Err.ensures.why clean)
