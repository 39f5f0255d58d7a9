use Rattle.shop_types.proofs.Common.{refl, BadBody}
use Rattle.counter_routes.proofs.asked.read_look.Goals as goal

pub returns-in-None : goal.returns-in-None
returns-in-None c = λ asking same. (BadBody, refl, rw (← same, c.in-None.is) refl, refl)
