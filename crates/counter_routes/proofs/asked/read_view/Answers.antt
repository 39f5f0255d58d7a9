use Rattle.shop_types.proofs.Common.{refl, NoRoute}
use Rattle.counter_routes.proofs.asked.read_view.Goals as goal

pub returns-in-None : goal.returns-in-None
returns-in-None c = λ viewing same. (NoRoute, refl, rw (← same, c.in-None.is) refl, refl)
