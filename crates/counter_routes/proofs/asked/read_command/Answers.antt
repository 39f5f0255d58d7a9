use Rattle.shop_types.proofs.Common.{refl, BadBody}
use Rattle.counter_routes.proofs.asked.read_command.Goals as goal

pub returns-in-BadBody-clause-reading : goal.returns-in-BadBody-clause-reading
returns-in-BadBody-clause-reading c =
    λ written _ bad.
    let none = rw c.in-Err.is at bad in
    (BadBody, refl, rw (none c.in-BadBody.is) refl, refl)
