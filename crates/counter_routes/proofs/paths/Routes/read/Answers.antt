use Rattle.shop_types.proofs.Common.{◌≡◌, refl, false, arith, nat_tests, TooLong, NoCounter, is_stock_file}
use Rattle.counter_routes.proofs.paths.Routes.read.Goals as goal

pub returns-in-Branch-clause-reading : goal.returns-in-Branch-clause-reading
returns-in-Branch-clause-reading g c =
    let long : is_stock_file c.args.message.now.body.now ≡ false = grind (arith, nat_tests, c.if-message-gt65536.true) in
    (TooLong, refl, rw (c.in-Branch.is, long) refl, refl)

pub returns-in-Nobody-clause-reading : goal.returns-in-Nobody-clause-reading
returns-in-Nobody-clause-reading g c = (NoCounter, refl, rw c.in-Nobody.is refl, refl)
