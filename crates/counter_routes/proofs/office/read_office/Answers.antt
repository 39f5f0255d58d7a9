use Rattle.shop_types.proofs.Common.{◌≡◌, refl, true, false, arith, nat_tests, TooLong, NoRoute, BadBody, is_stock_file}
use Rattle.counter_routes.proofs.office.read_office.Goals as goal

pub returns-then-message-gt65536-clause-reading : goal.returns-then-message-gt65536-clause-reading
returns-then-message-gt65536-clause-reading g c =
    let long : is_stock_file c.args.message.now.body.now ≡ false = grind (arith, nat_tests, c.if-message-gt65536.true) in
    (TooLong, refl, rw long refl, refl)

pub returns-then-not-is_to_office-clause-reading : goal.returns-then-not-is_to_office-clause-reading
returns-then-not-is_to_office-clause-reading g c =
    let fits : is_stock_file c.args.message.now.body.now ≡ true = grind (arith, nat_tests, c.if-message-gt65536.false) in
    (NoRoute, refl, rw (fits, ← c.if-not-is_to_office.ensures) refl, refl)

pub returns-in-BadBody-clause-reading : goal.returns-in-BadBody-clause-reading
returns-in-BadBody-clause-reading g c =
    let fits : is_stock_file c.args.message.now.body.now ≡ true = grind (arith, nat_tests, c.if-message-gt65536.false) in
    (BadBody, refl, rw (fits, ← c.if-not-is_to_office.ensures, c.in-Err.ensures.bad c.in-BadBody.is) refl, refl)
