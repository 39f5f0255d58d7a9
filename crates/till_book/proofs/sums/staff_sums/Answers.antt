use Rattle.sql_rows.proofs.Common.{arith}
use Rattle.till_book.specs.Tallies.{staff_sum}
use Rattle.till_book.proofs.Made.{one_made}
use Rattle.till_book.proofs.sums.staff_sums.Goals as goal

pub loop-who-preserved : goal.loop-who-preserved
loop-who-preserved c =
    one_made (staff_sum c.args.counted.now) c.args.staff.now c.loop-who.who-index c.who-item.result c.loop-who.sums.items c.push.new.self.items
    (record { staff = c.who-item.result; cents = c.in_ok-cents.cents }) (omega (arith, c.loop-who-test.true)) c.who-item.is c.in_ok-push.ensures.items
    (λ i. record { staff = c.who-item.result; cents = c.in_ok-cents.ensures i }) c.loop-who.invariant
