use Rattle.shop_schema.proofs.Common.{◌≡◌, ◌≤◌, arith, and_then, some_calls, next, counts_of, raise}
use Rattle.sql_rows.proofs.Chaining.{one_call}
use Rattle.shop_ledger.specs.declared.counts.CountKind.TheVariants as kind
use Rattle.shop_ledger.proofs.CountsOf.{beside, held_once, told_more}
use Rattle.branch_work.proofs.Acted.{carried_out}
use Rattle.branch_work.proofs.Counting.{payment_added}
use Rattle.branch_work.proofs.adding.add_payment.Goals as goal
use Rattle.shop_schema.specs.Counts.{payments_kind}

pub returns : goal.returns
returns g c =
    λ found. carried_out (and_then (some_calls c.in_ok-number.ensures) (one_call c.in_ok-put_payment.ensures)) (λ said rules books holds held agrees marked.
    let b = c.args.branch in
    let low : 1 ≤ b = omega arith in
    let n = c.in_ok-number.number in
    let taken = said.0 (counts_of books) books (beside _ books holds) (held_once books held kind.Payments b low) in
    let is : n ≡ next b books.payments = told_more b 3 1 books n low taken.1 in
    let put = said.1 (raise b payments_kind 1 (counts_of books)) books taken.0 tt in
    (payment_added _ b books low holds.stands.more.termed n _ is put, rw is at c.in_ok-number_text.ensures, tt))
