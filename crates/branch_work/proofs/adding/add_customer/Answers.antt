use Rattle.shop_schema.proofs.Common.{◌≡◌, ◌≤◌, ◌∷◌, ◌++◌, [], subst, arith, state, and_then, some_calls, next, Customer, seen_customer, HoldsWith, counts_of}
use Rattle.shop_schema.proofs.Common.{raise}
use Rattle.shop_model.specs.Values.{new_customer}
use Rattle.shop_types.specs.Seen.{seen_new_customer}
use Rattle.sql_rows.proofs.Chaining.{one_call}
use Rattle.shop_ledger.specs.declared.counts.CountKind.TheVariants as kind
use Rattle.shop_ledger.proofs.CountsOf.{beside, held_once, told_more}
use Rattle.branch_work.proofs.Acted.{carried_out}
use Rattle.branch_work.proofs.Counting.{customer_added}
use Rattle.branch_work.proofs.adding.add_customer.Goals as goal
use Rattle.shop_schema.specs.Counts.{customers_kind}

pub returns : goal.returns
returns g c =
    λ found. carried_out (and_then (some_calls c.in_ok-number.ensures) (one_call c.in_ok-put_customer.ensures)) (λ said rules books holds held agrees marked.
    let b = c.args.branch in
    let low : 1 ≤ b = omega arith in
    let n = c.in_ok-number.number in
    let taken = said.0 (counts_of books) books (beside _ books holds) (held_once books held kind.Customers b low) in
    let is : n ≡ next b books.customers = told_more b 0 1 books n low taken.1 in
    let put = said.1 (raise b customers_kind 1 (counts_of books)) books taken.0 tt in
    let s = state g.S.Store c.put_customer.new.tx.conn.now in
    let row : Customer = new_customer c.args.command.now.at (seen_new_customer c.args.it.now) in
    let same : seen_customer c.in_ok-customer.customer ≡ row = c.in_ok-customer.ensures in (
      customer_added _ b books low holds.stands.more.termed n row is
          (subst (λ (it : Customer).
          HoldsWith (raise b customers_kind 1 (counts_of books)) s
          (record books { customers = books.customers ++ record { branch = b; number = n; it = it } ∷ [] }))
          same put),
      rw is at c.in_ok-number_text.ensures,
      tt,
    ))
