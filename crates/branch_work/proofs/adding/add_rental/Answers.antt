use Rattle.shop_schema.proofs.Common.{◌≡◌, ◌≤◌, ◌+◌, ◌∷◌, [], None, ℕ, refl, ap, subst, arith, and_then, some_calls, next, terms_now, shop_of, seen_terms}
use Rattle.shop_schema.proofs.Common.{counts_of, raise}
use Rattle.sql_rows.proofs.Chaining.{one_call}
use Rattle.shop_ledger.specs.declared.counts.CountKind.TheVariants as kind
use Rattle.shop_ledger.proofs.CountsOf.{beside, held_once, told_more}
use Rattle.branch_core.specs.Agreed.{HasTermsNow}
use Rattle.branch_work.proofs.Acted.{carried_out}
use Rattle.branch_work.proofs.Counting.{rental_added}
use Rattle.branch_work.proofs.adding.add_rental.Goals as goal
use Rattle.shop_schema.specs.Counts.{rentals_kind}

pub returns : goal.returns
returns g c = carried_out
    (and_then (some_calls c.in_ok-number.ensures)
    (and_then (one_call c.in_ok-put_rental.ensures)
    (and_then (one_call c.in_ok-put_terms.ensures)
    (one_call c.in_ok-put_out.ensures))))
    (λ said rules books holds held agrees marked.
    let b = c.args.branch in
    let low : 1 ≤ b = omega arith in
    let n = c.in_ok-number.number in
    let counts = raise b rentals_kind 1 (counts_of books) in
    let taken = said.0 (counts_of books) books (beside _ books holds) (held_once books held kind.Rentals b low) in
    let is : n ≡ next b books.rentals = told_more b 2 1 books n low taken.1 in
    let out = said.1.1.1 counts _ (said.1.1.0 counts _ (said.1.0 counts books taken.0 tt) tt) tt in
    let terms = seen_terms c.in-Some.found.terms in
    let now : terms_now books.catalogue (shop_of b books) c.args.copy ≡ terms ∷ [] =
    subst (HasTermsNow books.catalogue (shop_of b books) c.args.copy) c.in-Some.is agrees.terms in
    let termed : next b books.terms ≡ next b books.rentals = ap (λ (m : ℕ). m + 1) (held.termed b) in (
      rental_added _ b books low holds.stands.more.termed n
          (record { rented = c.args.command.now.at; copy = c.args.copy; customer = c.args.customer; returned = None; staff = c.args.command.now.staff })
          terms _ refl is termed now out.0,
      rw is at c.in_ok-number_text.ensures,
      tt,
    ))
