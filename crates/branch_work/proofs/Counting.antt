-- With the counts of the new rows, the tables hold the books that have the rows.
use Rattle.shop_schema.proofs.Common.{[], ◌≡◌, ◌∙◌, refl, sym, subst, ℕ, ◌≤◌, ◌<◌, ◌^◌, List, ◌∷◌, ◌++◌, length, map, None, arith, State, Limits, Row, Owned}
use Rattle.shop_schema.proofs.Common.{owned_by, next, put_all, Command, Text, Customer, Rental, Terms, Payment, Rules, Kept, Catalogue, films_in, Books}
use Rattle.shop_schema.proofs.Common.{Customers, CopyRows, Rentals, Payments, edits_of, book_acted, imported, length_map, grown, rows_edited, edits_small}
use Rattle.shop_schema.proofs.Common.{catalogue_stays, seen_act, IsHeld, Counts, counts_of, count_in, raise, put_out, AreTermed, Holds, HoldsWith}
use Rattle.shop_model.specs.Rows.{put}
use Rattle.shop_model.specs.Values as model
use Rattle.shop_types.specs.declared.command.Act.{Act}
use Rattle.shop_types.specs.declared.command.Act.TheVariants as act
use Rattle.stock_csv.specs.Stock.{stock_of}
use Rattle.stock_csv.proofs.ReadingLemmas.{stock_fits}
use Rattle.shop_ledger.specs.declared.counts.CountKind.{CountKind}
use Rattle.shop_ledger.specs.declared.counts.CountKind.TheVariants as kind
use Rattle.shop_ledger.specs.Counted.{kind_number, CountsOnce}
use Rattle.shop_ledger.proofs.CountsOf.{agreed, small_once}
use Rattle.shop_ledger.proofs.Agreeing.{kept_counted, customer_row_counted, payment_row_counted, rental_row_counted}
use Rattle.branch_work.specs.Rules.{rules_of}
use Rattle.branch_core.specs.declared.found.RowsFound.{RowsFound}
use Rattle.branch_core.specs.Marked.{AreMarked}
use Rattle.branch_work.specs.Added.{with_kept, copies_from, HasFewLines}
use Rattle.branch_work.proofs.ConsignLemmas.{few_come}
use Rattle.branch_work.proofs.Acted.{acted_kept}
use Rattle.branch_work.proofs.CopyLemmas.{made_counted, made_stand}
use Rattle.branch_work.proofs.TermLemmas.{more_termed}
use Rattle.shop_schema.specs.Counts.{copies_kind, customers_kind, kept_kind, payments_kind, rentals_kind}

-- the books with copies of the films, as a lot of that name
abbrev pub with_import : ℕ → List ℕ → Text → Books → Books
with_import b films lot books = record books {
  copies = put_all b (map (imported b) films) books.copies;
  lots = books.lots ++ record { owner = b; it = lot } ∷ [];
}

-- ---- rows with the next numbers

module _ (s : State) (b : ℕ) (books : Books) (low : 1 ≤ b) (termed : AreTermed books) where
  pub customer_added : (n : ℕ) (it : Customer) → n ≡ next b books.customers
      → HoldsWith (raise b customers_kind 1 (counts_of books)) s
      (record books { customers = books.customers ++ record { branch = b; number = n; it = it } ∷ [] })
      → Holds s (record books { customers = put b (λ _. it) books.customers })
  customer_added n it is holds =
      agreed s _ (raise b customers_kind 1 (counts_of books))
      (customer_row_counted b (record { branch = b; number = next b books.customers; it = it }) books low refl) termed
      (subst (λ (m : ℕ).
      HoldsWith (raise b customers_kind 1 (counts_of books)) s
      (record books { customers = books.customers ++ record { branch = b; number = m; it = it } ∷ [] }))
      is holds)

  pub payment_added : (n : ℕ) (it : Payment) → n ≡ next b books.payments
      → HoldsWith (raise b payments_kind 1 (counts_of books)) s (record books { payments = books.payments ++ record { branch = b; number = n; it = it } ∷ [] })
      → Holds s (record books { payments = put b (λ _. it) books.payments })
  payment_added n it is holds =
      agreed s _ (raise b payments_kind 1 (counts_of books))
      (payment_row_counted b (record { branch = b; number = next b books.payments; it = it }) books low refl) termed
      (subst (λ (m : ℕ).
      HoldsWith (raise b payments_kind 1 (counts_of books)) s
      (record books { payments = books.payments ++ record { branch = b; number = m; it = it } ∷ [] }))
      is holds)

  -- the counts with the new rental, and with the copy out
  abbrev rented : ℕ → ℕ → Counts
  rented n copy = put_out (record { branch = b; copy = copy; rental = n }) (raise b rentals_kind 1 (counts_of books))

  -- the books with one rental and its terms more, under the given numbers
  abbrev with_rental : ℕ → ℕ → Rental → Terms → Books
  with_rental n m it terms = record books {
    rentals = books.rentals ++ record { branch = b; number = n; it = it } ∷ [];
    terms = books.terms ++ record { branch = b; number = m; it = terms } ∷ [];
  }

  -- the books with the rental and the given terms
  abbrev renting : Rental → List Terms → Books
  renting it now = record books { rentals = put b (λ _. it) books.rentals; terms = put_all b (map (λ (terms : Terms). λ _. terms) now) books.terms }

  pub rental_added : (n : ℕ) (it : Rental) (terms : Terms) (now : List Terms)
      → it.returned ≡ None → n ≡ next b books.rentals → next b books.terms ≡ next b books.rentals
      → now ≡ terms ∷ []
      → HoldsWith (put_out (record { branch = b; copy = it.copy; rental = n }) (raise b rentals_kind 1 (counts_of books))) s (with_rental n n it terms)
      → Holds s (renting it now)
  rental_added n it terms now is_open is same one holds =
      let k = next b books.rentals in
      let grown : List (Row Terms) = books.terms ++ record { branch = b; number = next b books.terms; it = terms } ∷ [] in
      subst (λ (its : List Terms). Holds s (renting it its)) (sym one)
      (agreed s _ (rented k it.copy) (rental_row_counted b (record { branch = b; number = k; it = it }) (record books { terms = grown }) low refl is_open)
      (more_termed b (next b books.terms) k it terms books same termed)
      (subst (λ (m : ℕ). HoldsWith (rented k it.copy) s (with_rental k m it terms)) (sym same)
      (subst (λ (m : ℕ). HoldsWith (rented m it.copy) s (with_rental m m it terms)) is holds)))

  pub import_added : (first m : ℕ) (films : List ℕ) (lot : Text) → first ≡ next b books.copies → m ≡ length films
      → HoldsWith (raise b copies_kind m (counts_of books)) s
      (record books { copies = books.copies ++ copies_from b first films; lots = books.lots ++ record { owner = b; it = lot } ∷ [] })
      → Holds s (with_import b films lot books)
  import_added first m films lot is all holds =
      let lots = books.lots ++ record { owner = b; it = lot } ∷ [] in
      let makes = map (imported b) films in
      agreed s _ (raise b copies_kind (length makes) (counts_of books)) (made_counted b books low makes lots) termed
      (made_stand b books low s first m makes (λ rs. record books { copies = rs; lots = lots }) is (all ∙ sym (length_map (imported b) films)) holds)

-- ---- the command itself

pub kept_added : (s : State) (b : ℕ) (command : Command) (reply : Text) (books : Books) → 1 ≤ b
    → AreTermed books → HoldsWith (raise b kept_kind 1 (counts_of books)) s (with_kept b command reply books)
    → Holds s (with_kept b command reply books)
kept_added s b command reply books low termed holds =
    agreed s (with_kept b command reply books) (raise b kept_kind 1 (counts_of books))
    (kept_counted b (record { command = command; reply = reply }) books low) termed holds

-- ---- after an act was carried out, each count of the books may still grow by one

-- an act makes at most a million copies
few_copies : (limits : Limits) (b : ℕ) (command : Command) (act : Act) (rows : RowsFound) (books : Books)
    → AreMarked b (seen_act act) rows books → HasFewLines (seen_act act) rows
    → grown CopyRows (edits_of (rules_of limits) b command (seen_act act) books) ≤ 1_000_000
few_copies limits b command (act.Import lot file) rows books marked few_lines =
    let films = films_in (stock_of file) in
    let few : length films ≤ 1000 = (stock_fits file).1 in
    let many = length_map (imported b) films in
    omega (arith, few, many)
few_copies limits b command (act.Receive from number missing) rows books marked few_lines =
    let few = few_come b from number missing rows.arrival books marked few_lines in omega (arith, few)
few_copies limits b command act rows books marked few_lines = omega arith

-- the counts of each branch stay below 2^32 after an act
counts_small : (rules : Rules) (b : ℕ) (command : Command) (act : model.Act) (books : Books)
    → IsHeld books → grown CopyRows (edits_of rules b command act books) ≤ 1_000_000
    → (kind : CountKind) (a : ℕ) → count_in (kind_number kind) a (book_acted rules b command act books) < 2 ^ 32
counts_small rules b command act books held copies kind.Customers a =
    let few = held.most_rows Customers a in
    let more = rows_edited a b (edits_of rules b command act books) books Customers in
    let one = (edits_small rules b command act books).customers in
    omega (arith, few, more, one)
counts_small rules b command act books held copies kind.Copies a =
    let few = held.most_rows CopyRows a in
    let more = rows_edited a b (edits_of rules b command act books) books CopyRows in
    omega (arith, few, more, copies)
counts_small rules b command act books held copies kind.Rentals a =
    let few = held.most_rows Rentals a in
    let more = rows_edited a b (edits_of rules b command act books) books Rentals in
    let one = (edits_small rules b command act books).rentals in
    omega (arith, few, more, one)
counts_small rules b command act books held copies kind.Payments a =
    let few = held.most_rows Payments a in
    let more = rows_edited a b (edits_of rules b command act books) books Payments in
    let one = (edits_small rules b command act books).payments in
    omega (arith, few, more, one)
counts_small rules b command act books held copies kind.Kept a =
    let few = held.most_kept a in
    subst (λ (rows : List (Owned Kept)). length (owned_by a rows) < 2 ^ 32) (sym (acted_kept rules b command act books).0) (omega (arith, few))

pub acted_once : (limits : Limits) (b : ℕ) (command : Command) (act : Act) (rows : RowsFound) (books : Books)
    → 1 ≤ b → IsHeld books → AreMarked b (seen_act act) rows books → HasFewLines (seen_act act) rows
    → CountsOnce b kind.Kept (counts_of (book_acted (rules_of limits) b command (seen_act act) books))
acted_once limits b command act rows books low held marked few_lines =
    let rules = rules_of limits in
    let few = held.most_office_kept in
    let office = subst (λ (it : Catalogue). length it.kept < 2 ^ 32) (sym (catalogue_stays rules b command (seen_act act) books)) (omega (arith, few)) in
    small_once kind.Kept b (book_acted rules b command (seen_act act) books) low office
    (counts_small rules b command (seen_act act) books held (few_copies limits b command act rows books marked few_lines))
