-- The tables of the branches' rows, as lists of the books.
use Rattle.shop_schema.proofs.Common.{refl, true, Option, None, Some, are_kept, Moment, CopyState, Here, Sent, Scrapped, Owned, Text, Customer, Rental, Terms}
use Rattle.shop_schema.proofs.Common.{Payment, BookCopy, customer_table, copy_table, rental_table, rental_terms_table, payment_table, lot_table}
use Rattle.shop_schema.proofs.Common.{customer_columns, copy_columns, rental_columns, terms_columns, payment_columns, lot_columns, IsCustomer, IsCopy, IsRental}
use Rattle.shop_schema.proofs.Common.{IsTerms, IsPayment, CopyRows, Customers, Payments, Rentals, TermRows, ◌≡◌, ℕ, AllByRecursion, column, number_value, Books}
use Rattle.shop_schema.proofs.Common.{Row, is_of, AreNumbered, IsHeld, IsRow, TableOf}
use Rattle.shop_schema.proofs.Listed.{Plain, listed}
use Rattle.shop_schema.proofs.OneRow.{same_row}
use Rattle.shop_store.proofs.BranchRows.{BranchRows}
use Rattle.shop_schema.proofs.ShopTables as table

-- rows that fit, by their table and what holds of them in all books that tables can hold
abbrev branch_rows : {A : Type 0} (Fits : A → Type 0) (rows : Plain (Row A)) → TableOf rows.columns (IsRow Fits)
    → ((row : Row A) → (column (rows.columns row) 0 ≡ number_value row.branch) × (column (rows.columns row) 1 ≡ number_value row.number))
    → ((books : Books) → IsHeld books → AllByRecursion (IsRow Fits) (rows.part.items books))
    → ((books : Books) → IsHeld books → (b : ℕ) → AreNumbered (is_of b) (λ row. row.number) (rows.part.items books))
    → ((row : Row A) → are_kept rows.table.columns (rows.columns row) ≡ true) → BranchRows A
branch_rows Fits rows table begins valued counted kept = record {
  rows = rows;
  Fits = Fits;
  one = same_row table;
  begins = begins;
  valued = valued;
  counted = counted;
  kept = kept;
}

abbrev pub customers : BranchRows Customer
customers =
    branch_rows IsCustomer
    (listed 10 customer_table customer_columns (λ books. books.customers) (λ xs books. record books { customers = xs })
    (record { place = refl; uncounted = refl; unstamped = refl }) refl (λ counts books. refl)
    (λ counts xs books. refl) (λ xs books. refl) (λ xs ys books. refl))
    table.customers (λ row. (refl, refl)) (λ books held. held.values.rows Customers) (λ books held. held.numbers.rows Customers) (λ row. refl)

pub kept_copy : (c : Row BookCopy) → are_kept copy_table.columns (copy_columns c) ≡ true
kept_copy c = go c.it.state
  where
    go : (s : CopyState) → are_kept copy_table.columns (copy_columns (record c { it = record c.it { state = s } })) ≡ true
    go Here = refl
    go Sent = refl
    go Scrapped = refl

abbrev pub copies : BranchRows BookCopy
copies =
    branch_rows IsCopy
    (listed 11 copy_table copy_columns (λ books. books.copies) (λ xs books. record books { copies = xs })
    (record { place = refl; uncounted = refl; unstamped = refl }) refl (λ counts books. refl)
    (λ counts xs books. refl) (λ xs books. refl) (λ xs ys books. refl))
    table.copies (λ row. (refl, refl)) (λ books held. held.values.rows CopyRows) (λ books held. held.numbers.rows CopyRows) kept_copy

pub kept_rental : (c : Row Rental) → are_kept rental_table.columns (rental_columns c) ≡ true
kept_rental c = go c.it.returned
  where
    go : (r : Option Moment) → are_kept rental_table.columns (rental_columns (record c { it = record c.it { returned = r } })) ≡ true
    go None = refl
    go (Some moment) = refl

abbrev pub rentals : BranchRows Rental
rentals =
    branch_rows IsRental
    (listed 12 rental_table rental_columns (λ books. books.rentals) (λ xs books. record books { rentals = xs })
    (record { place = refl; uncounted = refl; unstamped = refl }) refl (λ counts books. refl)
    (λ counts xs books. refl) (λ xs books. refl) (λ xs ys books. refl))
    table.rentals (λ row. (refl, refl)) (λ books held. held.values.rows Rentals) (λ books held. held.numbers.rows Rentals) kept_rental

abbrev pub terms : BranchRows Terms
terms =
    branch_rows IsTerms
    (listed 21 rental_terms_table terms_columns (λ books. books.terms) (λ xs books. record books { terms = xs })
    (record { place = refl; uncounted = refl; unstamped = refl }) refl (λ counts books. refl)
    (λ counts xs books. refl) (λ xs books. refl) (λ xs ys books. refl))
    table.terms (λ row. (refl, refl)) (λ books held. held.values.rows TermRows) (λ books held. held.numbers.rows TermRows) (λ row. refl)

pub kept_payment : (c : Row Payment) → are_kept payment_table.columns (payment_columns c) ≡ true
kept_payment c = go c.it.rental
  where
    go : (r : Option ℕ) → are_kept payment_table.columns (payment_columns (record c { it = record c.it { rental = r } })) ≡ true
    go None = refl
    go (Some number) = refl

abbrev pub payments : BranchRows Payment
payments =
    branch_rows IsPayment
    (listed 13 payment_table payment_columns (λ books. books.payments) (λ xs books. record books { payments = xs })
    (record { place = refl; uncounted = refl; unstamped = refl }) refl (λ counts books. refl)
    (λ counts xs books. refl) (λ xs books. refl) (λ xs ys books. refl))
    table.payments (λ row. (refl, refl)) (λ books held. held.values.rows Payments) (λ books held. held.numbers.rows Payments) kept_payment

abbrev pub lots : Plain (Owned Text)
lots =
    listed 14 lot_table lot_columns (λ books. books.lots) (λ xs books. record books { lots = xs })
    (record { place = refl; uncounted = refl; unstamped = refl }) refl (λ counts books. refl) (λ counts xs books. refl) (λ xs books. refl) (λ xs ys books. refl)
