-- What rows the tables of counts must have for rows in order, and what an audit says of such rows.
use Rattle.std.specs.Prelude.{◌≡◌, ◌↔◌, IsTrue, ◌==◌, ◌&&◌, ℕ, Bool, true, false, List, [], ◌∷◌, map, filter, flat_map, fold, length, is_none, IsPermutation}
use Rattle.shop_model.specs.Rows.{numbered}
use Rattle.shop_schema.specs.RowValues.{counter_columns, out_columns, pair_columns}
use Rattle.shop_schema.specs.Counts.{Count, Out, Pair, count_pair}
use Rattle.shop_model.specs.Values.{Rules}
use Rattle.shop_model.specs.Books.{Books}
use Rattle.shop_model.specs.Sound.{IsSound, widest}
use Rattle.audit_rows.specs.Ordered.{HaveOrderedRows}
use Rattle.shop_types.specs.declared.audit.Audit.{Audit}
use Rattle.books_audit.specs.Audited.{CountsCustody}
use Rattle.audit_rows.specs.Seen.{seen_copy, seen_line}
use Rattle.audit_rows.specs.declared.books.OrderedBooks.{OrderedBooks}
use Rattle.audit_rows.specs.declared.rows.CheckedRow.{CheckedRow}
use Rattle.audit_rows.specs.declared.books.CheckedTerms.{CheckedTerms}
use Rattle.audit_rows.specs.declared.rows.CheckedHeader.{CheckedHeader}
use Rattle.shop_types.specs.declared.rental.Rental.{Rental}
use Rattle.books_audit.specs.Tables.{rows_in}
use Rattle.books_audit.specs.declared.tables.TableRows.{TableRows}
use Rattle.books_audit.specs.declared.tables.TheConstants.{COUNTERS, OUTS, PAIRS}

-- ---- the counts of rows in order, which are the counts of books

abbrev pub how_many : {X : Type 0} → (X → ℕ) → ℕ → List X → ℕ
how_many branch b xs = length (filter (λ x. branch x == b) xs)

abbrev pub counts_of_branch : OrderedBooks → ℕ → List Count
counts_of_branch rows b =
    record { caller = b; kind = 0; last = how_many (λ x. x.branch) b rows.customers.items }
    ∷ record { caller = b; kind = 1; last = how_many (λ x. x.branch) b rows.copies.items }
    ∷ record { caller = b; kind = 2; last = how_many (λ x. x.branch) b rows.rentals.items }
    ∷ record { caller = b; kind = 3; last = how_many (λ x. x.branch) b rows.payments.items }
    ∷ record { caller = b; kind = 4; last = how_many (λ x. x.branch) b rows.kept.items }
    ∷ []

abbrev pub counters_in : OrderedBooks → List Count
counters_in rows =
    record { caller = 0; kind = 4; last = length rows.office_keys.items } ∷ flat_map (λ it. counts_of_branch rows it.0) (numbered rows.branches.items)

abbrev pub outs_among : List (CheckedRow Rental) → List Out
outs_among rentals =
    map (λ (x : CheckedRow Rental). record { branch = x.branch; copy = x.it.copy; rental = x.number }) (filter (λ x. is_none x.it.returned) rentals)

abbrev pub outs_in : OrderedBooks → List Out
outs_in rows = outs_among rows.rentals.items

-- consignments from one branch to another, counted one after another
abbrev pub pairs_among : List Pair → List CheckedHeader → List Pair
pairs_among pairs headers = fold (λ pairs (it : CheckedHeader). count_pair it.source it.addressee pairs) pairs headers

abbrev pub pairs_in : OrderedBooks → List Pair
pairs_in rows = pairs_among [] rows.headers.items

-- each rental has its row of terms, under its branch and number, one after another
abbrev pub are_termed : List (CheckedRow CheckedTerms) → List (CheckedRow Rental) → Bool
are_termed [] [] = true
are_termed [] (rental ∷ rentals) = false
are_termed (it ∷ terms) [] = false
are_termed (it ∷ terms) (rental ∷ rentals) = it.branch == rental.branch && it.number == rental.number && are_termed terms rentals

-- the tables of counts have the counts of the rows, and each rental has its terms
pub record HaveCounts (tables : TableRows) (rows : OrderedBooks) : Type 0 where
  pub counters : IsPermutation (rows_in tables COUNTERS) (map counter_columns (counters_in rows))
  pub outs : IsPermutation (rows_in tables OUTS) (map out_columns (outs_in rows))
  pub pairs : IsPermutation (rows_in tables PAIRS) (map pair_columns (pairs_in rows))
  pub terms : are_termed rows.terms.items rows.rentals.items ≡ true

-- the audit says of the rows what holds of the books that have them
pub record AuditsOrdered (rows : OrderedBooks) (audit : Audit) : Type 0 where
  pub sound : (rules : Rules) (whole : Books) → HaveOrderedRows rows whole → IsTrue audit.sound ↔ IsSound (widest rules) whole
  pub counts : CountsCustody audit (map seen_copy rows.copies.items) (map seen_line rows.lines.items)
