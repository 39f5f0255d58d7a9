-- The books that have rows in order are in order themselves.
use Rattle.shop_types.proofs.Common.{◌≡◌, ◌↔◌, ◌&&◌, List, [], ◌∷◌, map, Bool, true, refl, sym, ap, ◌∙◌, IsTrue, AllByRecursion, flat_map, list_all, Row, Books}
use Rattle.shop_types.proofs.Common.{BookCopy, Table, CopyRows, Rentals, RowOf, rows_of}
use Rattle.audit_rows.specs.declared.books.OrderedBooks.{OrderedBooks}
use Rattle.audit_rows.specs.declared.rows.CheckedCast.{CheckedCast}
use Rattle.audit_rows.specs.declared.rows.CheckedLot.{CheckedLot}
use Rattle.audit_rows.specs.declared.rows.CheckedKept.{CheckedKept}
use Rattle.audit_rows.specs.declared.rows.CheckedHeader.{CheckedHeader}
use Rattle.audit_rows.specs.declared.rows.CheckedLine.{CheckedLine}
use Rattle.audit_rows.specs.Lists.{climbs}
use Rattle.audit_rows.specs.Canons.{row_key}
use Rattle.audit_rows.specs.Joins.{header, placed, header_key, placed_key}
use Rattle.audit_rows.specs.Seen.{seen_book_copy, seen_copy, seen_rental_row, seen_header, seen_placed}
use Rattle.audit_rows.specs.States.{state_again}
use Rattle.audit_rows.specs.Tables.{CheckedOf, checked_columns, checked_row, checked_key, checked_rows, all_tables, each}
use Rattle.audit_rows.specs.Ordered.{AreOrdered, are_shared_ordered, are_rows_ordered, are_others_ordered, are_consignments_ordered, is_ordered}
use Rattle.audit_rows.specs.Ordered.{HaveOrderedRows}
use Rattle.audit_rows.proofs.Keys.{both}
use Rattle.audit_rows.proofs.Maps.{map-twice, map-undone}
use Rattle.audit_rows.proofs.Tests.{moved, all_parts}
use Rattle.audit_rows.proofs.JoinLemmas.{join_sound}

-- ---- what holds of each table

all_pass : {X : Type 0} (p : X → Bool) (xs : List X) → list_all p xs ≡ true → AllByRecursion (λ x. p x ≡ true) xs
all_pass p [] h = tt
all_pass p (x ∷ xs) h = let parts = both (p x) (list_all p xs) h in (parts.0, all_pass p xs parts.1)

-- a test that passes for all tables does for each
pub each_passes : (p : Table → Bool) → list_all p all_tables ≡ true → (t : Table) → p t ≡ true
each_passes p h = each (λ t. p t ≡ true) (all_pass p all_tables h)

pub all_passing : {X : Type 0} (p : X → Bool) → ((x : X) → p x ≡ true) → (xs : List X) → list_all p xs ≡ true
all_passing p h [] = refl
all_passing p h (x ∷ xs) = λ i. h x i && all_passing p h xs i

-- ---- tests of order

pub ordered_is : (books : OrderedBooks) → IsTrue (is_ordered books) ↔ AreOrdered books
ordered_is books = (
  from,
  λ o i.
      (o.office_keys i && o.casts i) && all_passing (λ t. climbs (map checked_key (checked_rows books t))) o.rows all_tables i
      && (o.lots i && o.kept i) && (o.headers i && o.lines i),
)
  where
    from : IsTrue (is_ordered books) → AreOrdered books
    from h =
        let all =
        all_parts (are_shared_ordered books) (are_rows_ordered (checked_rows books) ∷ are_others_ordered books ∷ are_consignments_ordered books ∷ []) h in
        let shared = both (climbs books.office_keys.items) (climbs (map (λ (row : CheckedCast). row.film ∷ row.actor ∷ []) books.casts.items)) all.0 in
        let others =
        both (climbs (map (λ (row : CheckedLot). row.branch ∷ row.name) books.lots.items))
        (climbs (map (λ (row : CheckedKept). row.branch ∷ row.key) books.kept.items)) all.1.1.0 in
        let sent =
        both (climbs (map (λ (row : CheckedHeader). row.source ∷ row.addressee ∷ row.number ∷ []) books.headers.items))
        (climbs (map (λ (row : CheckedLine). row.source ∷ row.addressee ∷ row.number ∷ row.line ∷ []) books.lines.items)) all.1.1.1.0 in
        record {
          office_keys = shared.0;
          casts = shared.1;
          rows = each_passes (λ t. climbs (map checked_key (checked_rows books t))) all.1.0;
          lots = others.0;
          kept = others.1;
          headers = sent.0;
          lines = sent.1;
        }

-- ---- rows and books

pub book_copy_again : (it : BookCopy) → seen_book_copy (checked_columns CopyRows it) ≡ it
book_copy_again it = λ i. record it { state = state_again it.state i }

pub copy_again : (row : Row BookCopy) → seen_copy (checked_row CopyRows row) ≡ row
copy_again row = λ i. record row { it = book_copy_again row.it i }

module _ (rows : OrderedBooks) (c : Books) (s : HaveOrderedRows rows c) where
  -- if `seen` recovers a row from what is checked of it, the books have the rows that `seen` recovers
  pub rows_seen : (t : Table) (seen : CheckedOf t → Row (RowOf t))
      → ((row : Row (RowOf t)) → seen (checked_row t row) ≡ row) → rows_of c t ≡ map seen (checked_rows rows t)
  rows_seen t seen again = sym (map-undone seen (checked_row t) again (rows_of c t)) ∙ ap (map seen) (s.rows t)

  pub copies_seen : c.copies ≡ map seen_copy rows.copies.items
  copies_seen = rows_seen CopyRows seen_copy copy_again

  pub rentals_seen : c.rentals ≡ map seen_rental_row rows.rentals.items
  rentals_seen = rows_seen Rentals seen_rental_row (λ row. refl)

  -- a test of a table's rows is one of what is checked of them
  pub rows_test : (t : Table) (p : Row (RowOf t) → Bool) (q : CheckedOf t → Bool)
      → ((row : Row (RowOf t)) → p row ≡ q (checked_row t row)) → list_all p (rows_of c t) ≡ list_all q (checked_rows rows t)
  rows_test t = moved (checked_row t) (rows_of c t) (checked_rows rows t) (s.rows t)

  pub rows_climb : AreOrdered rows → (t : Table) → climbs (map row_key (rows_of c t)) ≡ true
  rows_climb o t = ap climbs (sym (map-twice checked_key (checked_row t) (rows_of c t)) ∙ ap (map checked_key) (s.rows t)) ∙ o.rows t

  pub headers_climb : AreOrdered rows → climbs (map header_key (map header s.consignments.by_key)) ≡ true
  headers_climb o =
      ap climbs (ap (map header_key) (join_sound _ _ s.consignments.by_key s.consignments.joined).0 ∙ map-twice header_key seen_header rows.headers.items)
      ∙ o.headers

  pub lines_climb : AreOrdered rows → climbs (map placed_key (flat_map placed s.consignments.by_key)) ≡ true
  lines_climb o =
      ap climbs (ap (map placed_key) (join_sound _ _ s.consignments.by_key s.consignments.joined).1 ∙ map-twice placed_key seen_placed rows.lines.items)
      ∙ o.lines
