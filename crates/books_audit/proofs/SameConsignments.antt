-- Two books for which the same tables stand have the same consignments.
use Rattle.shop_schema.proofs.Common.{◌≡◌, ◌≤◌, ◌+◌, ℕ, List, [], ◌∷◌, map, length, true, Some, sym, subst, ◌∙◌, arith, IsPermutation, AllByRecursion}
use Rattle.shop_schema.proofs.Common.{all-append, all_map, all_weaker, flat_map, IsPermutation-sym, IsPermutation-trans, IsPermutation-map, map-map}
use Rattle.shop_schema.proofs.Common.{map-flat_map, flat_map_same_on, IsPermutation-flat_map, numbered, numbered_from, Books, Line, Consignment}
use Rattle.shop_schema.proofs.Common.{consignment_columns, line_rows, IsNumber, IsLine, IsConsignment}
use Rattle.shop_schema.proofs.OneRow.{same_row}
use Rattle.audit_rows.specs.Lists.{climbs, is_below}
use Rattle.audit_rows.specs.Joins.{Header, header_key, placed_key, header, placed, put_line}
use Rattle.audit_rows.proofs.Canon.{ascending_from_climbs}
use Rattle.audit_rows.proofs.JoinLemmas.{join_again, join_complete, unmapped_ascending}
use Rattle.audit_rows.proofs.Standing.{same_rows}
use Rattle.books_audit.specs.AuditTables as audited
use Rattle.books_audit.specs.Columns.{header_columns, IsHeader, placed_columns, IsPlaced}
use Rattle.books_audit.proofs.Ranges.{ranged}
use Rattle.books_audit.specs.declared.tables.TableRows.{TableRows}
use Rattle.books_audit.specs.declared.tables.TheConstants.{CONSIGNMENTS, LINES}
use Rattle.books_audit.specs.Tables.{rows_in}
use Rattle.books_audit.specs.Audits.{HaveBooks}

pub as_headers : (its : List Consignment) → map header_columns (map header its) ≡ map consignment_columns its
as_headers its = map-map header_columns header its

pub as_placed : (its : List Consignment) → map placed_columns (flat_map placed its) ≡ flat_map line_rows its
as_placed its = map-flat_map placed_columns placed its ∙ flat_map_same_on _ _ (λ it. map-map placed_columns (put_line (header it)) (numbered it.lines)) its

-- ---- their rows are such as the program can hold

pub headers_fit : (its : List Consignment) → AllByRecursion IsConsignment its → AllByRecursion IsHeader (map header its)
headers_fit its h =
    all_map IsHeader header its
    (all_weaker IsConsignment (λ it. IsHeader (header it))
    (λ it fits. record { source = fits.source; addressee = fits.addressee; number = fits.number; place = fits.place }) its h)

lines_of_one : (h : Header) (k : ℕ) (ls : List Line) → IsNumber h.source → IsNumber h.addressee
    → IsNumber h.number → 1 ≤ k → k + length ls ≤ 4_294_967_296 → AllByRecursion IsLine ls
    → AllByRecursion IsPlaced (map (put_line h) (numbered_from k ls))
lines_of_one h k [] s a n low high all = tt
lines_of_one h k (l ∷ ls) s a n low high all = (
  record { source = s; addressee = a; number = n; at = ranged k (low, omega (arith, high)); line = all.0 },
  lines_of_one h (k + 1) ls s a n (omega (arith, low)) (omega (arith, high)) all.1,
)

pub lines_fit : (its : List Consignment) → AllByRecursion IsConsignment its → AllByRecursion IsPlaced (flat_map placed its)
lines_fit [] h = tt
lines_fit (it ∷ its) h =
    all-append IsPlaced (placed it) (flat_map placed its)
    (lines_of_one (header it) 1 it.lines h.0.source h.0.addressee h.0.number (omega arith) (let few = h.0.few in omega (arith, few)) h.0.lines)
    (lines_fit its h.1)

pub header_rows : (tables : TableRows) (b : Books) → HaveBooks tables b
    → IsPermutation (rows_in tables CONSIGNMENTS) (map header_columns (map header b.consignments))
header_rows tables b t = subst (IsPermutation (rows_in tables CONSIGNMENTS)) (sym (as_headers b.consignments)) t.rows.consignments

pub placed_rows : (tables : TableRows) (b : Books) → HaveBooks tables b
    → IsPermutation (rows_in tables LINES) (map placed_columns (flat_map placed b.consignments))
placed_rows tables b t = subst (IsPermutation (rows_in tables LINES)) (sym (as_placed b.consignments)) t.rows.lines

some_same : (a b : List Consignment) → Some a ≡ Some b → a ≡ b
some_same a b h = cc

module _ (tables : TableRows) (c b : Books) (s : HaveBooks tables c) (t : HaveBooks tables b) where
  headers : IsPermutation (map header b.consignments) (map header c.consignments)
  headers =
      same_rows header_columns IsHeader (same_row audited.headers) (rows_in tables CONSIGNMENTS)
      (map header b.consignments) (map header c.consignments) (headers_fit b.consignments t.values.consignments)
      (headers_fit c.consignments s.values.consignments) (header_rows tables b t) (header_rows tables c s)

  lines : IsPermutation (flat_map placed b.consignments) (flat_map placed c.consignments)
  lines =
      same_rows placed_columns IsPlaced (same_row audited.lines) (rows_in tables LINES)
      (flat_map placed b.consignments) (flat_map placed c.consignments) (lines_fit b.consignments t.values.consignments)
      (lines_fit c.consignments s.values.consignments) (placed_rows tables b t) (placed_rows tables c s)

  -- if the consignments of c can be put in the order of their keys, the consignments of b are the same
  pub consignments : (its : List Consignment) → IsPermutation c.consignments its → climbs (map header_key (map header its)) ≡ true
      → climbs (map placed_key (flat_map placed its)) ≡ true → IsPermutation b.consignments c.consignments
  consignments its p up down =
      let found = join_complete b.consignments (map header its) (flat_map placed its) (IsPermutation-trans _ _ _ headers (IsPermutation-map header _ _ p))
      (IsPermutation-trans _ _ _ lines (IsPermutation-flat_map placed _ _ p)) up down in
      let climbing =
      unmapped_ascending header (λ g h. is_below (header_key g) (header_key h) ≡ true) its (ascending_from_climbs header_key (map header its) up) in
      let same : found.0 ≡ its = some_same found.0 its (sym found.2 ∙ join_again its climbing) in
      IsPermutation-trans _ _ _ (subst (IsPermutation b.consignments) same found.1) (IsPermutation-sym _ _ p)
