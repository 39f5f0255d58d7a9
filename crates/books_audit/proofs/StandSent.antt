-- If the tables of consignments stand for books, they can be read in the order of their keys and joined.
use Rattle.shop_schema.proofs.Common.{◌≡◌, ◌∙◌, ◌+◌, ◌<◌, ◌==◌, ◌&&◌, ◌||◌, ℕ, List, [], ◌∷◌, ◌++◌, map, not, Bool, true, false, refl, sym, ap, arith}
use Rattle.shop_schema.proofs.Common.{IsPermutation, AllByRecursion, flat_map, list_any, bytes_eq, nat_tests, IsPermutation-map, IsPermutation-sym}
use Rattle.shop_schema.proofs.Common.{IsPermutation-trans, map-map, numbered_from, are_different, Books, Line, Consignment}
use Rattle.std.proofs.lemmas.List.Folds.{list_any-append}
use Rattle.books_audit.specs.Listed.{AreRows}
use Rattle.books_audit.specs.AuditTables as audited
use Rattle.books_audit.specs.Rows.{header_row, IsHeaderRow, placed_row, IsLineRow}
use Rattle.audit_rows.specs.Lists.{climbs}
use Rattle.audit_rows.specs.Joins.{Header, Placed, header, placed, put_line, header_key, placed_key}
use Rattle.audit_rows.specs.Seen.{seen_header, seen_placed}
use Rattle.audit_rows.specs.declared.rows.CheckedHeader.{CheckedHeader}
use Rattle.audit_rows.specs.declared.rows.CheckedLine.{CheckedLine}
use Rattle.audit_rows.proofs.JoinLemmas.{join_complete}
use Rattle.audit_rows.proofs.Keys.{both, different-map}
use Rattle.audit_rows.proofs.MarkLemmas.{not_true}
use Rattle.audit_rows.proofs.Tests.{different_congr}
use Rattle.books_audit.specs.declared.tables.TableRows.{TableRows}
use Rattle.books_audit.specs.declared.tables.TheConstants.{CONSIGNMENTS, LINES}
use Rattle.books_audit.specs.Tables.{rows_in}
use Rattle.books_audit.specs.Audits.{HaveBooks}
use Rattle.books_audit.specs.ReadInOrder.{AreJoined}
use Rattle.books_audit.specs.ReadLists.{RowsRead, AreKeyed}
use Rattle.books_audit.proofs.CustodyAudits.{placed_again}
use Rattle.books_audit.proofs.Canonical.{same_consignment, three}
use Rattle.books_audit.proofs.SameConsignments.{headers_fit, lines_fit, header_rows, placed_rows}
use Rattle.books_audit.proofs.StandKeyed.{seen_bag, stands_keyed}

-- ---- their keys differ

abbrev same_place : Placed → Placed → Bool
same_place x y = bytes_eq (placed_key x) (placed_key y)

none_joined : {X : Type 0} (p : X → Bool) (xs ys : List X) → list_any p xs ≡ false → list_any p ys ≡ false → list_any p (xs ++ ys) ≡ false
none_joined p xs ys h k = list_any-append p xs ys ∙ (λ i. h i || k i)

different_joined : {X : Type 0} (same : X → X → Bool) (xs ys : List X) → are_different same xs ≡ true
    → are_different same ys ≡ true → AllByRecursion (λ x. list_any (same x) ys ≡ false) xs → are_different same (xs ++ ys) ≡ true
different_joined same [] ys h k none = k
different_joined same (x ∷ xs) ys h k none =
    let parts = both (not (list_any (same x) xs)) (are_different same xs) h in
    let here = none_joined (same x) xs ys (not_true (list_any (same x) xs) parts.0) none.0 in
    (λ i. not (here i) && different_joined same xs ys parts.1 k none.1 i)

last_differs : (a b c : Bool) → (a && (b && (c && (false && true)))) ≡ false
last_differs true true true = refl
last_differs true true false = refl
last_differs true false c = refl
last_differs false b c = refl

header_differs : (a b c d : Bool) → (a && b && c) ≡ false → (a && (b && (c && (d && true)))) ≡ false
header_differs true true true d h = cc
header_differs true true false d h = refl
header_differs true false c d h = refl
header_differs false b c d h = refl

none_later : (h : Header) (n k : ℕ) (l : Line) (ls : List Line) → n < k
    → list_any (same_place (put_line h (n, l))) (map (put_line h) (numbered_from k ls)) ≡ false
none_later h n k l [] low = refl
none_later h n k l (m ∷ ls) low =
    let apart : (n == k) ≡ false = grind (arith, nat_tests) in
    let here : same_place (put_line h (n, l)) (put_line h (k, m)) ≡ false
    =
    ap (λ t. (h.source == h.source) && ((h.addressee == h.addressee) && ((h.number == h.number) && (t && true)))) apart
    ∙ last_differs (h.source == h.source) (h.addressee == h.addressee) (h.number == h.number) in
    (λ i. here i || none_later h n (k + 1) l ls (omega (arith, low)) i)

one_apart : (h : Header) (k : ℕ) (ls : List Line) → are_different same_place (map (put_line h) (numbered_from k ls)) ≡ true
one_apart h k [] = refl
one_apart h k (l ∷ ls) = λ i. not (none_later h k (k + 1) l ls (omega arith) i) && one_apart h (k + 1) ls i

none_of_one : (it : Consignment) (n : ℕ) (l : Line) (h : Header) (k : ℕ) (ls : List Line)
    → (it.source == h.source && it.addressee == h.addressee && it.number == h.number) ≡ false
    → list_any (same_place (put_line (header it) (n, l))) (map (put_line h) (numbered_from k ls)) ≡ false
none_of_one it n l h k [] apart = refl
none_of_one it n l h k (m ∷ ls) apart =
    let here = header_differs (it.source == h.source) (it.addressee == h.addressee) (it.number == h.number) (n == k) apart in
    (λ i. here i || none_of_one it n l h (k + 1) ls apart i)

none_of_others : (it : Consignment) (n : ℕ) (l : Line) (its : List Consignment) → list_any (same_consignment it) its ≡ false
    → list_any (same_place (put_line (header it) (n, l))) (flat_map placed its) ≡ false
none_of_others it n l [] none = refl
none_of_others it n l (other ∷ its) none = go (same_consignment it other) refl none (λ h. none_of_others it n l its h)
  where
    go : (b : Bool) → same_consignment it other ≡ b → (b || list_any (same_consignment it) its) ≡ false
        → (list_any (same_consignment it) its ≡ false → list_any (same_place (put_line (header it) (n, l))) (flat_map placed its) ≡ false)
        → list_any (same_place (put_line (header it) (n, l))) (placed other ++ flat_map placed its) ≡ false
    go true e h more = cc
    go false e h more = none_joined _ (placed other) (flat_map placed its) (none_of_one it n l (header other) 1 other.lines e) (more h)

all_apart : (it : Consignment) (k : ℕ) (ls : List Line) (its : List Consignment) → list_any (same_consignment it) its ≡ false
    → AllByRecursion (λ x. list_any (same_place x) (flat_map placed its) ≡ false) (map (put_line (header it)) (numbered_from k ls))
all_apart it k [] its none = tt
all_apart it k (l ∷ ls) its none = (none_of_others it k l its none, all_apart it (k + 1) ls its none)

lines_apart : (its : List Consignment) → are_different same_consignment its ≡ true → are_different same_place (flat_map placed its) ≡ true
lines_apart [] h = refl
lines_apart (it ∷ its) h =
    let parts = both (not (list_any (same_consignment it) its)) (are_different same_consignment its) h in
    different_joined same_place (placed it) (flat_map placed its) (one_apart (header it) 1 it.lines)
    (lines_apart its parts.1) (all_apart it 1 it.lines its (not_true (list_any (same_consignment it) its) parts.0))

-- ---- from books that stand

module _ (tables : TableRows) (b : Books) (t : HaveBooks tables b) where
  pub headers_can_be_read : AreKeyed IsHeaderRow (λ (row : CheckedHeader). row.source ∷ row.addressee ∷ row.number ∷ []) (rows_in tables CONSIGNMENTS)
  headers_can_be_read =
      stands_keyed audited.headers header_row (rows_in tables CONSIGNMENTS) (map header b.consignments)
      (headers_fit b.consignments t.values.consignments) (header_rows tables b t) (λ row. row.source ∷ row.addressee ∷ row.number ∷ [])
      (different-map (λ x y. bytes_eq (header_key x) (header_key y)) header b.consignments
      ∙ sym (different_congr same_consignment _ (λ x y. three (x.source == y.source) (x.addressee == y.addressee) (x.number == y.number)) b.consignments)
      ∙ t.keys.consignments)

  pub lines_can_be_read : AreKeyed IsLineRow (λ (row : CheckedLine). row.source ∷ row.addressee ∷ row.number ∷ row.line ∷ []) (rows_in tables LINES)
  lines_can_be_read =
      stands_keyed audited.lines placed_row (rows_in tables LINES) (flat_map placed b.consignments)
      (lines_fit b.consignments t.values.consignments) (placed_rows tables b t) (λ row. row.source ∷ row.addressee ∷ row.number ∷ row.line ∷ [])
      (lines_apart b.consignments t.keys.consignments)

  headers_bag : (found : List CheckedHeader) → AreRows IsHeaderRow found (rows_in tables CONSIGNMENTS)
      → IsPermutation (map seen_header found) (map header b.consignments)
  headers_bag =
      seen_bag audited.headers header_row (rows_in tables CONSIGNMENTS) (map header b.consignments)
      (headers_fit b.consignments t.values.consignments) (header_rows tables b t) seen_header (λ it. refl)

  lines_bag : (found : List CheckedLine) → AreRows IsLineRow found (rows_in tables LINES)
      → IsPermutation (map seen_placed found) (flat_map placed b.consignments)
  lines_bag =
      seen_bag audited.lines placed_row (rows_in tables LINES) (flat_map placed b.consignments)
      (lines_fit b.consignments t.values.consignments) (placed_rows tables b t) seen_placed placed_again

  pub can_be_joined : (headers : List CheckedHeader) (lines : List CheckedLine)
      → RowsRead IsHeaderRow (rows_in tables CONSIGNMENTS) headers → RowsRead IsLineRow (rows_in tables LINES) lines
      → climbs (map (λ (row : CheckedHeader). row.source ∷ row.addressee ∷ row.number ∷ []) headers) ≡ true
      → climbs (map (λ (row : CheckedLine). row.source ∷ row.addressee ∷ row.number ∷ row.line ∷ []) lines) ≡ true
      → AreJoined headers lines
  can_be_joined headers lines h l up down =
      let found = join_complete b.consignments (map seen_header headers) (map seen_placed lines)
      (IsPermutation-trans _ _ _ (IsPermutation-sym _ _ (headers_bag h.found h.are_rows)) (IsPermutation-map seen_header _ _ h.same))
      (IsPermutation-trans _ _ _ (IsPermutation-sym _ _ (lines_bag l.found l.are_rows)) (IsPermutation-map seen_placed _ _ l.same))
      (ap climbs (map-map header_key seen_header headers) ∙ up) (ap climbs (map-map placed_key seen_placed lines) ∙ down) in
      (found.0, found.2)
