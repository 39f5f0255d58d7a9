-- The places of consignments, in their order.
use Rattle.shop_types.proofs.Common.{◌≡◌, ℕ, zero, suc, List, [], ◌∷◌, map, sym, ap, subst, ◌∙◌, arith, IsPermutation, IsSorted, Ordering, add-one, nat_cmp}
use Rattle.shop_types.proofs.Common.{IsPermutation-map, Consignment}
use native.Mathlib.Numerals.{unary_clauses}
use Rattle.audit_rows.specs.declared.books.OrderedBooks.{OrderedBooks}
use Rattle.audit_rows.specs.declared.rows.CheckedHeader.{CheckedHeader}
use Rattle.audit_rows.specs.Joins.{Header, header}
use Rattle.audit_rows.specs.Seen.{seen_header}
use Rattle.audit_rows.specs.Ordered.{AreConsignmentsOf}
use Rattle.audit_rows.proofs.Maps.{map-twice}
use Rattle.audit_rows.proofs.JoinLemmas.{join_sound}

module _ {X Y : Type 0} (cmp : Y → Y → Ordering) (f : X → Y) where
  abbrev by_value : X → X → Ordering
  by_value x y = cmp (f x) (f y)

  tail : (x : X) (xs : List X) → IsSorted by_value (x ∷ xs) → IsSorted by_value xs
  tail x xs h k d p q = rw add-one (simp unary_clauses at (h (suc k) d (omega arith) (omega arith)))

  pub sorted-map : (xs : List X) → IsSorted by_value xs → IsSorted cmp (map f xs)
  sorted-map [] h k d p q = absurd (omega arith)
  sorted-map (x ∷ []) h k d p q = absurd (omega arith)
  sorted-map (x ∷ y ∷ xs) h zero d p q = h 0 x (omega arith) (omega arith)
  sorted-map (x ∷ y ∷ xs) h (suc k) d p q = rw add-one (rw add-one at (sorted-map (y ∷ xs) (tail x (y ∷ xs) h) k d (omega arith) (omega arith)))

module _ (rows : OrderedBooks) (its : List Consignment) (o : AreConsignmentsOf rows its) where
  pub headers_are : map header o.by_key ≡ map seen_header rows.headers.items
  headers_are = (join_sound _ _ o.by_key o.joined).0

  pub places_are : map (λ (it : Consignment). it.place) o.by_key ≡ map (λ (row : CheckedHeader). row.place) rows.headers.items
  places_are =
      sym (map-twice (λ (h : Header). h.place) header o.by_key) ∙ ap (map (λ (h : Header). h.place)) headers_are
      ∙ map-twice (λ (h : Header). h.place) seen_header rows.headers.items

  pub places_of_rows : IsPermutation (map (λ (row : CheckedHeader). row.place) rows.headers.items) (map (λ (it : Consignment). it.place) its)
  places_of_rows =
      subst (λ (ns : List ℕ). IsPermutation ns (map (λ (it : Consignment). it.place) its)) places_are
      (IsPermutation-map (λ (it : Consignment). it.place) o.by_key its o.all)

  pub sorted_places : IsSorted nat_cmp (map (λ (it : Consignment). it.place) its)
  sorted_places = sorted-map nat_cmp (λ (it : Consignment). it.place) its o.in_order
