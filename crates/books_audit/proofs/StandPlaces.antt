-- A table of shared rows that stands for a list can be read in the order of its places.
use Rattle.shop_schema.proofs.Common.{◌≡◌, ◌∙◌, ◌+◌, ◌<◌, ◌^◌, ℕ, List, [], ◌∷◌, map, length, refl, sym, subst, arith, IsPermutation, nat_cmp, IsSortedByKey}
use Rattle.shop_schema.proofs.Common.{nat_cmp_total, on_total, IsPermutation-refl, IsPermutation-trans, IsPermutation-sym, IsPermutation-map}
use Rattle.shop_schema.proofs.Common.{length_permutation, AllByRecursion, sorted_unique, IsCounted, numbered, numbered_from, IsShared, AreShared, TableOf}
use Rattle.sqlite_value.specs.Order as sql
use Rattle.shop_schema.proofs.Lasts.{numbered_counted}
use Rattle.shop_schema.proofs.OneRow.{same_row}
use Rattle.audit_rows.proofs.Canon.{counted_ascends}
use Rattle.audit_rows.proofs.Maps.{length-map, map-twice}
use Rattle.audit_rows.proofs.Standing.{same_rows}
use Rattle.books_audit.specs.Listed.{AreRows}
use Rattle.books_audit.specs.Rows.{shared_row, IsSharedRow}
use Rattle.books_audit.specs.declared.shared.SharedRow.{SharedRow}
use Rattle.books_audit.proofs.FullLists.{fulls, ones, each_shared}
use Rattle.books_audit.specs.ReadLists.{AreInPlaces}

pub so_many : {A : Type 0} (k : ℕ) (xs : List A) → length (numbered_from k xs) ≡ length xs
so_many k [] = refl
so_many k (x ∷ xs) = let more = so_many (k + 1) xs in omega (arith, more)

module _ {A X : Type 0} (P : A → Type 0) {columns : ℕ × A → sql.Row} (t : TableOf columns (IsShared P)) (small : A → X) (table : List sql.Row) where
  abbrev number : SharedRow X → ℕ
  number row = row.number

  -- rows whose numbers count
  module _ (its : List (ℕ × A)) (few : length its < 2 ^ 32) (counted : IsCounted 1 (map (λ (it : ℕ × A). it.0) its))
      (fit : AllByRecursion (IsShared P) its) (p : IsPermutation table (map columns its)) where
    abbrev rows : List (SharedRow X)
    rows = map (shared_row small) its

    count_on : IsCounted 1 (map number rows)
    count_on = subst (IsCounted 1) (sym (map-twice number (shared_row small) its)) counted

    in_places : (found sorted : List (SharedRow X)) → AreRows (IsSharedRow columns P small) found table
        → IsPermutation found sorted → IsSortedByKey number nat_cmp sorted → IsCounted 1 (map number sorted)
    in_places found sorted h q s =
        let f = fulls columns (IsShared P) (shared_row small) found found table h (IsPermutation-refl found) in
        let bag = same_rows columns (IsShared P) (same_row t) table f.its its f.fit fit f.has p in
        let back : IsPermutation rows sorted =
        IsPermutation-trans _ _ _
        (IsPermutation-sym _ _ (subst (λ l. IsPermutation l rows) f.keeps (IsPermutation-map (shared_row small) f.its its bag))) q in
        let same : sorted ≡ rows =
        sorted_unique (λ (a b : SharedRow X). nat_cmp (number a) (number b))
        (on_total number nat_cmp_total) rows sorted (counted_ascends number 1 rows count_on) back s in
        subst (λ l. IsCounted 1 (map number l)) (sym same) count_on

    pub counted_stand : AreInPlaces (IsSharedRow columns P small) number table
    counted_stand = record {
      ones = ones columns (IsShared P) (shared_row small) its table fit p;
      few = subst (λ n. n < 2 ^ 32) (sym (sym (length_permutation _ _ p) ∙ length-map columns its)) few;
      counted = in_places;
    }

  pub stands_in_places : (xs : List A) → AreShared P xs → IsPermutation table (map columns (numbered xs))
      → AreInPlaces (IsSharedRow columns P small) number table
  stands_in_places xs fit p = counted_stand (numbered xs) (subst (λ n. n < 2 ^ 32) (sym (so_many 1 xs)) fit.0) (numbered_counted 1 xs) (each_shared P xs fit) p
