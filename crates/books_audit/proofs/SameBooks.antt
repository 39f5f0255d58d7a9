-- A table stands for one list, one bag or one value.
use Rattle.shop_schema.proofs.Common.{◌≡◌, ℕ, List, [], ◌∷◌, map, Option, sym, subst, arith, IsPermutation, AllByRecursion, all_map, all_weaker}
use Rattle.shop_schema.proofs.Common.{IsPermutation-trans, IsPermutation-sym, short_bag, Moment, Owned, owned_by, numbered, Branch, head, branch_columns}
use Rattle.shop_schema.proofs.Common.{IsLast, IsBranch, IsShared, AreShared, TableOf}
use Rattle.shop_schema.proofs.OneRow.{same_row}
use Rattle.shop_schema.proofs.Lasts.{last_fits}
use Rattle.audit_rows.proofs.Maps.{map-twice}
use Rattle.audit_rows.proofs.Standing.{same_rows, one_numbered}
use Rattle.books_audit.specs.Columns.{told_columns, IsTold}
use Rattle.books_audit.proofs.FullLists.{each_shared}
use Rattle.sqlite_value.specs.Order as sql

-- a table of shared rows stands for one list
pub one_shared : {A : Type 0} (P : A → Type 0) {columns : ℕ × A → sql.Row} → TableOf columns (IsShared P)
    → {rows : List sql.Row} {xs ys : List A} → AreShared P xs → AreShared P ys
    → IsPermutation rows (map columns (numbered xs)) → IsPermutation rows (map columns (numbered ys)) → xs ≡ ys
one_shared P {columns} t {rows} {xs} {ys} f g p q =
    one_numbered xs ys (same_rows columns (IsShared P) (same_row t) rows (numbered ys) (numbered xs) (each_shared P ys g) (each_shared P xs f) q p)

-- any other table stands for one bag
pub one_bag : {A : Type 0} {columns : A → sql.Row} {IsOne : A → Type 0} → TableOf columns IsOne
    → {rows : List sql.Row} {xs ys : List A} → AllByRecursion IsOne xs → AllByRecursion IsOne ys
    → IsPermutation rows (map columns xs) → IsPermutation rows (map columns ys) → IsPermutation xs ys
one_bag {columns = columns} {IsOne = IsOne} t {rows} {xs} {ys} f g p q = same_rows columns IsOne (same_row t) rows xs ys f g p q

-- and a table with one row stands for one value
pub one_value : {A : Type 0} {columns : A → sql.Row} {IsOne : A → Type 0} → TableOf columns IsOne → {rows : List sql.Row} {x y : A} → IsOne x → IsOne y
    → IsPermutation rows (columns x ∷ []) → IsPermutation rows (columns y ∷ []) → x ≡ y
one_value {columns = columns} t {x = x} {y = y} f g p q =
    same_row t x y f g (first (columns x) (columns y) (short_bag _ _ (IsPermutation-trans _ _ _ (IsPermutation-sym _ _ p) q) (omega arith)))
  where
    first : (r s : sql.Row) → ◌≡◌ {A = List sql.Row} (r ∷ []) (s ∷ []) → r ≡ s
    first r s h = cc

-- ---- branches, each with its last moment

abbrev pub told : List (Owned Moment) → ℕ × Branch → ℕ × (Branch × Option Moment)
told lasts it = (it.0, (it.1, head (owned_by it.0 lasts)))

pub told_fit : (lasts : List (Owned Moment)) (bs : List Branch) → AllByRecursion IsLast lasts
    → AreShared IsBranch bs → AllByRecursion (IsShared IsTold) (map (told lasts) (numbered bs))
told_fit lasts bs l fit =
    all_map (IsShared IsTold) (told lasts) (numbered bs)
    (all_weaker (IsShared IsBranch) (λ it. IsShared IsTold (told lasts it))
    (λ it h. (h.0, (h.1, last_fits it.0 lasts l))) (numbered bs) (each_shared IsBranch bs fit))

pub told_rows : (lasts : List (Owned Moment)) (bs : List Branch) {rows : List sql.Row}
    → IsPermutation rows (map (branch_columns lasts) (numbered bs)) → IsPermutation rows (map told_columns (map (told lasts) (numbered bs)))
told_rows lasts bs {rows} p = subst (IsPermutation rows) (sym (map-twice told_columns (told lasts) (numbered bs))) p
