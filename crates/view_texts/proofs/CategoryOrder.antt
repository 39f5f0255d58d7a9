-- Rows that are put among other rows, one after another.
use Rattle.shop_schema.proofs.Common.{◌≡◌, ℕ, List, [], ◌∷◌, ◌++◌, map, take, drop, Option, Some, refl, sym, ap, ◌∙◌, option_to_list, map-append, Text}
use Rattle.shop_schema.proofs.Common.{sells_more, insert_by, sorted_by}
use Rattle.shop_views.specs.Sales.{seen_category}
use Rattle.shop_views.specs.declared.sales.CategoryRow.{CategoryRow}
use Rattle.shop_schema.proofs.Lists.{flat_map_push}
use Rattle.view_texts.specs.CategorySums.{seen_sum, sold}
use Rattle.view_texts.specs.declared.categories.CategorySum.{CategorySum}

-- the rows put among others, the last first
abbrev pub all_put : List (Text × ℕ) → List (Text × ℕ) → List (Text × ℕ)
all_put [] done = done
all_put (x ∷ xs) done = insert_by sells_more x (all_put xs done)

pub all_sorted : (xs : List (Text × ℕ)) → sorted_by sells_more xs ≡ all_put xs []
all_sorted [] = refl
all_sorted (x ∷ xs) = ap (insert_by sells_more x) (all_sorted xs)

put_behind : (xs ys done : List (Text × ℕ)) → all_put (xs ++ ys) done ≡ all_put xs (all_put ys done)
put_behind [] ys done = refl
put_behind (x ∷ xs) ys done = ap (insert_by sells_more x) (put_behind xs ys done)

-- the last category is put among the rows, if it has a sum
pub last_put : (xs : List (Text × Option ℕ)) (name : Text) (total : ℕ) (done next : List (Text × ℕ)) → next ≡ insert_by sells_more (name, total) done
    → all_put (sold (xs ++ (name, Some total) ∷ [])) done ≡ all_put (sold xs) next
last_put xs name total done next is =
    ap (λ l. all_put l done) (flat_map_push (λ (it : Text × Option ℕ). map (λ n. (it.0, n)) (option_to_list it.1)) xs (name, Some total))
    ∙ put_behind (sold xs) ((name, total) ∷ []) done ∙ ap (all_put (sold xs)) (sym is)

-- ---- the place of a row

-- the row's place in the order is not before place `i`
abbrev pub IsLater : Text × ℕ → ℕ → List CategoryRow → Type 0
IsLater x i rows = insert_by sells_more x (map seen_category rows) ≡ map seen_category (take i rows) ++ insert_by sells_more x (map seen_category (drop i rows))

-- ---- one category more

module _ (start : List (Text × ℕ)) (sums rest : List CategorySum) (it : CategorySum) (popped : sums ≡ rest ++ it ∷ []) where
  parts : map seen_sum sums ≡ map seen_sum rest ++ (it.name, it.sum) ∷ []
  parts = ap (map seen_sum) popped ∙ map-append seen_sum rest (it ∷ [])

  pub popped_put : (rows next : List CategoryRow) (total : ℕ) → it.sum ≡ Some total
      → map seen_category next ≡ insert_by sells_more (it.name, total) (map seen_category rows)
      → start ≡ all_put (sold (map seen_sum sums)) (map seen_category rows) → start ≡ all_put (sold (map seen_sum rest)) (map seen_category next)
  popped_put rows next total some is so_far =
      so_far ∙ ap (λ l. all_put (sold l) (map seen_category rows)) (parts ∙ ap (λ o. map seen_sum rest ++ (it.name, o) ∷ []) some)
      ∙ last_put (map seen_sum rest) it.name total (map seen_category rows) (map seen_category next) is
