-- Rows as a bag: what a filter, an update and a sort make of the values that they stand for.
use Rattle.sql_rows.proofs.Common.{cases_Bool, inl, inr, ◌≡◌, ◌≢◌, ◌≤◌, ℕ, List, [], ◌∷◌, map, filter, length, false, Bool, cond, suc, refl, sym, ap, subst₂}
use Rattle.sql_rows.proofs.Common.{◌∙◌, arith, is_eq, IsPermutation, one_permutation, by, Differ, AllByRecursion, nat_tests, IsPermutation-sym}
use Rattle.sql_rows.proofs.Common.{IsPermutation-map, length_permutation, Row, IsAscending, all-permutation, update_where, map-map, map_same, filter-map}
use Rattle.sql_rows.proofs.Common.{filter_same, all-map, all_unmap, ascending_weaker, IsPermutation-filter}
use Rattle.std.proofs.lemmas.Cmp.{nat_cmp_total, on_total}
use Rattle.std.specs.Cmp.{IsTotalOrder}
use Rattle.sqlite_keyed.proofs.ListLemmas.{all_map, all_weaker}

pub length-map : {A B : Type 0} (f : A → B) (l : List A) → length (map f l) ≡ length l
length-map f [] = refl
length-map f (y ∷ l) = ap suc (length-map f l)

-- a bag of at most one is a list
pub short_bag : {X : Type 0} (xs ys : List X) → IsPermutation xs ys → length ys ≤ 1 → xs ≡ ys
short_bag [] [] h few = refl
short_bag (x ∷ xs) [] h few = absurd (omega (arith, length_permutation _ _ h))
short_bag xs (y ∷ []) h few = one_permutation y xs (IsPermutation-sym _ _ h)
short_bag xs (y ∷ z ∷ ys) h few = absurd (omega arith)

module _ {X : Type 0} (narrow : Row → Row) (columns : X → Row) (test : Row → Bool) (seen : Row → Bool)
    (p : X → Bool) (sees : (r : Row) → test r ≡ seen (narrow r)) (tests : (x : X) → seen (columns x) ≡ p x) where
  pub bag_filter : (rows : List Row) (xs : List X) → IsPermutation (map narrow rows) (map columns xs)
      → IsPermutation (map narrow (filter test rows)) (map columns (filter p xs))
  bag_filter rows xs h =
      let left : filter seen (map narrow rows) ≡ map narrow (filter test rows) =
      filter-map seen narrow rows ∙ ap (map narrow) (filter_same (λ r. seen (narrow r)) test (λ r. sym (sees r)) rows) in
      let right : filter seen (map columns xs) ≡ map columns (filter p xs) =
      filter-map seen columns xs ∙ ap (map columns) (filter_same (λ x. seen (columns x)) p tests xs) in
      subst₂ IsPermutation left right (IsPermutation-filter seen _ _ h)

  pub as_many : (rows : List Row) (xs : List X) → IsPermutation (map narrow rows) (map columns xs) → length (filter test rows) ≡ length (filter p xs)
  as_many rows xs h = sym (length-map narrow (filter test rows)) ∙ sym (length_permutation _ _ (bag_filter rows xs h)) ∙ length-map columns (filter p xs)

  module _ (f : Row → Row) (set : Row → Row) (g : X → X) (IsFit : X → Type 0)
      (shows : (r : Row) → narrow (f r) ≡ set (narrow r)) (sets : (x : X) → IsFit x → set (columns x) ≡ columns (g x)) where
    -- an update of values is one of their columns
    updated : (xs : List X) → AllByRecursion IsFit xs → update_where seen set (map columns xs) ≡ map columns (update_where p g xs)
    updated [] all = refl
    updated (x ∷ xs) all =
        let more = updated xs all.1 in
        elim (cases_Bool (p x)) [ inl hit ↦ rw (tests x, hit) (λ i. sets x all.0 i ∷ more i) | inr miss ↦ rw (tests x, miss) (ap (λ l. columns x ∷ l) more) ]

    pub bag_update : (rows : List Row) (xs : List X) → AllByRecursion IsFit xs → IsPermutation (map narrow rows) (map columns xs)
        → IsPermutation (map narrow (update_where test f rows)) (map columns (update_where p g xs))
    bag_update rows xs all h =
        let u : Row → Row = λ vs. cond (seen vs) (set vs) vs in
        let left : map u (map narrow rows) ≡ map narrow (update_where test f rows) =
        map-map u narrow rows ∙ map_same _ _ one rows ∙ sym (map-map narrow (λ r. cond (test r) (f r) r) rows) in
        subst₂ IsPermutation left (updated xs all) (IsPermutation-map u _ _ h)
      where
        one : (r : Row) → cond (seen (narrow r)) (set (narrow r)) (narrow r) ≡ narrow (cond (test r) (f r) r)
        one r = elim (cases_Bool (test r)) [ inl hit ↦ rw (← sees r, hit) (sym (shows r)) | inr miss ↦ rw (← sees r, miss) refl ]

-- each row stands for some value that fulfils `IsFit`
pub all_fit : {X : Type 0} (IsFit : X → Type 0) (narrow : Row → Row) (columns : X → Row) (rows : List Row) (xs : List X)
    → AllByRecursion IsFit xs → IsPermutation (map narrow rows) (map columns xs)
    → AllByRecursion (λ r. (x : X) × IsFit x × (narrow r ≡ columns x)) rows
all_fit {X} IsFit narrow columns rows xs all h =
    let Is : Row → Type 0 = λ vs. (x : X) × IsFit x × (vs ≡ columns x) in
    all_unmap Is narrow rows
    (all-permutation Is _ _ (IsPermutation-sym _ _ h) (all_map Is columns xs (all_weaker IsFit (λ x. Is (columns x)) (λ x fit. (x, fit, refl)) xs all)))

-- each row stands for some value
pub all_typed : {X : Type 0} (narrow : Row → Row) (columns : X → Row) (rows : List Row) (xs : List X)
    → IsPermutation (map narrow rows) (map columns xs) → AllByRecursion (λ r. (x : X) × (narrow r ≡ columns x)) rows
all_typed {X} narrow columns rows xs h =
    all_unmap (λ (vs : Row). (x : X) × (vs ≡ columns x)) narrow rows
    (all-permutation (λ (vs : Row). (x : X) × (vs ≡ columns x)) _ _ (IsPermutation-sym _ _ h)
    (all-map (λ (vs : Row). (x : X) × (vs ≡ columns x)) columns (λ x. (x, refl)) xs))

-- ---- in order of number

module _ {X : Type 0} (number : X → ℕ) where
  pub number_total : IsTotalOrder (by number)
  number_total = on_total number nat_cmp_total

  untied : (a b : X) → number a ≢ number b → is_eq (by number a b) ≡ false
  untied a b h = grind (arith, nat_tests)

  pub no_ties : (xs : List X) → Differ number xs → IsAscending (λ a b. is_eq (by number a b) ≡ false) xs
  no_ties xs h = ascending_weaker (λ a b. number a ≢ number b) (λ a b. is_eq (by number a b) ≡ false) untied xs h
