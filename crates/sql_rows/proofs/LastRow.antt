-- What ORDER BY a number DESC LIMIT 1 shows: of the rows that pass, the one with the greatest number.
use Rattle.sql_rows.proofs.Common.{◌≡◌, ◌≤◌, ◌<◌, ℕ, suc, pos, List, [], ◌∷◌, map, filter, take, length, Bool, true, false, cond, Ordering, is_eq, refl, ap}
use Rattle.sql_rows.proofs.Common.{◌∙◌, arith, IsPermutation, AllByRecursion, list_all, nat_cmp, is_gt, nat_tests, IsPermutation-sym, length_permutation, Int}
use Rattle.sql_rows.proofs.Common.{column, Key, Binary, then-Equal, Trees, IsAscending, all-permutation, Term, lit, col, holds, Query, IsAnswer, Output, output}
use Rattle.sql_rows.proofs.Common.{overlay, Schema, State, sort_by, insert_sorted, ascending_weaker, HasRows, columns_of, number_value, IsOf}
use Rattle.std.specs.Cmp.{IsTotalOrder}
use Rattle.std.proofs.lemmas.Cmp.{back_total}
use Rattle.sqlite_keyed.proofs.SortLemmas.{IsPermutation-sort_by}
use Rattle.sql_rows.proofs.Bags.{number_total}
use Rattle.sql_rows.proofs.Queries.{Selects, plain_query, answers, reads_sorted, number_cmp}
use Rattle.sqlite_value.specs.Order.{Row}
use Rattle.sqlite.specs.State.{Shown}

-- the last of a list, where there is one
abbrev pub ending : {X : Type 0} → List X → List X
ending [] = []
ending (x ∷ []) = x ∷ []
ending (x ∷ y ∷ xs) = ending (y ∷ xs)

-- ---- the greatest number first

abbrev pub down : {X : Type 0} → (X → ℕ) → X → X → Ordering
down number a b = nat_cmp (number b) (number a)

module _ {X : Type 0} (number : X → ℕ) where
  down_total : IsTotalOrder (down number)
  down_total = back_total (number_total number)

  apart : (a b : X) → number a < number b → is_eq (down number a b) ≡ false
  apart a b h = grind (arith, nat_tests)

  goes_after : (a b : X) → number a < number b → is_gt (down number a b) ≡ true
  goes_after a b h = grind (arith, nat_tests)

  first_stays : (x : X) (ys : List X) → AllByRecursion (λ y. number x < number y) ys → 1 ≤ length ys → take 1 (insert_sorted (down number) x ys) ≡ take 1 ys
  first_stays x [] up some = absurd (omega (arith, some))
  first_stays x (y ∷ ys) up some = ap (λ b. take 1 (cond b (y ∷ insert_sorted (down number) x ys) (x ∷ y ∷ ys))) (goes_after x y up.0)

  -- of numbers that rise, the last comes first
  pub down_first : (xs : List X) → IsAscending (λ a b. number a < number b) xs → take 1 (sort_by (down number) xs) ≡ ending xs
  down_first [] up = refl
  down_first (x ∷ []) up = refl
  down_first (x ∷ y ∷ xs) up =
      let same : IsPermutation (y ∷ xs) (sort_by (down number) (y ∷ xs)) = IsPermutation-sym _ _ (IsPermutation-sort_by (down number) down_total (y ∷ xs)) in
      first_stays x (sort_by (down number) (y ∷ xs)) (all-permutation (λ z. number x < number z) _ _ same up.0) (omega (arith, length_permutation _ _ same))
      ∙ down_first (y ∷ xs) up.1

  pub down_apart : (xs : List X) → IsAscending (λ a b. number a < number b) xs → IsAscending (λ a b. is_eq (down number a b) ≡ false) xs
  down_apart xs up = ascending_weaker (λ a b. number a < number b) (λ a b. is_eq (down number a b) ≡ false) apart xs up

-- ---- SELECT terms FROM table WHERE terms ORDER BY terms LIMIT 1

abbrev pub first_query : ℕ → List Term → List Term → List (Term × Key) → Query
first_query tree tests shown order = record (plain_query tree tests shown order) { limit = lit (Int (pos 1)) }

-- it shows the first row of what the query without a limit shows
pub first_of : (tree : ℕ) (tests shown : List Term) (order : List (Term × Key)) (db : Trees) (params : Row) (rows : List Row)
    → IsAnswer (first_query tree tests shown order) db params rows
    → (all : List Row) × IsAnswer (plain_query tree tests shown order) db params all × (rows ≡ take 1 all)
first_of tree tests shown order db params rows a = (
  map (λ (o : Output). o.1) a.ordered,
  record { staged = a.staged; grouped = a.grouped; kept = a.kept; distinct = a.distinct; ordered = a.ordered; same = a.same; sorted = a.sorted; shown = refl },
  a.shown,
)

abbrev pub descending : Key
descending = record { collation = Binary; descending = true }

take_map : {X Y : Type 0} (f : X → Y) (xs : List X) → take 1 (map f xs) ≡ map f (take 1 xs)
take_map f [] = refl
take_map f (x ∷ xs) = refl

-- `seen` is the filter and `show` the columns that are shown, both written over the columns; `tests_are` says that of a value's columns the filter is `p`
module _ {X : Type 0} (schema : Schema) (sql : List ℕ) (tree width : ℕ) (tests shown : List Term) (place : ℕ)
    (means : Selects schema sql (first_query tree tests shown ((col 1 (suc place), descending) ∷ [])))
    (params : Row) (old new : State) (rows : List Row) (has : IsOf schema old) (h : Shown sql params old new rows)
    (columns : X → Row) (xs : List X) (s : HasRows width (old.now.trees tree) (map columns xs)) (low : overlay old.now.trees [] tree ≡ old.now.trees tree)
    (seen : Row → Bool) (show : Row → Row) (p : X → Bool) (tests_are : (x : X) → seen (columns x) ≡ p x) where
  abbrev falling : Query
  falling = plain_query tree tests shown ((col 1 (suc place), descending) ∷ [])

  -- where the numbers of the values that pass rise, it shows the last one
  pub projects_last :
      ((r : Row)
      → cond (list_all (holds (params ∷ r ∷ [])) tests) (output falling (params ∷ r ∷ []) ∷ []) []
      ≡ cond (seen (columns_of width r)) ((column (columns_of width r) place ∷ [], show (columns_of width r)) ∷ []) [])
      → (number : X → ℕ) → ((x : X) → column (columns x) place ≡ number_value (number x))
      → IsAscending (λ a b. number a < number b) (filter p xs) → rows ≡ map (λ x. show (columns x)) (ending (filter p xs))
  projects_last only number numbers up =
      let a =
      first_of tree tests shown ((col 1 (suc place), descending) ∷ [])
      (overlay old.now.trees []) params rows (answers schema sql _ params old new has means rows h) in
      let all : a.0 ≡ map (λ x. show (columns x)) (sort_by (down number) (filter p xs)) =
      reads_sorted tree tests shown ((col 1 (suc place), descending) ∷ []) params old.now.trees columns xs
      (columns_of width) s low (λ vs. cond (seen vs) ((column vs place ∷ [], show vs) ∷ []) []) only p
      (λ x. (number_value (number x) ∷ [], show (columns x))) (λ x. (λ i. cond (tests_are x i) ((numbers x i ∷ [], show (columns x)) ∷ []) [])) a.0 a.1
      (down number) (λ x y. then-Equal _ ∙ number_cmp (number y) (number x)) (down_apart number (filter p xs) up) in
      a.2 ∙ ap (take 1) all ∙ take_map (λ x. show (columns x)) (sort_by (down number) (filter p xs))
      ∙ ap (map (λ x. show (columns x))) (down_first number (filter p xs) up)
