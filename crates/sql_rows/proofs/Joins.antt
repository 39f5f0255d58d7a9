-- What a join of tables shows, where each table's rows stand for values in any order. Nothing is asked of the rowids.
use Rattle.sql_rows.proofs.Common.{◌≡◌, ◌≤◌, ◌==◌, ◌&&◌, ℕ, zero, suc, List, [], ◌∷◌, ◌++◌, map, filter, length, true, false, Bool, refl, sym, ap, subst, ◌∙◌}
use Rattle.sql_rows.proofs.Common.{arith, add-one, is_eq, is_lt, IsPermutation, IsSorted, inl, inr, flat_map, IsPermutation-refl, IsPermutation-sym}
use Rattle.sql_rows.proofs.Common.{IsPermutation-trans, length_permutation, Value, Null, Row, column, Key, Binary, Trees, IsAscending, Compare, Eq, is_true}
use Rattle.sql_rows.proofs.Common.{Term, op2, Query, Join, inner, or_nulls, IsAnswer, Output, output_cmp, page, overlay, output_cmp_total, sort_by}
use Rattle.sql_rows.proofs.Common.{flat_map-map, flat_map_same_on, IsPermutation-flat_map, ascending_weaker, sorted_is-sort_by, HasRows, columns_of, PicksOne}
use Rattle.sql_rows.proofs.Common.{number_value}
use Rattle.std.specs.Prelude.{◌⊎◌}
use Rattle.sqlite_sql.specs.Ops.{binary}
pub use Rattle.sql_rows.proofs.Queries.{joined_query, shown_of}
use Rattle.sql_rows.proofs.Queries.{answer_bag}
use Rattle.sql_rows.proofs.Bags.{bag_filter, short_bag, length-map}
use Rattle.sql_rows.proofs.ColumnTests.{one_tested, two_tested, number_tested}

abbrev pub are_equal : Term → Term → Term
are_equal a b = op2 (Compare Eq Binary) a b

-- ---- a further table, by LEFT JOIN or JOIN

-- the columns of the rows that are joined: NULLs where there is none
abbrev pub or_blank : ℕ → List Row → List Row
or_blank width [] = columns_of width [] ∷ []
or_blank width (r ∷ rs) = r ∷ rs

narrow_nulls : (width : ℕ) (rows : List Row) → map (columns_of width) (or_nulls rows) ≡ or_blank width (map (columns_of width) rows)
narrow_nulls width [] = refl
narrow_nulls width (r ∷ rows) = refl

blank_bag : (width : ℕ) (a b : List Row) → IsPermutation a b → IsPermutation (or_blank width a) (or_blank width b)
blank_bag width [] [] h = IsPermutation-refl _
blank_bag width [] (y ∷ b) h = absurd (omega (arith, length_permutation _ _ h))
blank_bag width (x ∷ a) [] h = absurd (omega (arith, length_permutation _ _ h))
blank_bag width (x ∷ a) (y ∷ b) h = h

-- `gives` is what follows of a row of the table, which does not depend on its rowid; `seen` is the test of ON over the columns, `p` over values
module _ {Y Z : Type 0} (width : ℕ) (columns : Y → Row) (tree : List Row) (ys : List Y) (has : HasRows width tree (map columns ys))
    (test seen : Row → Bool) (p : Y → Bool) (sees : (r : Row) → test r ≡ seen (columns_of width r)) (tests : (y : Y) → seen (columns y) ≡ p y)
    (gives : Row → List Z) (only : (r : Row) → gives r ≡ gives (Null ∷ columns_of width r)) where
  abbrev hands : Row → List Z
  hands c = gives (Null ∷ c)

  kept_bag : IsPermutation (map (columns_of width) (filter test tree)) (map columns (filter p ys))
  kept_bag = bag_filter (columns_of width) columns test seen p sees tests tree ys has

  narrowed : (rows : List Row) → flat_map gives rows ≡ flat_map hands (map (columns_of width) rows)
  narrowed rows = flat_map_same_on gives (λ r. hands (columns_of width r)) only rows ∙ sym (flat_map-map hands (columns_of width) rows)

  pub left_bag : IsPermutation (flat_map gives (or_nulls (filter test tree))) (flat_map hands (or_blank width (map columns (filter p ys))))
  left_bag =
      subst (λ l. IsPermutation l (flat_map hands (or_blank width (map columns (filter p ys)))))
      (sym (narrowed (or_nulls (filter test tree)) ∙ ap (flat_map hands) (narrow_nulls width (filter test tree))))
      (IsPermutation-flat_map hands _ _ (blank_bag width _ _ kept_bag))

  module _ (few : PicksOne p ys) where
    kept_list : map (columns_of width) (filter test tree) ≡ map columns (filter p ys)
    kept_list = short_bag _ _ kept_bag (subst (λ (n : ℕ). n ≤ 1) (sym (length-map {A = Y} columns (filter p ys))) few)

    pub left_one : flat_map gives (or_nulls (filter test tree)) ≡ flat_map hands (or_blank width (map columns (filter p ys)))
    left_one = narrowed (or_nulls (filter test tree)) ∙ ap (flat_map hands) (narrow_nulls width (filter test tree) ∙ ap (or_blank width) kept_list)

-- ---- a table with a number for a key: `ON t.number = key`

pub few_list : {X : Type 0} (l : List X) → length l ≤ 1 → (l ≡ []) ⊎ ((x : X) × (l ≡ x ∷ []))
few_list [] few = inl refl
few_list (x ∷ []) few = inr (x, refl)
few_list (x ∷ y ∷ l) few = absurd (omega (arith, few))

nobody : {X : Type 0} (l : List X) → filter (λ x. false) l ≡ []
nobody [] = refl
nobody (x ∷ l) = nobody l

nobody_few : {X : Type 0} (l : List X) → length (filter (λ x. false) l) ≤ 1
nobody_few {X} l = subst (λ (k : List X). length k ≤ 1) (sym (nobody l)) (omega arith)

abbrev pub equals : Value → Value → Bool
equals a b = is_true (binary (Compare Eq Binary) a b)

equals_null : (n : ℕ) → equals (number_value n) Null ≡ false
unfolding binary
equals_null n = refl

module _ {Y Z : Type 0} (width : ℕ) (columns : Y → Row) (tree : List Row) (ys : List Y) (has : HasRows width tree (map columns ys))
    (gives : Row → List Z) (only : (r : Row) → gives r ≡ gives (Null ∷ columns_of width r)) where
  abbrev goes_on : Row → List Z
  goes_on c = gives (Null ∷ c)

  module _ (key : Y → ℕ) (keys : (y : Y) → column (columns y) 0 ≡ number_value (key y)) (first : (r : Row) → column r 1 ≡ column (columns_of width r) 0) where
    -- the key is a number
    pub left_key : (n : ℕ) → PicksOne (λ y. key y == n) ys
        → flat_map gives (or_nulls (filter (λ r. equals (column r 1) (number_value n) && true) tree))
        ≡ flat_map goes_on (or_blank width (map columns (filter (λ y. key y == n) ys)))
    left_key n few =
        left_one width columns tree ys has (λ r. equals (column r 1) (number_value n) && true)
        (λ vs. equals (column vs 0) (number_value n) && true) (λ y. key y == n)
        (λ r. ap (λ v. equals v (number_value n) && true) (first r))
        (λ y. one_tested _ (ap (λ v. equals v (number_value n)) (keys y) ∙ number_tested (key y) n)) gives only few

    -- the key is NULL
    pub left_no_key : flat_map gives (or_nulls (filter (λ r. equals (column r 1) Null && true) tree)) ≡ goes_on (columns_of width []) ++ []
    left_no_key =
        left_one width columns tree ys has (λ r. equals (column r 1) Null && true) (λ vs. equals (column vs 0) Null && true) (λ y. false)
        (λ r. ap (λ v. equals v Null && true) (first r)) (λ y. one_tested _ (ap (λ v. equals v Null) (keys y) ∙ equals_null (key y))) gives only (nobody_few ys)
        ∙ ap (λ (l : List Y). flat_map goes_on (or_blank width (map columns l))) (nobody ys)

  -- ---- a table with two numbers for a key: `ON t.branch = branch AND t.number = key`

  module _ (one two : Y → ℕ) (ones : (y : Y) → column (columns y) 0 ≡ number_value (one y)) (twos : (y : Y) → column (columns y) 1 ≡ number_value (two y))
      (first : (r : Row) → column r 1 ≡ column (columns_of width r) 0) (second : (r : Row) → column r 2 ≡ column (columns_of width r) 1) (m : ℕ) where
    abbrev of_pair : Value → Value → Value → Bool
    of_pair a b key = equals a (number_value m) && (equals b key && true)

    -- the second of the key is a number
    pub left_pair : (n : ℕ) → PicksOne (λ y. one y == m && two y == n) ys
        → flat_map gives (or_nulls (filter (λ r. of_pair (column r 1) (column r 2) (number_value n)) tree))
        ≡ flat_map goes_on (or_blank width (map columns (filter (λ y. one y == m && two y == n) ys)))
    left_pair n few =
        left_one width columns tree ys has (λ r. of_pair (column r 1) (column r 2) (number_value n))
        (λ vs. of_pair (column vs 0) (column vs 1) (number_value n)) (λ y. one y == m && two y == n)
        (λ r. (λ i. of_pair (first r i) (second r i) (number_value n)))
        (λ y.
        two_tested _ _ (ap (λ v. equals v (number_value m)) (ones y) ∙ number_tested (one y) m)
        (ap (λ v. equals v (number_value n)) (twos y) ∙ number_tested (two y) n))
        gives only few

    -- the second of the key is NULL
    pub left_no_pair : flat_map gives (or_nulls (filter (λ r. of_pair (column r 1) (column r 2) Null) tree)) ≡ goes_on (columns_of width []) ++ []
    left_no_pair =
        left_one width columns tree ys has (λ r. of_pair (column r 1) (column r 2) Null) (λ vs. of_pair (column vs 0) (column vs 1) Null) (λ y. false)
        (λ r. (λ i. of_pair (first r i) (second r i) Null)) (λ y. never _ _ (ap (λ v. equals v Null) (twos y) ∙ equals_null (two y))) gives only (nobody_few ys)
        ∙ ap (λ (l : List Y). flat_map goes_on (or_blank width (map columns l))) (nobody ys)
      where
        never : (x y : Bool) → y ≡ false → (x && (y && true)) ≡ false
        never true y h = ap (λ t. t && true) h
        never false y h = refl

-- ---- the first table, and the order

-- each earlier output comes strictly before each later output, without a tie
abbrev pub Climbs : Query → List Output → Type 0
Climbs q = IsAscending (λ a b. (is_eq (output_cmp q a b) ≡ false) × (is_lt (output_cmp q b a) ≡ false))

climbs_sorted : (q : Query) (os : List Output) → Climbs q os → IsSorted (output_cmp q) os
climbs_sorted q [] up k d a b = absurd (omega arith)
climbs_sorted q (x ∷ []) up k d a b = absurd (omega arith)
climbs_sorted q (x ∷ y ∷ os) up zero d a b = up.0.0.1
climbs_sorted q (x ∷ y ∷ os) up (suc k) d a b = rw add-one (rw add-one at (climbs_sorted q (y ∷ os) up.1 k d (omega arith) (omega arith)))

module _ {X : Type 0} (tree : ℕ) (more : Join) (tests shown : List Term) (order : List (Term × Key))
    (params : Row) (db : Trees) (width : ℕ) (columns : X → Row) (xs : List X)
    (has : HasRows width (db tree) (map columns xs)) (low : overlay db [] tree ≡ db tree) where
  abbrev pub asked : Query
  asked = joined_query (inner tree more) tests shown order

  -- what a row of the first table brings to the answer
  abbrev pub brings : Row → List Output
  brings r = shown_of asked (overlay db []) more (params ∷ r ∷ [])

  module _ (only : (r : Row) → brings r ≡ brings (Null ∷ columns_of width r)) (outs : X → List Output)
      (picks : (x : X) → IsPermutation (brings (Null ∷ columns x)) (outs x)) where
    pub joined_bag : (rows : List Row) (a : IsAnswer asked (overlay db []) params rows) → IsPermutation (flat_map outs xs) a.ordered
    joined_bag rows a = answer_bag tree more tests shown order params db columns xs (columns_of width) has low (λ vs. brings (Null ∷ vs)) only outs picks rows a

    -- a list of the same outputs that has the order of ORDER BY, and no tie, is what is shown
    pub joined_rows : (rows : List Row) → IsAnswer asked (overlay db []) params rows → (target : List Output)
        → IsPermutation (flat_map outs xs) target → Climbs asked target → rows ≡ map (λ (o : Output). o.1) target
    joined_rows rows a target same up =
        let ties : IsAscending (λ a b. is_eq (output_cmp asked a b) ≡ false) target =
        ascending_weaker {A = Output} (λ a b. (is_eq (output_cmp asked a b) ≡ false) × (is_lt (output_cmp asked b a) ≡ false))
        (λ a b. is_eq (output_cmp asked a b) ≡ false) (λ a b h. h.0) target up in
        let theirs : a.ordered ≡ sort_by (output_cmp asked) target =
        sorted_is-sort_by (output_cmp asked) (output_cmp_total asked) target a.ordered ties
        (IsPermutation-trans _ _ _ (IsPermutation-sym _ _ same) (joined_bag rows a)) a.sorted in
        let ours : target ≡ sort_by (output_cmp asked) target =
        sorted_is-sort_by (output_cmp asked) (output_cmp_total asked) target target ties (IsPermutation-refl target) (climbs_sorted asked target up) in
        a.shown ∙ ap (λ os. page asked params (map (λ (o : Output). o.1) os)) (theirs ∙ sym ours)
