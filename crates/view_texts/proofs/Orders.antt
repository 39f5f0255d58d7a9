-- Rows in the order of their numbers.
use Rattle.shop_schema.proofs.Common.{◌≡◌, ◌<◌, ◌+◌, ◌==◌, ◌&&◌, ℕ, List, [], ◌∷◌, map, filter, true, false, Bool, cond, arith, ap, ◌∙◌, is_eq, is_lt, Less}
use Rattle.shop_schema.proofs.Common.{Equal, Greater, AllByRecursion, nat_cmp, nat_tests, Null, then-Equal, ascending, Binary, Term, Trees, Query, Join, inner}
use Rattle.shop_schema.proofs.Common.{Output, IsAnswer, output_cmp, overlay, IsAscending, map-map, ascending-filter, ascending-map, ascending_weaker}
use Rattle.shop_schema.proofs.Common.{IsPermutation-same, HasRows, columns_of, number_value, number_cmp, kept_as_map, equals, one_tested, number_tested}
use Rattle.shop_schema.proofs.Common.{joined_query, joined_rows, shown_of, Climbs, IsCounted, numbered}
use Rattle.shop_schema.proofs.Lasts.{numbered_counted}
use Rattle.sqlite_value.specs.Order.{Row}

module _ {X : Type 0} (number : X → ℕ) where
  above : (k : ℕ) (xs : List X) (n : ℕ) → n < k → IsCounted k (map number xs) → AllByRecursion (λ y. n < number y) xs
  above k [] n low c = tt
  above k (x ∷ xs) n low c = (omega (arith, c.0), above (k + 1) xs n (omega arith) c.1)

  -- numbers that are counted rise
  pub counted_rise : (k : ℕ) (xs : List X) → IsCounted k (map number xs) → IsAscending (λ x y. number x < number y) xs
  counted_rise k [] c = tt
  counted_rise k (x ∷ xs) c = (above (k + 1) xs (number x) (omega (arith, c.0)) c.1, counted_rise (k + 1) xs c.1)

pub numbered_up : {A : Type 0} (test : ℕ × A → Bool) (xs : List A) → IsAscending (λ x y. x.0 < y.0) (filter test (numbered xs))
numbered_up {A} test xs =
    ascending-filter (λ (x y : ℕ × A). x.0 < y.0) test (numbered xs) (counted_rise (λ (it : ℕ × A). it.0) 1 (numbered xs) (numbered_counted 1 xs))

not_equal : (m n : ℕ) → m < n → is_eq (nat_cmp m n) ≡ false
not_equal m n h = grind (arith, nat_tests)

not_less : (m n : ℕ) → m < n → is_lt (nat_cmp n m) ≡ false
not_less m n h = grind (arith, nat_tests)

pub less : (m n : ℕ) → m < n → nat_cmp m n ≡ Less
less m n h = grind (arith, nat_tests)

pub greater : (m n : ℕ) → m < n → nat_cmp n m ≡ Greater
greater m n h = grind (arith, nat_tests)

pub equal : (m n : ℕ) → m ≡ n → nat_cmp m n ≡ Equal
equal m n h = grind (arith, nat_tests)

-- the test of a number of the row is that it is this one
pub kept_if : (m n : ℕ) (key shown : Row)
    → cond {A = List Output} (equals (number_value m) (number_value n) && true) ((key, shown) ∷ []) [] ≡ cond (m == n) ((key, shown) ∷ []) []
kept_if m n key shown = ap (λ t. cond {A = List Output} t ((key, shown) ∷ []) []) (one_tested _ (number_tested m n))

-- ---- rows that are shown with their numbers

module _ {X : Type 0} (number : X → ℕ) (show : X → Row) where
  abbrev pub numbered_output : X → Output
  numbered_output x = (number_value (number x) ∷ [], show x)

  -- they are in the order of a query that is sorted by the number alone
  module _ (from : Join) (tests shows : List Term) (by : Term) where
    abbrev ordered : Query
    ordered = joined_query from tests shows ((by, ascending Binary) ∷ [])

    one_climbs : (x y : X) → number x < number y
        → (is_eq (output_cmp ordered (numbered_output x) (numbered_output y)) ≡ false)
        × (is_lt (output_cmp ordered (numbered_output y) (numbered_output x)) ≡ false)
    one_climbs x y h = (
      ap is_eq (then-Equal _ ∙ number_cmp (number x) (number y)) ∙ not_equal (number x) (number y) h,
      ap is_lt (then-Equal _ ∙ number_cmp (number y) (number x)) ∙ not_less (number x) (number y) h,
    )

    pub climb_up : (xs : List X) → IsAscending (λ x y. number x < number y) xs → Climbs ordered (map numbered_output xs)
    climb_up xs up = ascending-map _ numbered_output xs (ascending_weaker (λ x y. number x < number y) _ one_climbs xs up)

  -- of the rows of a table each that passes the test is shown, in this order
  module _ (tree : ℕ) (more : Join) (tests shows : List Term) (by : Term) (params : Row) (db : Trees)
      (width : ℕ) (columns : X → Row) (xs : List X) (has : HasRows width (db tree) (map columns xs))
      (low : overlay db [] tree ≡ db tree) where
    abbrev brought : Row → List Output
    brought r = shown_of (ordered (inner tree more) tests shows by) (overlay db []) more (params ∷ r ∷ [])

    pub shows_kept : ((r : Row) → brought r ≡ brought (Null ∷ columns_of width r)) → (test : X → Bool)
        → ((x : X) → brought (Null ∷ columns x) ≡ cond (test x) (numbered_output x ∷ []) [])
        → IsAscending (λ x y. number x < number y) (filter test xs) → (rows : List Row)
        → IsAnswer (ordered (inner tree more) tests shows by) (overlay db []) params rows → rows ≡ map show (filter test xs)
    shows_kept only test picks up rows a =
        joined_rows tree more tests shows ((by, ascending Binary) ∷ []) params db width columns xs has low only
        (λ x. cond (test x) (numbered_output x ∷ []) []) (λ x. IsPermutation-same _ _ (picks x))
        rows a (map numbered_output (filter test xs)) (IsPermutation-same _ _ (kept_as_map test numbered_output xs))
        (climb_up (inner tree more) tests shows by (filter test xs) up)
        ∙ map-map (λ (o : Output). o.1) numbered_output (filter test xs)
