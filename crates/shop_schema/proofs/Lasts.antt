-- The last moment of a branch, as a column of its row, and shared rows by their numbers.
use Rattle.shop_schema.proofs.Common.{◌≡◌, ◌≤◌, ◌+◌, ◌==◌, ◌&&◌, ℕ, List, [], ◌∷◌, map, filter, not, length, Bool, true, false, cond, refl, sym, ap, ◌∙◌, arith}
use Rattle.shop_schema.proofs.Common.{nat_tests, IfSome, AllByRecursion, all-filter, all_map, Value, or_null, column, update_where, number_test, number_tested}
use Rattle.shop_schema.proofs.Common.{one_tested, Moment, IsMoment, Owned, owned_by, numbered_from, IsCounted, Branch, head, set_last, moment_value}
use Rattle.shop_schema.proofs.Common.{branch_columns, IsLast}
use Rattle.sqlite_value.specs.Order as sql
use Rattle.shop_schema.proofs.Lists.{counted_once}

pub numbered_counted : {A : Type 0} (k : ℕ) (xs : List A) → IsCounted k (map (λ it. it.0) (numbered_from k xs))
numbered_counted k [] = tt
numbered_counted k (x ∷ xs) = (refl, numbered_counted (k + 1) xs)

-- at most one shared row has the number
pub numbered_once : {A : Type 0} (k : ℕ) (xs : List A) (n : ℕ) → length (filter (λ (it : ℕ × A). it.0 == n) (numbered_from k xs)) ≤ 1
numbered_once {A} k xs n = counted_once (λ (it : ℕ × A). it.0) k (numbered_from k xs) n (numbered_counted k xs)

-- the last moment of a branch is one
pub last_fits : (b : ℕ) (lasts : List (Owned Moment)) → AllByRecursion IsLast lasts → IfSome (head (owned_by b lasts)) IsMoment
last_fits b lasts all =
    first (owned_by b lasts)
    (all_map IsMoment (λ (row : Owned Moment). row.it) (filter (λ (row : Owned Moment). row.owner == b) lasts)
    (all-filter IsLast (λ (row : Owned Moment). row.owner == b) lasts all))
  where
    first : (ms : List Moment) → AllByRecursion IsMoment ms → IfSome (head ms) IsMoment
    first [] fit = tt
    first (m ∷ ms) fit = fit.0

-- ---- what an UPDATE of the column does

abbrev pub with_last : Moment → sql.Row → sql.Row
with_last moment vs = column vs 0 ∷ column vs 1 ∷ column vs 2 ∷ column vs 3 ∷ column vs 4 ∷ column vs 5 ∷ column vs 6 ∷ moment_value moment ∷ []

abbrev others : ℕ → List (Owned Moment) → List (Owned Moment)
others b lasts = filter (λ row. not (row.owner == b)) lasts

apart : (m n b : ℕ) → (n == b) ≡ false → (m == b) ≡ true → (m == n) ≡ false
apart m n b h is = grind (arith, nat_tests)

-- the last moments of other branches stay
kept_apart : (n b : ℕ) (lasts : List (Owned Moment)) → (n == b) ≡ false → owned_by n (others b lasts) ≡ owned_by n lasts
kept_apart n b [] h = refl
kept_apart n b (row ∷ lasts) h = go (row.owner == b) refl (kept_apart n b lasts h)
  where
    go : (t : Bool) → (row.owner == b) ≡ t → owned_by n (others b lasts) ≡ owned_by n lasts
        → owned_by n (cond (not t) (row ∷ others b lasts) (others b lasts))
        ≡ map (λ it. it.it) (cond (row.owner == n) (row ∷ filter (λ it. it.owner == n) lasts) (filter (λ it. it.owner == n) lasts))
    go true is more =
        more
        ∙ ap (λ u. map (λ (it : Owned Moment). it.it) (cond u (row ∷ filter (λ it. it.owner == n) lasts) (filter (λ it. it.owner == n) lasts)))
        (sym (apart row.owner n b h is))
    go false is more = further (row.owner == n) more
      where
        further : (u : Bool) → owned_by n (others b lasts) ≡ owned_by n lasts
            → map (λ (it : Owned Moment). it.it) (cond u (row ∷ filter (λ it. it.owner == n) (others b lasts)) (filter (λ it. it.owner == n) (others b lasts)))
            ≡ map (λ (it : Owned Moment). it.it) (cond u (row ∷ filter (λ it. it.owner == n) lasts) (filter (λ it. it.owner == n) lasts))
        further true same = ap (λ l. row.it ∷ l) same
        further false same = same

pub turned : (m n : ℕ) (t : Bool) → (m == n) ≡ t → (n == m) ≡ t
turned m n true h = grind (arith, nat_tests)
turned m n false h = grind (arith, nat_tests)

one_branch : (b : ℕ) (moment : Moment) (lasts : List (Owned Moment)) (it : ℕ × Branch)
    → branch_columns (set_last b moment lasts) it
    ≡ cond (number_test 0 b (branch_columns lasts it) && true) (with_last moment (branch_columns lasts it)) (branch_columns lasts it)
one_branch b moment lasts it =
    go (it.0 == b) refl
    ∙ ap (λ t. cond t (with_last moment (branch_columns lasts it)) (branch_columns lasts it))
    (sym (one_tested (number_test 0 b (branch_columns lasts it)) (number_tested it.0 b)))
  where
    first : (t : Bool) → (b == it.0) ≡ t
        → owned_by it.0 (set_last b moment lasts) ≡ cond t (moment ∷ owned_by it.0 (others b lasts)) (owned_by it.0 (others b lasts))
    first true is =
        ap (λ u.
        map (λ (row : Owned Moment). row.it)
        (cond u (record { owner = b; it = moment } ∷ filter (λ row. row.owner == it.0) (others b lasts))
        (filter (λ row. row.owner == it.0) (others b lasts))))
        is
    first false is =
        ap (λ u.
        map (λ (row : Owned Moment). row.it)
        (cond u (record { owner = b; it = moment } ∷ filter (λ row. row.owner == it.0) (others b lasts))
        (filter (λ row. row.owner == it.0) (others b lasts))))
        is

    shown : (xs ys : List Moment) → xs ≡ ys → or_null moment_value (head xs) ≡ or_null moment_value (head ys)
    shown xs ys same = ap (λ (ms : List Moment). or_null moment_value (head ms)) same

    row_with : Value → sql.Row
    row_with v =
        column (branch_columns lasts it) 0 ∷ column (branch_columns lasts it) 1 ∷ column (branch_columns lasts it) 2 ∷ column (branch_columns lasts it) 3
        ∷ column (branch_columns lasts it) 4 ∷ column (branch_columns lasts it) 5 ∷ column (branch_columns lasts it) 6 ∷ v ∷ []

    go : (t : Bool) → (it.0 == b) ≡ t
        → branch_columns (set_last b moment lasts) it ≡ cond t (with_last moment (branch_columns lasts it)) (branch_columns lasts it)
    go true is = ap row_with (shown _ _ (first true (turned it.0 b true is)))
    go false is = ap row_with (shown _ _ (first false (turned it.0 b false is) ∙ kept_apart it.0 b lasts is))

pub last_set : (b : ℕ) (moment : Moment) (lasts : List (Owned Moment)) (its : List (ℕ × Branch))
    → map (branch_columns (set_last b moment lasts)) its ≡ update_where (λ vs. number_test 0 b vs && true) (with_last moment) (map (branch_columns lasts) its)
last_set b moment lasts [] = refl
last_set b moment lasts (it ∷ its) = λ i. one_branch b moment lasts it i ∷ last_set b moment lasts its i
