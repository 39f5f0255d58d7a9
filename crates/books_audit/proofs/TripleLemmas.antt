-- Rows of three numbers are their keys.
use Rattle.shop_schema.proofs.Common.{◌≡◌, ◌∙◌, ◌≤◌, ℕ, List, [], ◌∷◌, map, length, Bool, true, false, refl, sym, ap, subst, subst₂, arith, IsPermutation}
use Rattle.shop_schema.proofs.Common.{AllByRecursion, all_of, all-map, bytes_eq, bytes_eq-Decides, IsPermutation-refl, IsPermutation-trans, IsPermutation-sym}
use Rattle.shop_schema.proofs.Common.{IsPermutation-cons, IsPermutation-middle, IsPermutation-map, map-map, column, number_value, one, pair_columns, Pair}
use Rattle.sqlite_value.specs.Order as sql
use Rattle.books_audit.specs.Listed.{AreRows}
use Rattle.audit_rows.specs.Lists.{Key, count, SameCounts}
use Rattle.audit_rows.proofs.Bags.{count_along}
use Rattle.audit_rows.proofs.Standing.{same_bag_of, all_moved}
use Rattle.books_audit.specs.declared.counts.Triple.{Triple}
use Rattle.books_audit.specs.Triples.{IsWhole, IsTriple, OneTriple, triple_columns, seen_pair}

-- ---- lists that have each key equally often

taken : (k : Key) (ks : List Key) → 1 ≤ count (bytes_eq k) ks → (rest : List Key) × IsPermutation ks (k ∷ rest)
taken k [] h = absurd (omega (arith, h))
taken k (j ∷ ks) h = go (bytes_eq k j) refl (λ low. taken k ks low)
  where
    go : (t : Bool) → bytes_eq k j ≡ t → (1 ≤ count (bytes_eq k) ks → (rest : List Key) × IsPermutation ks (k ∷ rest))
        → (rest : List Key) × IsPermutation (j ∷ ks) (k ∷ rest)
    go true e later =
        let equal : k ≡ j = (bytes_eq-Decides k j).0 e in (ks, subst (λ x. IsPermutation (j ∷ ks) (x ∷ ks)) (sym equal) (IsPermutation-refl (j ∷ ks)))
    go false e later =
        let none : one (bytes_eq k j) ≡ 0 = ap one e in
        let more = later (omega (arith, h, none)) in
        (j ∷ more.0, IsPermutation-trans _ _ _ (IsPermutation-cons j ks (k ∷ more.0) more.1) (IsPermutation-middle (j ∷ []) k more.0))

pub bag_from_counts : (xs ys : List Key) → SameCounts xs ys → IsPermutation xs ys
bag_from_counts [] [] h = IsPermutation-refl []
bag_from_counts [] (y ∷ ys) h = absurd (let e = h (λ _. true) in omega (arith, e))
bag_from_counts (x ∷ xs) ys h =
    let itself : one (bytes_eq x x) ≡ 1 = ap one ((bytes_eq-Decides x x).1 refl) in
    let e = h (bytes_eq x) in
    let it = taken x ys (omega (arith, itself, e)) in
    let rest : SameCounts xs it.0 = λ test. (let f = h test in let g = count_along test ys (x ∷ it.0) it.1 in omega (arith, f, g)) in
    IsPermutation-trans _ _ _ (IsPermutation-cons x xs it.0 (bag_from_counts xs it.0 rest)) (IsPermutation-sym _ _ it.1)

-- ---- columns

pub triple_row : (r : sql.Row) (a b c : ℕ) → length r ≡ 3 → column r 0 ≡ number_value a → column r 1 ≡ number_value b
    → column r 2 ≡ number_value c → triple_columns (record { first = a; second = b; third = c }) ≡ r
triple_row [] a b c n p q s = absurd (omega (arith, n))
triple_row (u ∷ []) a b c n p q s = absurd (omega (arith, n))
triple_row (u ∷ v ∷ []) a b c n p q s = absurd (omega (arith, n))
triple_row (u ∷ v ∷ w ∷ []) a b c n p q s = λ i. sym p i ∷ sym q i ∷ sym s i ∷ []
triple_row (u ∷ v ∷ w ∷ x ∷ r) a b c n p q s = absurd (omega (arith, n))

one_triple : (x y : Triple) → triple_columns x ≡ triple_columns y → x ≡ y
one_triple x y h =
    let first : x.first ≡ y.first = cc in
    let second : x.second ≡ y.second = cc in
    let third : x.third ≡ y.third = cc in
    (λ i. record { first = first i; second = second i; third = third i })

pub as_wide : (r : sql.Row) → OneTriple r → length r ≡ 3
as_wide r it = ap length (sym it.1)

pub whole_first : (r : sql.Row) → OneTriple r → IsWhole (column r 0)
whole_first r it = (it.0.first, ap (λ (s : sql.Row). column s 0) (sym it.1))

pub whole_second : (r : sql.Row) → OneTriple r → IsWhole (column r 1)
whole_second r it = (it.0.second, ap (λ (s : sql.Row). column s 1) (sym it.1))

pub whole_third : (r : sql.Row) → OneTriple r → IsWhole (column r 2)
whole_third r it = (it.0.third, ap (λ (s : sql.Row). column s 2) (sym it.1))

pub columns_of_triples : (xs : List Triple) (rows : List sql.Row) → AreRows IsTriple xs rows → map triple_columns xs ≡ rows
columns_of_triples [] [] h = refl
columns_of_triples [] (r ∷ rows) h = absurd h
columns_of_triples (x ∷ xs) [] h = absurd h
columns_of_triples (x ∷ xs) (r ∷ rows) h = λ i. h.0 i ∷ columns_of_triples xs rows h.1 i

-- what isn't read isn't wanted
pub not_wanted : (rows : List sql.Row) (wanted : List Triple) → ¬ AllByRecursion OneTriple rows → ¬ IsPermutation rows (map triple_columns wanted)
not_wanted rows wanted none h = none (all_moved OneTriple _ _ (IsPermutation-sym _ _ h) (all-map OneTriple triple_columns (λ x. (x, refl)) wanted))

abbrev key_of : Triple → Key
key_of x = x.first ∷ x.second ∷ x.third ∷ []

module _ (rows : List sql.Row) (found wanted : List Triple) (are : AreRows IsTriple found rows) where
  pub rows_from_counts : SameCounts (map key_of found) (map key_of wanted) → IsPermutation rows (map triple_columns wanted)
  rows_from_counts h =
      subst₂ IsPermutation (map-map (map number_value) key_of found ∙ columns_of_triples found rows are) (map-map (map number_value) key_of wanted)
      (IsPermutation-map (map number_value) _ _ (bag_from_counts (map key_of found) (map key_of wanted) h))

  pub counts_from_rows : IsPermutation rows (map triple_columns wanted) → SameCounts (map key_of found) (map key_of wanted)
  counts_from_rows h test =
      let bag = same_bag_of triple_columns (λ it. Unit {0}) (λ x y _ _ e. one_triple x y e) found wanted (all_of _ (λ _. tt) found) (all_of _ (λ _. tt) wanted)
      (subst (λ l. IsPermutation l (map triple_columns wanted)) (sym (columns_of_triples found rows are)) h) in
      count_along test _ _ (IsPermutation-map key_of found wanted bag)

-- rows that were counted by pairs
pub pair_rows : (xs : List Triple) (ps : List Pair) → map seen_pair xs ≡ ps → map triple_columns xs ≡ map pair_columns ps
pair_rows xs ps e = sym (map-map pair_columns seen_pair xs) ∙ ap (map pair_columns) e
