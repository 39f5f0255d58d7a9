-- Rows moved one by one into one of two lists.
use Rattle.shop_schema.proofs.Common.{◌≡◌, ◌≤◌, ◌==◌, ◌++◌, ℕ, Bool, true, false, List, [], ◌∷◌, length, map, Some, None, refl, sym, subst, arith}
use Rattle.shop_schema.proofs.Common.{IsPermutation, if◌then◌else◌, nat_tests, IsNumber, IsPermutation-refl, IsPermutation-trans, IsPermutation-sym}
use Rattle.shop_schema.proofs.Common.{IsPermutation-append, IsPermutation-middle, append-nil, append_assoc, map_push}
use Rattle.sqlite_value.specs.Order as sql
use Rattle.books_audit.specs.Listed.{AreRows}
use Rattle.books_audit.proofs.Ranges.{ranged}
use Rattle.audit_rows.specs.Lists.{Key}
use Rattle.audit_rows.specs.declared.rows.CheckedKept.{CheckedKept}
use Rattle.books_audit.specs.declared.kept_rows.CallerRow.{CallerRow}
use Rattle.books_audit.specs.Keys.{office_caller, branch_caller}

module _ {X : Type 0} where
  pub one_moved : (all rest old new : List X) (x : X) → IsPermutation all ((x ∷ rest) ++ old) → IsPermutation new (x ∷ old) → IsPermutation all (rest ++ new)
  one_moved all rest old new x p q =
      IsPermutation-trans all _ _ p
      (IsPermutation-sym _ _
      (IsPermutation-trans _ _ _ (IsPermutation-append rest rest new (x ∷ old) (IsPermutation-refl rest) q) (IsPermutation-middle rest x old)))

  pub first_grows : {K : Type 0} (f : K → X) (ks : List K) (k : K) (others : List X)
      → IsPermutation (map f (ks ++ k ∷ []) ++ others) (f k ∷ (map f ks ++ others))
  first_grows f ks k others =
      subst (λ l. IsPermutation (l ++ others) (f k ∷ (map f ks ++ others))) (sym (map_push f ks k))
      (subst (λ l. IsPermutation l (f k ∷ (map f ks ++ others)))
      (sym (append_assoc (map f ks) (f k ∷ []) others)) (IsPermutation-middle (map f ks) (f k) others))

  pub second_grows : {K : Type 0} (f : K → X) (ks : List K) (k : K) (others : List X)
      → IsPermutation (others ++ map f (ks ++ k ∷ [])) (f k ∷ (others ++ map f ks))
  second_grows f ks k others =
      IsPermutation-trans _ _ _ (IsPermutation-append others others _ _ (IsPermutation-refl others) (last (map f ks) (f k)))
      (IsPermutation-middle others (f k) (map f ks))
    where
      last : (xs : List X) (x : X) → IsPermutation (map f (ks ++ k ∷ [])) (f k ∷ map f ks)
      last xs x =
          subst (λ l. IsPermutation l (f k ∷ map f ks)) (sym (map_push f ks k))
          (subst (λ l. IsPermutation (map f ks ++ f k ∷ []) (f k ∷ l)) (append-nil (map f ks)) (IsPermutation-middle (map f ks) (f k) []))

pub zero_is : (n : ℕ) → (if n == 0 then None else Some n) ≡ None → n ≡ 0
zero_is n = go (n == 0) refl
  where
    go : (b : Bool) → (n == 0) ≡ b → (if b then None else Some n) ≡ None → n ≡ 0
    go true e h = grind (arith, nat_tests)
    go false e h = cc

pub some_is : (n m : ℕ) → (if n == 0 then None else Some n) ≡ Some m → n ≡ m
some_is n m = go (n == 0)
  where
    go : (b : Bool) → (if b then None else Some n) ≡ Some m → n ≡ m
    go true h = cc
    go false h = cc

-- ---- callers

pub office_step : (all rest before : List CallerRow) (row : CallerRow) (office new : List Key) (kept : List CheckedKept)
    → IsPermutation all (before ++ (map office_caller office ++ map branch_caller kept)) → before ≡ row ∷ rest → row.caller ≡ 0 → new ≡ office ++ row.key ∷ []
    → IsPermutation all (rest ++ (map office_caller new ++ map branch_caller kept))
office_step all rest before row office new kept p e none g =
    let old = map office_caller office ++ map branch_caller kept in
    let same : row ≡ office_caller row.key = (λ i. record { caller = none i; key = row.key }) in
    subst (λ l. IsPermutation all (rest ++ (map office_caller l ++ map branch_caller kept))) (sym g)
    (one_moved all rest old _ (office_caller row.key) (subst (λ x. IsPermutation all ((x ∷ rest) ++ old)) same (subst (λ l. IsPermutation all (l ++ old)) e p))
    (first_grows office_caller office row.key (map branch_caller kept)))

pub branch_step : (all rest before : List CallerRow) (row : CallerRow) (office : List Key) (kept new : List CheckedKept) (branch : ℕ)
    → IsPermutation all (before ++ (map office_caller office ++ map branch_caller kept))
    → before ≡ row ∷ rest → row.caller ≡ branch → new ≡ kept ++ record { branch = branch; key = row.key } ∷ []
    → IsPermutation all (rest ++ (map office_caller office ++ map branch_caller new))
branch_step all rest before row office kept new branch p e is g =
    let old = map office_caller office ++ map branch_caller kept in
    let it : CheckedKept = record { branch = branch; key = row.key } in
    let same : row ≡ branch_caller it = (λ i. record { caller = is i; key = row.key }) in
    subst (λ l. IsPermutation all (rest ++ (map office_caller office ++ map branch_caller l))) (sym g)
    (one_moved all rest old _ (branch_caller it) (subst (λ x. IsPermutation all ((x ∷ rest) ++ old)) same (subst (λ l. IsPermutation all (l ++ old)) e p))
    (second_grows branch_caller kept it (map office_caller office)))

pub number_is : (n m : ℕ) → (if n == 0 then None else Some n) ≡ Some m → n ≤ 4_294_967_295 → IsNumber m
number_is n m h high = subst IsNumber (some_is n m h) (ranged n (positive (n == 0) refl h, high))
  where
    positive : (b : Bool) → (n == 0) ≡ b → (if b then None else Some n) ≡ Some m → 1 ≤ n
    positive true e k = cc
    positive false e k = grind (arith, nat_tests)

-- ---- one row

kept_of_each : {X : Type 0} (Is : X → sql.Row → Type 0) (xs : List X) (rows : List sql.Row) → AreRows Is xs rows → length xs ≡ length rows
kept_of_each Is [] [] h = refl
kept_of_each Is [] (r ∷ rows) h = absurd h
kept_of_each Is (x ∷ xs) [] h = absurd h
kept_of_each Is (x ∷ xs) (r ∷ rows) h = let more = kept_of_each Is xs rows h.1 in omega (arith, more)

pub not_one_row : {X : Type 0} (Is : X → sql.Row → Type 0) (all rest : List X) (one : X) (rows : List sql.Row)
    → AreRows Is all rows → all ≡ rest ++ one ∷ [] → ¬ (length rest ≡ 0) → ¬ (length rows ≡ 1)
not_one_row Is all [] one rows h e some is = some refl
not_one_row Is [] (x ∷ rest) one rows h e some is = cc
not_one_row Is (y ∷ []) (x ∷ []) one rows h e some is = cc
not_one_row Is (y ∷ []) (x ∷ z ∷ rest) one rows h e some is = cc
not_one_row Is (y ∷ z ∷ all) (x ∷ rest) one rows h e some is = let many = kept_of_each Is (y ∷ z ∷ all) rows h in omega (arith, many, is)
