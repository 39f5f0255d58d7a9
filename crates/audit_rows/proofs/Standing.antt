-- Books that stand for the same tables have the same rows.
use Rattle.shop_types.proofs.Common.{◌≡◌, ◌+◌, ◌<◌, ◌++◌, ℕ, List, [], ◌∷◌, map, filter, Bool, true, false, cond, refl, sym, ap, subst, subst₂, ◌∙◌, arith}
use Rattle.shop_types.proofs.Common.{IsPermutation, AllByRecursion, IsPermutation-sym, IsPermutation-trans, IsCounted, numbered, numbered_from}
use Rattle.std.proofs.lemmas.List.{append-nil}
use Rattle.sqlite_trees.specs.Tree.{IsAscending}
use Rattle.sqlite_keyed.proofs.ListLemmas.{along_permutation, IsPermutation-filter, filter_all, filter_none}
use Rattle.audit_rows.proofs.Canon.{one_rising}
use Rattle.audit_rows.proofs.JoinLemmas.{unmapped_bag}

pub all_moved : {X : Type 0} (P : X → Type 0) (xs ys : List X) → IsPermutation xs ys → AllByRecursion P xs → AllByRecursion P ys
all_moved P =
    along_permutation (λ xs ys. AllByRecursion P xs → AllByRecursion P ys) (λ xs h. h)
    (λ x xs ys f h. (h.0, f h.1)) (λ x y xs h. (h.1.0, (h.0, h.1.1))) (λ xs ys zs f g h. g (f h))

-- ---- columns that are one to one on the rows that the program can hold

module _ {X Y : Type 0} (f : X → Y) (V : X → Type 0) (one : (a b : X) → V a → V b → f a ≡ f b → a ≡ b) where
  one_list : (xs ys : List X) → AllByRecursion V xs → AllByRecursion V ys → map f xs ≡ map f ys → xs ≡ ys
  one_list [] [] p q h = refl
  one_list [] (y ∷ ys) p q h = cc
  one_list (x ∷ xs) [] p q h = cc
  one_list (x ∷ xs) (y ∷ ys) p q h =
      let first : f x ≡ f y = cc in
      let rest : map f xs ≡ map f ys = cc in
      (λ i. one x y p.0 q.0 first i ∷ one_list xs ys p.1 q.1 rest i)

  pub same_bag_of : (xs ys : List X) → AllByRecursion V xs → AllByRecursion V ys → IsPermutation (map f xs) (map f ys) → IsPermutation xs ys
  same_bag_of xs ys p q h =
      let it = unmapped_bag f _ _ h xs refl in
      subst (IsPermutation xs) (one_list it.0 ys (all_moved V xs it.0 it.1 p) q it.2) it.1

  -- two lists of rows for one table are one bag
  pub same_rows : (table : List Y) (xs ys : List X) → AllByRecursion V xs → AllByRecursion V ys
      → IsPermutation table (map f xs) → IsPermutation table (map f ys) → IsPermutation xs ys
  same_rows table xs ys p q a b = same_bag_of xs ys p q (IsPermutation-trans _ _ _ (IsPermutation-sym _ _ a) b)

-- ---- shared rows, numbered by their places

module _ {A : Type 0} where
  abbrev place : ℕ × A → ℕ
  place it = it.0

  counts : (k : ℕ) (xs : List A) → IsCounted k (map place (numbered_from k xs))
  counts k [] = tt
  counts k (x ∷ xs) = (refl, counts (k + 1) xs)

  over : (k n : ℕ) (xs : List A) → n < k → AllByRecursion (λ (it : ℕ × A). n < it.0) (numbered_from k xs)
  over k n [] h = tt
  over k n (x ∷ xs) h = (h, over (k + 1) n xs (omega arith))

  rising : (k : ℕ) (xs : List A) → IsAscending (λ (a b : ℕ × A). a.0 < b.0) (numbered_from k xs)
  rising k [] = tt
  rising k (x ∷ xs) = (over (k + 1) k xs (omega arith), rising (k + 1) xs)

  unnumbered : (k : ℕ) (xs : List A) → map (λ (it : ℕ × A). it.1) (numbered_from k xs) ≡ xs
  unnumbered k [] = refl
  unnumbered k (x ∷ xs) = ap (λ l. x ∷ l) (unnumbered (k + 1) xs)

  -- a bag of numbered rows is one list
  pub one_numbered : (xs ys : List A) → IsPermutation (numbered ys) (numbered xs) → xs ≡ ys
  one_numbered xs ys h =
      sym (unnumbered 1 xs) ∙ ap (map (λ (it : ℕ × A). it.1)) (one_rising place (numbered xs) (numbered ys) h (counts 1 ys) (rising 1 xs)) ∙ unnumbered 1 ys

-- ---- one table for the rows of two lists

module _ {Y : Type 0} (p : Y → Bool) where
  filter-append : (xs ys : List Y) → filter p (xs ++ ys) ≡ filter p xs ++ filter p ys
  filter-append [] ys = refl
  filter-append (x ∷ xs) ys = go (p x) (filter-append xs ys)
    where
      go : (t : Bool) → filter p (xs ++ ys) ≡ filter p xs ++ filter p ys
          → cond t (x ∷ filter p (xs ++ ys)) (filter p (xs ++ ys)) ≡ cond t (x ∷ filter p xs) (filter p xs) ++ filter p ys
      go true more = ap (λ l. x ∷ l) more
      go false more = more

  second_part : (us vs : List Y) → AllByRecursion (λ y. p y ≡ false) us → AllByRecursion (λ y. p y ≡ true) vs → filter p (us ++ vs) ≡ vs
  second_part us vs a b = filter-append us vs ∙ (λ i. filter_none p us a i ++ filter_all p vs b i)

  first_part : (us vs : List Y) → AllByRecursion (λ y. p y ≡ true) us → AllByRecursion (λ y. p y ≡ false) vs → filter p (us ++ vs) ≡ us
  first_part us vs a b = filter-append us vs ∙ (λ i. filter_all p us a i ++ filter_none p vs b i) ∙ append-nil us

  -- if a test separates the two parts of each list, and the lists are one bag, their second parts are one bag
  pub second_bag : (us vs ss ts : List Y) → AllByRecursion (λ y. p y ≡ false) us → AllByRecursion (λ y. p y ≡ true) vs
      → AllByRecursion (λ y. p y ≡ false) ss → AllByRecursion (λ y. p y ≡ true) ts
      → IsPermutation (us ++ vs) (ss ++ ts) → IsPermutation vs ts
  second_bag us vs ss ts a b c d h = subst₂ IsPermutation (second_part us vs a b) (second_part ss ts c d) (IsPermutation-filter p _ _ h)

  pub first_bag : (us vs ss ts : List Y) → AllByRecursion (λ y. p y ≡ true) us → AllByRecursion (λ y. p y ≡ false) vs
      → AllByRecursion (λ y. p y ≡ true) ss → AllByRecursion (λ y. p y ≡ false) ts
      → IsPermutation (us ++ vs) (ss ++ ts) → IsPermutation us ss
  first_bag us vs ss ts a b c d h = subst₂ IsPermutation (first_part us vs a b) (first_part ss ts c d) (IsPermutation-filter p _ _ h)
