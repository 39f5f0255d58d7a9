-- Rows that are there stay there.
use Rattle.shop_model.proofs.Common.{◌≡◌, ◌≢◌, inl, inr, ℕ, ◌+◌, ◌-◌, List, [], ◌∷◌, ◌++◌, filter, map, length, Bool, true, false, not, refl, sym, ap, ◌∙◌}
use Rattle.shop_model.proofs.Common.{arith, ◌==◌, ◌&&◌, ◌||◌, flat_map, list_any, list_all, cases_Bool, or_parts, and_parts, not-true, false≢true, at, lacks}
use Rattle.shop_model.proofs.Common.{set_at, set_all, set_among, numbered_from, mem, has_row, are_different, is_empty, not-false, true≢false}
use mathlib.Core.Path.{fun_ext}
use Rattle.std.proofs.lemmas.List.Folds.{list_all-append, list_any-append}
use Rattle.shop_model.proofs.RowLemmas.{same_if, differ_if, differ_test}

-- ---- a row of a number

pub any_at_more : {A : Type 0} (p : A → Bool) (n : ℕ) (xs ys : List A) → list_any p (at n xs) ≡ true → list_any p (at n (xs ++ ys)) ≡ true
any_at_more p n [] ys some = absurd (false≢true some)
any_at_more p n (x ∷ xs) ys some = elim (cases_Bool (n == 1)) [
  | inl is ↦ let h : list_any p (x ∷ []) ≡ true = rw is at some in rw is h
  | inr isnt ↦ rw isnt (any_at_more p (n - 1) xs ys (rw isnt at some))
]

pub any_at_set : {A : Type 0} (p : A → Bool) (n m : ℕ) (f : A → A) (xs : List A)
    → ((x : A) → p (f x) ≡ p x) → list_any p (at n (set_at m f xs)) ≡ list_any p (at n xs)
any_at_set p n m f [] same = refl
any_at_set p n m f (x ∷ xs) same = elim (cases_Bool (m == 1)) [
  | inl hit ↦ elim (cases_Bool (n == 1)) [ inl is ↦ rw (hit, is, same x) | inr isnt ↦ rw (hit, isnt) ]
  | inr miss ↦ elim (cases_Bool (n == 1)) [ inl is ↦ rw (miss, is) | inr isnt ↦ rw (miss, isnt) (any_at_set p (n - 1) (m - 1) f xs same) ]
]

has_any : {A : Type 0} (n : ℕ) (xs : List A) → has_row xs n ≡ list_any (λ _. true) (at n xs)
has_any {A = A} n xs = by_rows (at n xs) where
  by_rows : (rows : List A) → not (is_empty rows) ≡ list_any (λ _. true) rows
  by_rows [] = refl
  by_rows (row ∷ rows) = refl

pub has_more : {A : Type 0} (n : ℕ) (xs ys : List A) → has_row xs n ≡ true → has_row (xs ++ ys) n ≡ true
has_more n xs ys has = has_any n (xs ++ ys) ∙ any_at_more (λ _. true) n xs ys (sym (has_any n xs) ∙ has)

pub has_set : {A : Type 0} (n m : ℕ) (f : A → A) (xs : List A) → has_row (set_at m f xs) n ≡ has_row xs n
has_set n m f xs = has_any n (set_at m f xs) ∙ any_at_set (λ _. true) n m f xs (λ x. refl) ∙ sym (has_any n xs)

pub has_set_all : {A : Type 0} (n : ℕ) (ms : List ℕ) (f : A → A) (xs : List A) → has_row (set_all ms f xs) n ≡ has_row xs n
has_set_all n [] f xs = refl
has_set_all n (m ∷ ms) f xs = has_set_all n ms f (set_at m f xs) ∙ has_set n m f xs

-- what holds of all rows holds of that of a number
pub all_at : {A : Type 0} (p : A → Bool) (n : ℕ) (xs : List A) → list_all p xs ≡ true → list_all p (at n xs) ≡ true
all_at p n [] all = refl
all_at p n (x ∷ xs) all = let h = and_parts (p x) (list_all p xs) all in elim (cases_Bool (n == 1)) [
  | inl is ↦ rw (is, h.0)
  | inr isnt ↦ rw isnt (all_at p (n - 1) xs h.1)
]

-- what holds of the row of each number holds also with one row more
pub all_at_more : {A : Type 0} (p : A → Bool) (n : ℕ) (xs : List A) (x : A) → list_all p (at n xs) ≡ true → p x ≡ true → list_all p (at n (xs ++ x ∷ [])) ≡ true
all_at_more p n [] x all is = elim (cases_Bool (n == 1)) [ inl one ↦ rw (one, is) | inr other ↦ rw other ]
all_at_more p n (y ∷ ys) x all is = elim (cases_Bool (n == 1)) [
  | inl one ↦ let h : list_all p (y ∷ []) ≡ true = rw one at all in rw one h
  | inr other ↦ rw other (all_at_more p (n - 1) ys x (rw other at all) is)
]

pub one_at : {A : Type 0} (n : ℕ) (xs : List A) → lacks xs n ≡ false → length (at n xs) ≡ 1
one_at n [] e = absurd (false≢true (sym e))
one_at n (x ∷ xs) e = elim (cases_Bool (n == 1)) [
  | inl is ↦ rw is
  | inr isnt ↦ rw isnt (one_at (n - 1) xs (rw isnt at e))
]

pub at_set_other : {A : Type 0} (x y : ℕ) (f : A → A) (xs : List A) → x ≢ y → at y (set_at x f xs) ≡ at y xs
at_set_other x y f [] differ = refl
at_set_other x y f (it ∷ xs) differ = elim (cases_Bool (x == 1)) [
  | inl hit ↦ let miss : (y == 1) ≡ false = differ_test y 1 (λ e. differ (same_if x 1 hit ∙ sym e)) in rw (hit, miss)
  | inr nothit ↦ elim (cases_Bool (y == 1)) [
    | inl there ↦ rw (nothit, there)
    | inr away ↦
        let d = differ_if x 1 nothit in let e = differ_if y 1 away in rw (nothit, away) (at_set_other (x - 1) (y - 1) f xs (λ h. one_less x y d e differ h))
  ]
] where
  one_less : (x y : ℕ) → x ≢ 1 → y ≢ 1 → x ≢ y → x - 1 ≡ y - 1 → ⊥
  one_less x y d e differ h = grind (arith, d, e, differ, h)

pub all_at_set : {A : Type 0} (p : A → Bool) (n m : ℕ) (f : A → A) (xs : List A) → list_all p (at n xs) ≡ true
    → (n ≡ m → (x : A) → p x ≡ true → p (f x) ≡ true) → list_all p (at n (set_at m f xs)) ≡ true
all_at_set {A = A} p n m f xs all new = elim (cases_Bool (m == n)) [
  | inr other ↦ rw (at_set_other m n f xs (differ_if m n other)) all
  | inl same ↦ rw (same_if m n same) (here n xs all (λ x is. new (sym (same_if m n same)) x is))
] where
  here : (n : ℕ) (xs : List A) → list_all p (at n xs) ≡ true → ((x : A) → p x ≡ true → p (f x) ≡ true) → list_all p (at n (set_at n f xs)) ≡ true
  here n [] all keeps = refl
  here n (x ∷ xs) all keeps = elim (cases_Bool (n == 1)) [
    | inl is ↦ let h : list_all p (x ∷ []) ≡ true = rw is at all in rw is (rw (is, keeps x (and_parts (p x) true h).0))
    | inr isnt ↦ rw isnt (rw isnt (here (n - 1) xs (rw isnt at all) keeps))
  ]

-- ---- lists

pub all_set : {A : Type 0} (p : A → Bool) (n : ℕ) (f : A → A) (xs : List A) → list_all p xs ≡ true
    → ((x : A) → p x ≡ true → p (f x) ≡ true) → list_all p (set_at n f xs) ≡ true
all_set p n f [] all keeps = refl
all_set p n f (x ∷ xs) all keeps = let h = and_parts (p x) (list_all p xs) all in elim (cases_Bool (n == 1)) [
  | inl is ↦ rw (is, keeps x h.0) h.1
  | inr isnt ↦ rw (isnt, h.0) (all_set p (n - 1) f xs h.1 keeps)
]

pub all_set_all : {A : Type 0} (p : A → Bool) (ns : List ℕ) (f : A → A) (xs : List A)
    → list_all p xs ≡ true → ((x : A) → p x ≡ true → p (f x) ≡ true) → list_all p (set_all ns f xs) ≡ true
all_set_all p [] f xs all keeps = all
all_set_all p (n ∷ ns) f xs all keeps = all_set_all p ns f (set_at n f xs) (all_set p n f xs all keeps) keeps

pub all_set_among : {A : Type 0} (p q : A → Bool) (n : ℕ) (f : A → A) (xs : List A)
    → list_all p xs ≡ true → ((x : A) → p (f x) ≡ p x) → list_all p (set_among q n f xs) ≡ true
all_set_among p q n f [] all keeps = refl
all_set_among p q n f (x ∷ xs) all keeps = let h = and_parts (p x) (list_all p xs) all in elim (cases_Bool (q x)) [
  | inr other ↦ rw (other, h.0) (all_set_among p q n f xs h.1 keeps)
  | inl mine ↦ elim (cases_Bool (n == 1)) [
    | inl is ↦ rw (mine, is, keeps x, h.0) h.1
    | inr isnt ↦ rw (mine, isnt, h.0) (all_set_among p q (n - 1) f xs h.1 keeps)
  ]
]

pub all_mapped : {A B : Type 0} (p : B → Bool) (q : A → Bool) (f : A → B) (xs : List A)
    → ((x : A) → q x ≡ true → p (f x) ≡ true) → list_all q xs ≡ true → list_all p (map f xs) ≡ true
all_mapped p q f [] shows all = refl
all_mapped p q f (x ∷ xs) shows all = let h = and_parts (q x) (list_all q xs) all in rw (shows x h.0) (all_mapped p q f xs shows h.1)

pub all_joined : {A B : Type 0} (p : B → Bool) (q : A → Bool) (f : A → List B) (xs : List A)
    → ((x : A) → q x ≡ true → list_all p (f x) ≡ true) → list_all q xs ≡ true → list_all p (flat_map f xs) ≡ true
all_joined p q f [] shows all = refl
all_joined p q f (x ∷ xs) shows all =
    let h = and_parts (q x) (list_all q xs) all in rw (list_all-append p (f x) (flat_map f xs), shows x h.0) (all_joined p q f xs shows h.1)

-- where there is a row, and none that doesn't pass, one does
pub some_passes : {A : Type 0} (p : A → Bool) (rows : List A) → is_empty rows ≡ false → list_any (λ x. not (p x)) rows ≡ false → list_any p rows ≡ true
some_passes p [] there none = absurd (true≢false there)
some_passes p (x ∷ rows) there none = rw (not-false (p x) (or_parts (not (p x)) _ none).0)

pub none_lacks : {A : Type 0} (rows : List A) (ns : List ℕ) → list_any (lacks rows) ns ≡ false → list_all (has_row rows) ns ≡ true
none_lacks rows [] none = refl
none_lacks rows (n ∷ ns) none = let h = or_parts (lacks rows n) (list_any (lacks rows) ns) none in rw h.0 (none_lacks rows ns h.1)

pub all_arrived : {A : Type 0} (p : A → Bool) (missing : List ℕ) (k : ℕ) (xs : List A) → list_all p xs ≡ true
    → list_all p (map (λ it. it.1) (filter (λ it. not (mem it.0 missing)) (numbered_from k xs))) ≡ true
all_arrived p missing k [] all = refl
all_arrived p missing k (x ∷ xs) all = let h = and_parts (p x) (list_all p xs) all in elim (cases_Bool (mem k missing)) [
  | inl gone ↦ rw gone (all_arrived p missing (k + 1) xs h.1)
  | inr stays ↦ rw (stays, h.0) (all_arrived p missing (k + 1) xs h.1)
]

-- tests that agree find alike
pub any_same : {A : Type 0} (p q : A → Bool) (xs : List A) → ((x : A) → p x ≡ q x) → list_any p xs ≡ list_any q xs
any_same p q xs e = ap (λ test. list_any test xs) (fun_ext e)

-- one more that is like none before
pub different_more : {A : Type 0} (same : A → A → Bool) (xs : List A) (x : A) → are_different same xs ≡ true
    → list_any (λ y. same y x) xs ≡ false → are_different same (xs ++ x ∷ []) ≡ true
different_more same [] x all none = refl
different_more {A = A} same (y ∷ ys) x all none =
    let h = and_parts (not (list_any (same y) ys)) (are_different same ys) all in
    let n = or_parts (same y x) (list_any (λ y. same y x) ys) none in
    rw (list_any-append (same y) ys (x ∷ []), not-true _ h.0, n.0) (different_more same ys x h.1 n.1)

pub different_set : {A : Type 0} (same : A → A → Bool) (n : ℕ) (f : A → A) (xs : List A) → ((x y : A) → same x (f y) ≡ same x y)
    → ((x y : A) → same (f x) y ≡ same x y) → are_different same (set_at n f xs) ≡ are_different same xs
different_set same n f [] later earlier = refl
different_set {A = A} same n f (x ∷ xs) later earlier = elim (cases_Bool (n == 1)) [
  | inl is ↦ rw is (ap (λ a. not a && are_different same xs) (any_same (same (f x)) (same x) xs (earlier x)))
  | inr isnt ↦ rw (isnt, any_set (same x) (n - 1) xs (later x), different_set same (n - 1) f xs later earlier)
] where
  any_set : (p : A → Bool) (n : ℕ) (ys : List A) → ((y : A) → p (f y) ≡ p y) → list_any p (set_at n f ys) ≡ list_any p ys
  any_set p n [] e = refl
  any_set p n (y ∷ ys) e = elim (cases_Bool (n == 1)) [ inl is ↦ rw (is, e y) | inr isnt ↦ rw isnt (ap (λ a. p y || a) (any_set p (n - 1) ys e)) ]

-- none passes, since none is left of those that do
pub none_left : {A : Type 0} (p : A → Bool) (xs : List A) → filter p xs ≡ [] → list_any p xs ≡ false
none_left p [] none = refl
none_left {A = A} p (x ∷ xs) none = elim (cases_Bool (p x)) [
  | inl is ↦ let e : ◌≡◌ {A = List A} (x ∷ filter p xs) [] = rw is at none in cc
  | inr isnt ↦ rw isnt (none_left p xs (rw isnt at none))
]

pub is_there : {A : Type 0} (rows : List A) (n : ℕ) → lacks rows n ≡ false → has_row rows n ≡ true
is_there rows n e = rw e
