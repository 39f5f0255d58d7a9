-- If rows are in the order of their branches, the rows of the first branch come first.
use Rattle.shop_types.proofs.Common.{◌≡◌, ◌+◌, ◌<◌, ◌≤◌, ◌==◌, ◌++◌, ℕ, List, [], ◌∷◌, filter, Bool, true, false, cond, refl, sym, ap, subst, ◌∙◌, arith}
use Rattle.shop_types.proofs.Common.{AllByRecursion, nat_tests}
use Rattle.sqlite_trees.specs.Tree.{IsAscending}
use Rattle.audit_rows.specs.Lists.{front_of, back_of}

module _ {X : Type 0} (owner : X → ℕ) where
  abbrev pub OwnersRise : List X → Type 0
  OwnersRise = IsAscending (λ x y. owner x ≤ owner y)

  abbrev pub FromOn : ℕ → List X → Type 0
  FromOn b = AllByRecursion (λ x. b ≤ owner x)

  none_of : (b : ℕ) (xs : List X) → FromOn (b + 1) xs → filter (λ x. owner x == b) xs ≡ []
  none_of b [] h = refl
  none_of b (x ∷ xs) h = ap (λ t. cond t (x ∷ filter (λ y. owner y == b) xs) (filter (λ y. owner y == b) xs)) (apart (owner x) h.0) ∙ none_of b xs h.1
    where
      apart : (n : ℕ) → b + 1 ≤ n → (n == b) ≡ false
      apart n q = grind (arith, nat_tests)

  above : (b : ℕ) (x : X) (xs : List X) → b + 1 ≤ owner x → AllByRecursion (λ y. owner x ≤ owner y) xs → FromOn (b + 1) xs
  above b x [] h all = tt
  above b x (y ∷ xs) h all = (omega (arith, h, all.0), above b x xs h all.1)

  later : (b : ℕ) (x : X) → b ≤ owner x → (owner x == b) ≡ false → b + 1 ≤ owner x
  later b x p q = grind (arith, nat_tests)

  -- the branch's rows are the leading rows
  pub own_in_front : (b : ℕ) (xs : List X) → OwnersRise xs → FromOn b xs → front_of (λ x. owner x == b) xs ≡ filter (λ x. owner x == b) xs
  own_in_front b [] up low = refl
  own_in_front b (x ∷ xs) up low = go (owner x == b) refl (own_in_front b xs up.1 low.1)
    where
      go : (t : Bool) → (owner x == b) ≡ t → front_of (λ y. owner y == b) xs ≡ filter (λ y. owner y == b) xs
          → cond t (x ∷ front_of (λ y. owner y == b) xs) [] ≡ cond t (x ∷ filter (λ y. owner y == b) xs) (filter (λ y. owner y == b) xs)
      go true e more = ap (λ l. x ∷ l) more
      go false e more = sym (none_of b xs (above b x xs (later b x low.0 e) up.0))

  -- all rows after the leading rows of branch b are of later branches
  pub back_is_later : (b : ℕ) (xs : List X) → OwnersRise xs → FromOn b xs → FromOn (b + 1) (back_of (λ x. owner x == b) xs)
  back_is_later b [] up low = tt
  back_is_later b (x ∷ xs) up low = go (owner x == b) refl (back_is_later b xs up.1 low.1)
    where
      go : (t : Bool) → (owner x == b) ≡ t → FromOn (b + 1) (back_of (λ y. owner y == b) xs) → FromOn (b + 1) (cond t (back_of (λ y. owner y == b) xs) (x ∷ xs))
      go true e more = more
      go false e more = (later b x low.0 e, above b x xs (later b x low.0 e) up.0)

  pub back_rises : (b : ℕ) (xs : List X) → OwnersRise xs → OwnersRise (back_of (λ x. owner x == b) xs)
  back_rises b [] up = tt
  back_rises b (x ∷ xs) up = go (owner x == b) (back_rises b xs up.1)
    where
      go : (t : Bool) → OwnersRise (back_of (λ y. owner y == b) xs) → OwnersRise (cond t (back_of (λ y. owner y == b) xs) (x ∷ xs))
      go true more = more
      go false more = up

  -- the rows after the leading rows of branch b include all rows of any later branch
  pub others_behind : (b c : ℕ) → b < c → (xs : List X) → filter (λ x. owner x == c) (back_of (λ x. owner x == b) xs) ≡ filter (λ x. owner x == c) xs
  others_behind b c h [] = refl
  others_behind b c h (x ∷ xs) = go (owner x == b) refl (others_behind b c h xs)
    where
      apart : (n : ℕ) → (n == b) ≡ true → (n == c) ≡ false
      apart n q = grind (arith, nat_tests)

      go : (t : Bool) → (owner x == b) ≡ t → filter (λ y. owner y == c) (back_of (λ y. owner y == b) xs) ≡ filter (λ y. owner y == c) xs
          → filter (λ y. owner y == c) (cond t (back_of (λ y. owner y == b) xs) (x ∷ xs)) ≡ filter (λ y. owner y == c) (x ∷ xs)
      go true e more = more ∙ sym (ap (λ t. cond t (x ∷ filter (λ y. owner y == c) xs) (filter (λ y. owner y == c) xs)) (apart (owner x) e))
      go false e more = refl

  -- the leading rows that pass, and the rows after them, make up the list
  pub parts : (p : X → Bool) (xs : List X) → front_of p xs ++ back_of p xs ≡ xs
  parts p [] = refl
  parts p (x ∷ xs) = go (p x) (parts p xs)
    where
      go : (t : Bool) → front_of p xs ++ back_of p xs ≡ xs → cond t (x ∷ front_of p xs) [] ++ cond t (back_of p xs) (x ∷ xs) ≡ x ∷ xs
      go true more = ap (λ l. x ∷ l) more
      go false more = refl

-- ---- one branch after another

-- `rest` is what remains of `all` after the rows of the first b branches
pub record IsRest {X : Type 0} (owner : X → ℕ) (all rest : List X) (b : ℕ) : Type 0 where
  pub rise : OwnersRise owner rest
  pub low : FromOn owner (b + 1) rest
  pub same : (c : ℕ) → b < c → filter (λ x. owner x == c) rest ≡ filter (λ x. owner x == c) all

module _ {X : Type 0} (owner : X → ℕ) (all : List X) where
  pub rest_begins : OwnersRise owner all → FromOn owner 1 all → IsRest owner all all 0
  rest_begins up low = record { rise = up; low = low; same = λ c h. refl }

  -- the leading rows are the next branch's
  pub rest_own : (b : ℕ) (rest front : List X) → IsRest owner all rest b
      → front ≡ front_of (λ x. owner x == b + 1) rest → front ≡ filter (λ x. owner x == b + 1) all
  rest_own b rest front r e = e ∙ own_in_front owner (b + 1) rest r.rise r.low ∙ r.same (b + 1) (omega arith)

  pub rest_step : (b : ℕ) (rest back : List X) → IsRest owner all rest b → back ≡ back_of (λ x. owner x == b + 1) rest → IsRest owner all back (b + 1)
  rest_step b rest back r e = subst (λ (xs : List X). IsRest owner all xs (b + 1)) (sym e) (record {
    rise = back_rises owner (b + 1) rest r.rise;
    low = back_is_later owner (b + 1) rest r.rise r.low;
    same = λ c h. others_behind owner (b + 1) c h rest ∙ r.same c (omega (arith, h));
  })
