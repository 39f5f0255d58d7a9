-- The casts of a film, and its actors.
use Rattle.shop_schema.proofs.Common.{◌≡◌, ◌==◌, ◌&&◌, ◌||◌, ℕ, Bool, true, false, cond, List, [], ◌∷◌, ◌++◌, map, filter, not, refl, sym, ap, subst, ◌∙◌}
use Rattle.shop_schema.proofs.Common.{arith, inl, inr, IsPermutation, flat_map, list_any, list_all, AllByRecursion, nat_tests, IsPermutation-refl}
use Rattle.shop_schema.proofs.Common.{IsPermutation-trans, IsPermutation-cons, IsPermutation-middle, IsPermutation-append_right, and_parts, not-true}
use Rattle.shop_schema.proofs.Common.{IsAscending, filter_none, filter_same, all_of, all_weaker, all_from_test, none_from_any, IsPermutation-same, at, lacks}
use Rattle.shop_schema.proofs.Common.{numbered, is_empty, Cast, Catalogue, has_row, are_different, at_one}
use Rattle.shop_schema.proofs.Numbers.{numbered_at}

-- the elements that pass either of two tests, which never both hold
filter_or : {X : Type 0} (p q : X → Bool) → ((x : X) → p x ≡ true → q x ≡ false)
    → (xs : List X) → IsPermutation (filter p xs ++ filter q xs) (filter (λ x. p x || q x) xs)
filter_or p q apart [] = IsPermutation-refl []
filter_or {X} p q apart (x ∷ xs) = go (p x) (q x) refl refl (filter_or p q apart xs)
  where
    go : (a b : Bool) → p x ≡ a → q x ≡ b → IsPermutation (filter p xs ++ filter q xs) (filter (λ y. p y || q y) xs)
        → IsPermutation (cond a (x ∷ filter p xs) (filter p xs) ++ cond b (x ∷ filter q xs) (filter q xs))
        (cond (a || b) (x ∷ filter (λ y. p y || q y) xs) (filter (λ y. p y || q y) xs))
    go true true e f h = absurd (let both : false ≡ true = sym (apart x e) ∙ f in cc)
    go true false e f h = IsPermutation-cons x _ _ h
    go false true e f h = IsPermutation-trans _ _ _ (IsPermutation-middle (filter p xs) x (filter q xs)) (IsPermutation-cons x _ _ h)
    go false false e f h = h

pub turned : (m n : ℕ) → (m == n) ≡ (n == m)
turned m n = grind (arith, nat_tests)

abbrev pub Differ : List Cast → Type 0
Differ = IsAscending (λ (a b : Cast). (a.actor == b.actor) ≡ false)

module _ {A : Type 0} (xs : List A) where
  abbrev pub played_by : List Cast → List (ℕ × A)
  played_by mine = flat_map (λ (c : Cast). map (λ x. (c.actor, x)) (at c.actor xs)) mine

  not_among : (n : ℕ) (mine : List Cast) → AllByRecursion (λ (d : Cast). (n == d.actor) ≡ false) mine
      → (a : ℕ) → (n == a) ≡ true → list_any (λ (d : Cast). d.actor == a) mine ≡ false
  not_among n [] apart a is = refl
  not_among n (d ∷ mine) apart a is = ap (λ t. t || list_any (λ (d : Cast). d.actor == a) mine) (other d.actor apart.0) ∙ not_among n mine apart.1 a is
    where
      other : (m : ℕ) → (n == m) ≡ false → (m == a) ≡ false
      other m h = grind (arith, nat_tests)

  -- the actors of different casts are the actors that have a cast, each once
  pub cast_bag : (mine : List Cast) → Differ mine
      → IsPermutation (played_by mine) (filter (λ (it : ℕ × A). list_any (λ (c : Cast). c.actor == it.0) mine) (numbered xs))
  cast_bag [] apart = IsPermutation-same _ _ (sym (filter_none (λ (it : ℕ × A). false) (numbered xs) (all_of _ (λ it. refl) (numbered xs))))
  cast_bag (c ∷ mine) apart =
      let first : filter (λ (it : ℕ × A). c.actor == it.0) (numbered xs) ≡ map (λ x. (c.actor, x)) (at c.actor xs) =
      filter_same (λ (it : ℕ × A). c.actor == it.0) (λ it. it.0 == c.actor) (λ it. turned c.actor it.0) (numbered xs) ∙ numbered_at c.actor xs in
      IsPermutation-trans _ _ _ (IsPermutation-append_right (map (λ x. (c.actor, x)) (at c.actor xs)) _ _ (cast_bag mine apart.1))
      (subst (λ l.
      IsPermutation (l ++ filter (λ (it : ℕ × A). list_any (λ (d : Cast). d.actor == it.0) mine) (numbered xs))
      (filter (λ (it : ℕ × A). (c.actor == it.0) || list_any (λ (d : Cast). d.actor == it.0) mine) (numbered xs)))
      first
      (filter_or (λ (it : ℕ × A). c.actor == it.0) (λ it. list_any (λ (d : Cast). d.actor == it.0) mine)
      (λ it is. not_among c.actor mine apart.0 it.0 is) (numbered xs)))

  pub there_one : (n : ℕ) → lacks xs n ≡ false → (x : A) × (at n xs ≡ x ∷ [])
  there_one n has = elim (at_one n xs) [ inl none ↦ absurd (let both : false ≡ true = sym has ∙ ap (is_empty {A = A}) none in cc) | inr one ↦ one ]

-- the casts of a film
abbrev pub casts_of : ℕ → List Cast → List Cast
casts_of film casts = filter (λ (c : Cast). c.film == film) casts

pub any_cast : (film actor : ℕ) (casts : List Cast)
    → list_any (λ (c : Cast). c.film == film && c.actor == actor) casts ≡ list_any (λ (c : Cast). c.actor == actor) (casts_of film casts)
any_cast film actor [] = refl
any_cast film actor (c ∷ casts) = go (c.film == film) (any_cast film actor casts)
  where
    go : (t : Bool) → list_any (λ (c : Cast). c.film == film && c.actor == actor) casts ≡ list_any (λ (c : Cast). c.actor == actor) (casts_of film casts)
        → ((t && c.actor == actor) || list_any (λ (c : Cast). c.film == film && c.actor == actor) casts)
        ≡ list_any (λ (c : Cast). c.actor == actor) (cond t (c ∷ casts_of film casts) (casts_of film casts))
    go true more = ap (λ b. (c.actor == actor) || b) more
    go false more = more

-- no cast comes twice, and the actors of casts are there
abbrev pub AreApart : List Cast → Type 0
AreApart = IsAscending (λ (a b : Cast). (a.film == b.film && a.actor == b.actor) ≡ false)

abbrev pub AreThere : Catalogue → List Cast → Type 0
AreThere catalogue = AllByRecursion (λ (c : Cast). lacks catalogue.actors c.actor ≡ false)

pub apart_of : (casts : List Cast)
    → are_different (λ (earlier later : Cast). earlier.film == later.film && earlier.actor == later.actor) casts ≡ true → AreApart casts
apart_of [] h = tt
apart_of (c ∷ casts) h =
    let same : Cast → Bool = λ d. c.film == d.film && c.actor == d.actor in
    let parts =
    and_parts (not (list_any same casts)) (are_different (λ (earlier later : Cast). earlier.film == later.film && earlier.actor == later.actor) casts) h in
    (none_from_any same casts (not-true _ parts.0), apart_of casts parts.1)

pub there_of : (catalogue : Catalogue) (casts : List Cast) → list_all (λ (it : Cast). has_row catalogue.actors it.actor) casts ≡ true → AreThere catalogue casts
there_of catalogue casts h =
    all_weaker (λ (it : Cast). has_row catalogue.actors it.actor ≡ true)
    (λ (it : Cast). lacks catalogue.actors it.actor ≡ false) (λ it. not-true (lacks catalogue.actors it.actor)) casts
    (all_from_test (λ (it : Cast). has_row catalogue.actors it.actor) casts h)

-- casts that are all different have different actors in one film
pub differ_in : (film : ℕ) (casts : List Cast) → AreApart casts → Differ (casts_of film casts)
differ_in film [] apart = tt
differ_in film (c ∷ casts) apart = go (c.film == film) refl (differ_in film casts apart.1)
  where
    others : (c.film == film) ≡ true → (more : List Cast) → AllByRecursion (λ (d : Cast). (c.film == d.film && c.actor == d.actor) ≡ false) more
        → AllByRecursion (λ (d : Cast). (c.actor == d.actor) ≡ false) (casts_of film more)
    others is [] all = tt
    others is (d ∷ more) all = one (d.film == film) refl (others is more all.1)
      where
        same : (d.film == film) ≡ true → (c.film == d.film) ≡ true
        same e = grind (arith, nat_tests)

        one : (t : Bool) → (d.film == film) ≡ t → AllByRecursion (λ (e : Cast). (c.actor == e.actor) ≡ false) (casts_of film more)
            → AllByRecursion (λ (e : Cast). (c.actor == e.actor) ≡ false) (cond t (d ∷ casts_of film more) (casts_of film more))
        one true e rest = (subst (λ t. (t && c.actor == d.actor) ≡ false) (same e) all.0, rest)
        one false e rest = rest

    go : (t : Bool) → (c.film == film) ≡ t → Differ (casts_of film casts) → Differ (cond t (c ∷ casts_of film casts) (casts_of film casts))
    go true e rest = (others e casts apart.0, rest)
    go false e rest = rest
