-- Two states that differ only in the order of their maps and sets are the same to a branch.
use Rattle.shop_model.proofs.Common.{◌≡◌, inl, inr, List, [], ◌∷◌, find, Bool, true, false, not, Option, None, Some, refl, sym, subst, ◌∙◌, IsPermutation, ◌==◌}
use Rattle.shop_model.proofs.Common.{◌&&◌, bytes_eq, list_any, AllByRecursion, cases_Bool, and_parts, or_parts, not-true, false≢true, All-from_recursion}
use Rattle.shop_model.proofs.Common.{recursion_from_All, bytes_eq-Decides, Text, Cast, Kept, OfficeKept, State, are_different, SameState, IsReordered}
use Rattle.std.proofs.lemmas.List.Sorted.{All-permutation, length_permutation, list_any-IsPermutation}

-- ---- maps

-- each row that passes is the one that is found
abbrev IsOnly : {A : Type 0} → (A → Bool) → Option A → List A → Type 0
IsOnly p found ys = AllByRecursion (λ y. p y ≡ true → found ≡ Some y) ys

none_later : {A : Type 0} (same : A → A → Bool) (p : A → Bool) (x : A) (ys : List A) → ((x y : A) → p x ≡ true → p y ≡ true → same x y ≡ true)
    → p x ≡ true → list_any (same x) ys ≡ false → IsOnly p (Some x) ys
none_later same p x [] agree is none = tt
none_later same p x (y ∷ ys) agree is none =
    let parts = or_parts (same x y) (list_any (same x) ys) none in
    (λ too. absurd (false≢true (sym parts.0 ∙ agree x y is too)), none_later same p x ys agree is parts.1)

-- where those that pass are all the same, and no two are
only_one : {A : Type 0} (same : A → A → Bool) (p : A → Bool) (xs : List A) → ((x y : A) → p x ≡ true → p y ≡ true → same x y ≡ true)
    → are_different same xs ≡ true → IsOnly p (find p xs) xs
only_one same p [] agree differ = tt
only_one {A} same p (x ∷ xs) agree differ =
    let parts = and_parts (not (list_any (same x) xs)) (are_different same xs) differ in
    let Only : Option A → Type 0 = λ found. IsOnly p found (x ∷ xs) in
    elim (cases_Bool (p x)) [
      | inl is ↦
          let e : Some x ≡ find p (x ∷ xs) = rw is in subst Only e ((λ too. refl), none_later same p x xs agree is (not-true (list_any (same x) xs) parts.0))
      | inr isnt ↦
          let e : find p xs ≡ find p (x ∷ xs) = rw isnt in
          subst Only e ((λ is. absurd (false≢true (sym isnt ∙ is))), only_one same p xs agree parts.1)
    ]

none_found : {A : Type 0} (p : A → Bool) (xs : List A) → list_any p xs ≡ false → find p xs ≡ None
none_found p [] none = refl
none_found p (x ∷ xs) none = let parts = or_parts (p x) (list_any p xs) none in rw parts.0 (none_found p xs parts.1)

one_found : {A : Type 0} (p : A → Bool) (found : Option A) (ys : List A) → IsOnly p found ys → list_any p ys ≡ true → found ≡ find p ys
one_found p found [] only some = absurd (false≢true some)
one_found p found (y ∷ ys) only some = elim (cases_Bool (p y)) [
  | inl is ↦ rw is (only.0 is)
  | inr isnt ↦ rw isnt (one_found p found ys only.1 (rw isnt at some))
]

found_moved : {A : Type 0} (same : A → A → Bool) (p : A → Bool) (xs ys : List A) → ((x y : A) → p x ≡ true → p y ≡ true → same x y ≡ true)
    → are_different same xs ≡ true → IsPermutation xs ys → find p xs ≡ find p ys
found_moved {A} same p xs ys agree differ moved =
    let IsIt : A → Type 0 = λ y. p y ≡ true → find p xs ≡ Some y in
    elim (cases_Bool (list_any p ys)) [
      | inl some ↦
          let only = recursion_from_All IsIt ys (All-permutation IsIt xs ys moved (All-from_recursion IsIt xs (only_one same p xs agree differ))) in
          one_found p (find p xs) ys only some
      | inr none ↦ none_found p xs (list_any-IsPermutation p xs ys moved ∙ none) ∙ sym (none_found p ys none)
    ]

-- ---- states

same_key : (key a b : Text) → bytes_eq a key ≡ true → bytes_eq b key ≡ true → bytes_eq a b ≡ true
same_key key a b is too = (bytes_eq-Decides a b).1 ((bytes_eq-Decides a key).0 is ∙ sym ((bytes_eq-Decides b key).0 too))

pub reordered_same : (one other : State) → IsReordered one other → SameState one other
reordered_same one other is =
    let shared = is.catalogue in
    let own = is.shop in
    record {
      catalogue = record {
        rest = shared.rest;
        kept = λ key.
            found_moved (λ (a b : OfficeKept). bytes_eq a.command.key b.command.key)
            (λ (k : OfficeKept). bytes_eq k.command.key key) one.catalogue.kept other.catalogue.kept
            (λ a b. same_key key a.command.key b.command.key) shared.keys shared.kept;
        size = sym (length_permutation one.catalogue.kept other.catalogue.kept shared.kept);
        casts =
            λ film actor. list_any-IsPermutation (λ (it : Cast). it.film == film && it.actor == actor) one.catalogue.casts other.catalogue.casts shared.casts;
      };
      shop = record {
        rest = own.rest;
        kept =
            λ key. found_moved (λ (a b : Kept). bytes_eq a.command.key b.command.key) (λ (k : Kept). bytes_eq k.command.key key) one.shop.kept other.shop.kept
            (λ a b. same_key key a.command.key b.command.key) own.keys own.kept;
        size = sym (length_permutation one.shop.kept other.shop.kept own.kept);
        lots = λ lot. list_any-IsPermutation (bytes_eq lot) one.shop.lots other.shop.lots own.lots;
      };
    }
