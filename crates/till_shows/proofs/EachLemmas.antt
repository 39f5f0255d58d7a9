-- `each` from front to back: the values of the elements before, and the values still to come.
use Rattle.shop_types.proofs.Common.{◌≡◌, ◌∙◌, ◌≤◌, ◌<◌, ◌+◌, ℕ, List, [], ◌∷◌, ◌++◌, map, length, get_or, drop, refl, sym, ap, append-nil, append_assoc}
use Rattle.shop_types.proofs.Common.{Option, Some, None, drop_all, drop_more, option_map}
use Rattle.till_shows.specs.Bodies.{each}

abbrev pub behind : {A : Type 0} → List A → Option (List A) → Option (List A)
behind done rest = option_map (λ more. done ++ more) rest

pub behind_all : {A : Type 0} (rest : Option (List A)) → behind [] rest ≡ rest
behind_all None = refl
behind_all (Some them) = refl

pub behind_last : {A : Type 0} (done : List A) → behind done (Some []) ≡ Some done
behind_last {A} done = ap (λ (them : List A). Some them) (append-nil done)

pub one_more : {A : Type 0} (done : List A) (x : A) (rest : Option (List A))
    → behind done (option_map (λ more. x ∷ more) rest) ≡ behind (done ++ x ∷ []) rest
one_more done x None = refl
one_more {A} done x (Some more) = ap (λ (them : List A). Some them) (sym (append_assoc done (x ∷ []) more))

pub each_one : {A B : Type 0} (f : A → Option B) (done : List B) (a : A) (b : B) (rest : List A) → f a ≡ Some b
    → behind done (each f (a ∷ rest)) ≡ behind (done ++ b ∷ []) (each f rest)
each_one f done a b rest is = rw is (one_more done b (each f rest))

pub each_none : {A B : Type 0} (f : A → Option B) (done : List B) (a : A) (rest : List A) → f a ≡ None → behind done (each f (a ∷ rest)) ≡ None
each_none f done a rest is = rw is refl

-- ---- over a list, from its i-th on

pub turn : {A B : Type 0} (f : A → Option B) (done : List B) (xs : List A) (i : ℕ) (x : A) (y : B) → i < length xs → x ≡ get_or xs i x → f x ≡ Some y
    → behind done (each f (drop i xs)) ≡ behind (done ++ y ∷ []) (each f (drop (i + 1) xs))
turn {A} f done xs i x y h is value =
    ap (λ (them : List A). behind done (each f them)) (drop_more xs i x h ∙ ap (λ (a : A). a ∷ drop (i + 1) xs) (sym is))
    ∙ each_one f done x y (drop (i + 1) xs) value

pub stop : {A B : Type 0} (f : A → Option B) (done : List B) (xs : List A) (i : ℕ) (x : A) → i < length xs → x ≡ get_or xs i x → f x ≡ None
    → behind done (each f (drop i xs)) ≡ None
stop {A} f done xs i x h is value =
    ap (λ (them : List A). behind done (each f them)) (drop_more xs i x h ∙ ap (λ (a : A). a ∷ drop (i + 1) xs) (sym is))
    ∙ each_none f done x (drop (i + 1) xs) value

pub whole : {A B : Type 0} (f : A → Option B) (done : List B) (xs : List A) (i : ℕ) → length xs ≤ i → behind done (each f (drop i xs)) ≡ Some done
whole {A} f done xs i h = ap (λ (them : List A). behind done (each f them)) (drop_all i xs h) ∙ behind_last done

-- `each` over a mapped list
pub each-map : {A B C : Type 0} (g : A → B) (f : B → Option C) (xs : List A) → each f (map g xs) ≡ each (λ a. f (g a)) xs
each-map g f [] = refl
each-map g f (x ∷ xs) = rw (each-map g f xs) refl
