-- Lists whose elements are changed, and tests of them.
use Rattle.shop_types.proofs.Common.{◌≡◌, ◌&&◌, suc, List, [], ◌∷◌, map, filter, length, Bool, true, false, cond, refl, sym, ap, ◌∙◌, list_all}

pub map-twice : {X Y Z : Type 0} (g : Y → Z) (f : X → Y) (xs : List X) → map g (map f xs) ≡ map (λ x. g (f x)) xs
map-twice g f [] = refl
map-twice g f (x ∷ xs) = ap (λ l. g (f x) ∷ l) (map-twice g f xs)

pub map-undone : {X Y : Type 0} (g : Y → X) (f : X → Y) → ((x : X) → g (f x) ≡ x) → (xs : List X) → map g (map f xs) ≡ xs
map-undone g f h [] = refl
map-undone g f h (x ∷ xs) = λ i. h x i ∷ map-undone g f h xs i

pub all-map : {X Y : Type 0} (p : Y → Bool) (f : X → Y) (xs : List X) → list_all p (map f xs) ≡ list_all (λ x. p (f x)) xs
all-map p f [] = refl
all-map p f (x ∷ xs) = ap (λ b. p (f x) && b) (all-map p f xs)

pub filter-map : {X Y : Type 0} (p : Y → Bool) (f : X → Y) (xs : List X) → filter p (map f xs) ≡ map f (filter (λ x. p (f x)) xs)
filter-map p f [] = refl
filter-map p f (x ∷ xs) = go (p (f x)) (filter-map p f xs)
  where
    go : (t : Bool) → filter p (map f xs) ≡ map f (filter (λ y. p (f y)) xs)
        → cond t (f x ∷ filter p (map f xs)) (filter p (map f xs)) ≡ map f (cond t (x ∷ filter (λ y. p (f y)) xs) (filter (λ y. p (f y)) xs))
    go true more = ap (λ l. f x ∷ l) more
    go false more = more

pub length-map : {X Y : Type 0} (f : X → Y) (xs : List X) → length (map f xs) ≡ length xs
length-map f [] = refl
length-map f (x ∷ xs) = ap suc (length-map f xs)

-- there are as many rows as there are mapped rows
pub many_kept : {X Y A : Type 0} (f : X → Y) (g : X → A) (q : Y → Bool) (xs : List X) (ys : List Y)
    → map f xs ≡ ys → length (map g (filter (λ x. q (f x)) xs)) ≡ length (filter q ys)
many_kept f g q xs ys e =
    length-map g (filter (λ x. q (f x)) xs) ∙ sym (length-map f (filter (λ x. q (f x)) xs))
    ∙ ap length (sym (filter-map q f xs)) ∙ ap (λ l. length (filter q l)) e
