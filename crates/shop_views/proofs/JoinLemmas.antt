-- Texts of values, joined.
use Rattle.shop_types.proofs.Common.{◌≡◌, ◌<◌, ◌+◌, ◌∙◌, refl, sym, ap, ℕ, List, [], ◌∷◌, ◌++◌, map, take, length, take_more, map-append, String, join_by}
use Rattle.shop_types.proofs.Common.{flat_map, Global}
use Rattle.std.specs.Prelude.{string_bytes, get_or}

flat_is : {X : Type 0} (f : X → List ℕ) (separator : List ℕ) (xs : List X) → flat_map (λ y. separator ++ f y) xs ≡ flat_map (λ y. separator ++ y) (map f xs)
flat_is f separator [] = refl
flat_is f separator (x ∷ xs) = ap (λ (l : List ℕ). (separator ++ f x) ++ l) (flat_is f separator xs)

join_map : {X : Type 0} (f : X → List ℕ) (separator : List ℕ) (xs : List X) → join_by f separator xs ≡ join_by (λ (piece : List ℕ). piece) separator (map f xs)
join_map f separator [] = refl
join_map f separator (x ∷ xs) = ap (λ (l : List ℕ). f x ++ l) (flat_is f separator xs)

-- a text that joins the texts of values
pub joined_texts : {X : Type 0} (f : X → List ℕ) (separator text : List ℕ) (slice texts : List (String Global)) (xs : List X)
    → text ≡ join_by string_bytes separator slice → slice ≡ texts → map string_bytes texts ≡ map f xs → text ≡ join_by f separator xs
joined_texts f separator text slice texts xs is same each =
    is ∙ ap (λ (l : List (String Global)). join_by string_bytes separator l) same
    ∙ join_map string_bytes separator texts ∙ ap (λ (l : List (List ℕ)). join_by (λ (piece : List ℕ). piece) separator l) each ∙ sym (join_map f separator xs)

-- what was made of the values so far, and of one value more
pub made_more : {X Y Z : Type 0} (seen : Y → Z) (told : X → Z) (xs : List X) (i : ℕ) (x : X) (old new : List Y) (y : Y)
    → i < length xs → x ≡ get_or xs i x → new ≡ old ++ y ∷ [] → seen y ≡ told x
    → map seen old ≡ map told (take i xs) → map seen new ≡ map told (take (i + 1) xs)
made_more {X} {Y} {Z} seen told xs i x old new y within at pushed is so_far =
    let more : take (i + 1) xs ≡ take i xs ++ x ∷ [] = take_more xs i x within ∙ ap (λ (z : X). take i xs ++ z ∷ []) (sym at) in
    ap (map seen) pushed ∙ map-append seen old (y ∷ []) ∙ (λ j. so_far j ++ is j ∷ []) ∙ sym (ap (map told) more ∙ map-append told (take i xs) (x ∷ []))
