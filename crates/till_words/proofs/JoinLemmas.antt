-- Texts that are joined with a separator.
use Rattle.std.proofs.Common.{◌≡◌, ◌++◌, refl, ap, List, [], ◌∷◌, map}
use Rattle.std.specs.Prelude.{flat_map}
use Rattle.std.specs.List.{join_by}

flat : {X A : Type 0} (f : X → List A) (sep : List A) (xs : List X) → flat_map (λ y. sep ++ f y) xs ≡ flat_map (λ y. sep ++ y) (map f xs)
flat f sep [] = refl
flat f sep (x ∷ xs) = ap (λ rest. (sep ++ f x) ++ rest) (flat f sep xs)

-- what is joined of things is what is joined of their texts
pub joined_texts : {X A : Type 0} (f : X → List A) (sep : List A) (xs : List X) → join_by f sep xs ≡ join_by (λ t. t) sep (map f xs)
joined_texts f sep [] = refl
joined_texts f sep (x ∷ xs) = ap (λ rest. f x ++ rest) (flat f sep xs)
