-- A lemma about rows that are read.
use Rattle.shop_schema.proofs.Common.{◌≡◌, refl, List, [], ◌∷◌, map, is_some, is_empty, head}
use Rattle.std.specs.Prelude.{not}

-- a row is there if something was found of it
pub some_there : {A B : Type 0} (f : A → B) (xs : List A) → is_some (head (map f xs)) ≡ not (is_empty xs)
some_there f [] = refl
some_there f (x ∷ xs) = refl
