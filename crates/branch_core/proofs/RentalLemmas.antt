-- What a copy's rentals say, of rentals as the program has them.
use Rattle.shop_types.proofs.Common.{◌≡◌, refl, ap, Bool, ◌||◌, List, [], ◌∷◌, map, list_any}

pub any_map : {A B : Type 0} (p : B → Bool) (f : A → B) (xs : List A) → list_any p (map f xs) ≡ list_any (λ x. p (f x)) xs
any_map p f [] = refl
any_map p f (x ∷ xs) = ap (λ (b : Bool). p (f x) || b) (any_map p f xs)
