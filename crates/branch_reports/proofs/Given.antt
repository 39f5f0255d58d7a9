-- Lemmas about what a reading shows of a row that is there, and of a row that isn't.
use Rattle.shop_schema.proofs.Common.{◌≡◌, refl, List, [], ◌∷◌, map, Some, None, Sorry, Shows, given, head}
use Rattle.shop_model.specs.Refusals.{Refusal}
use Rattle.shop_model.specs.Machine.{Shown}

pub given_none : {A B : Type 0} (refusal : Refusal) (show : A → Shown) (f : A → B) (rows : List A)
    → None ≡ head (map f rows) → given refusal show rows ≡ Sorry refusal
given_none refusal show f [] is = refl
given_none refusal show f (x ∷ rows) is = cc

pub given_some : {A B : Type 0} (refusal : Refusal) (shown : Shown) (f : A → B) (rows : List A) (y : B)
    → Some y ≡ head (map f rows) → given refusal (λ _. shown) rows ≡ Shows shown
given_some refusal shown f [] y is = cc
given_some refusal shown f (x ∷ rows) y is = refl
