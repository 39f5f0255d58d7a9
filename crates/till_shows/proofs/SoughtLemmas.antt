-- A part that a text begins with, at the text's end.
use Rattle.shop_types.proofs.Common.{◌≡◌, ◌≤◌, ◌∙◌, ℕ, suc, ◌==◌, arith, [], ◌∷◌, length, drop, refl, ap, false, drop_all, Text}
use Rattle.till_shows.specs.Lists.{begins_with}

not_zero : (n : ℕ) → false ≡ (suc n == 0)
not_zero n = grind arith

at_end : (left : Text) → begins_with left [] ≡ (length left == 0)
at_end [] = refl
at_end (p ∷ part) = not_zero (length part)

-- the text leaves no byte
pub text_ends : (left text : Text) (i : ℕ) → length text ≤ i → begins_with left (drop i text) ≡ (length left == 0)
text_ends left text i h = ap (begins_with left) (drop_all i text h) ∙ at_end left
