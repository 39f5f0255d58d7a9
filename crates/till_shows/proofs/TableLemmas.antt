-- Blanks, one more at their end.
use Rattle.std.proofs.Common.{◌≡◌, ◌∙◌, refl, ap, arith, ℕ, zero, suc, ◌+◌, List, [], ◌∷◌, ◌++◌}
use Rattle.std.proofs.lemmas.List.{append_assoc}
use Rattle.till_shows.specs.Tables.{blanks}

blanks_end : (n : ℕ) → blanks n ++ 32 ∷ [] ≡ blanks (suc n)
blanks_end zero = refl
blanks_end (suc n) = ap (λ (l : List ℕ). 32 ∷ l) (blanks_end n)

pub blanks_more : (text : List ℕ) (n : ℕ) → (text ++ blanks n) ++ 32 ∷ [] ≡ text ++ blanks (n + 1)
blanks_more text n =
    let next : suc n ≡ n + 1 = omega arith in
    append_assoc text (blanks n) (32 ∷ []) ∙ ap (λ (l : List ℕ). text ++ l) (blanks_end n ∙ ap blanks next)
