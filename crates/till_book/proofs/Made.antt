-- Sums that are made one after another.
use Rattle.sql_rows.proofs.Common.{◌≡◌, ◌∙◌, ◌+◌, ◌<◌, ℕ, zero, suc, List, [], ◌∷◌, ◌++◌, map, length, sym, ap, arith, append_assoc}
use Rattle.std.specs.Prelude.{drop, get_or}

rest_of : {X : Type 0} (xs : List X) (i : ℕ) (x : X) → i < length xs → x ≡ get_or xs i x → drop i xs ≡ x ∷ drop (i + 1) xs
rest_of [] i x low is = absurd (omega (arith, low))
rest_of (y ∷ xs) zero x low is = ap (λ z. z ∷ xs) (sym is)
rest_of (y ∷ xs) (suc i) x low is =
    let place : suc i + 1 ≡ suc (i + 1) = omega arith in
    rest_of xs i x (omega (arith, low)) is ∙ ap (λ (m : ℕ). x ∷ drop m (y ∷ xs)) (sym place)

-- one more is put after those that were made
pub one_made : {X Y : Type 0} (f : X → Y) (xs : List X) (i : ℕ) (x : X) (before after : List Y) (y : Y)
    → i < length xs → x ≡ get_or xs i x → after ≡ before ++ y ∷ [] → y ≡ f x
    → before ++ map f (drop i xs) ≡ map f xs → after ++ map f (drop (i + 1) xs) ≡ map f xs
one_made f xs i x before after y low is put made so_far =
    ap (λ l. l ++ map f (drop (i + 1) xs)) put ∙ append_assoc before (y ∷ []) (map f (drop (i + 1) xs))
    ∙ ap (λ z. before ++ z ∷ map f (drop (i + 1) xs)) made ∙ ap (λ l. before ++ map f l) (sym (rest_of xs i x low is)) ∙ so_far
