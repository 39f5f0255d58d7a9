-- The rows of counts of branches, one branch after another.
use Rattle.shop_schema.proofs.Common.{◌≡◌, ◌∙◌, ◌+◌, ◌<◌, ◌++◌, ℕ, zero, suc, List, [], ◌∷◌, map, length, drop, add-one, append_assoc, map-append, refl, sym}
use Rattle.shop_schema.proofs.Common.{ap, arith, flat_map, numbered_from, counter_columns, Count}
use Rattle.sqlite_value.specs.Order as sql

one_after : {X : Type 0} (xs : List X) (i : ℕ) → i < length xs → (x : X) × (drop i xs ≡ x ∷ drop (suc i) xs)
one_after [] i low = absurd (omega (arith, low))
one_after (x ∷ xs) zero low = (x, refl)
one_after (x ∷ xs) (suc i) low = one_after xs i (omega (arith, low))

one_behind : {X : Type 0} (xs : List X) (i : ℕ) → i < length xs → (x : X) × (drop i xs ≡ x ∷ drop (i + 1) xs)
one_behind xs i low = let it = one_after xs i low in (it.0, rw add-one it.1)

pub next_branch : {X : Type 0} (rows_of : ℕ → List Count) (xs : List X) (i : ℕ) → i < length xs
    → (olds news all : List sql.Row) → news ≡ olds ++ map counter_columns (rows_of (i + 1))
    → olds ++ map counter_columns (flat_map (λ it. rows_of it.0) (numbered_from (i + 1) (drop i xs))) ≡ all
    → news ++ map counter_columns (flat_map (λ it. rows_of it.0) (numbered_from (i + 1 + 1) (drop (i + 1) xs))) ≡ all
next_branch {X} rows_of xs i low olds news all g h =
    let cut = one_behind xs i low in
    let rest = flat_map (λ (it : ℕ × X). rows_of it.0) (numbered_from (i + 1 + 1) (drop (i + 1) xs)) in
    ap (λ l. l ++ map counter_columns rest) g ∙ append_assoc olds (map counter_columns (rows_of (i + 1))) (map counter_columns rest)
    ∙ ap (λ l. olds ++ l) (sym (map-append counter_columns (rows_of (i + 1)) rest))
    ∙ ap (λ (l : List X). olds ++ map counter_columns (flat_map (λ it. rows_of it.0) (numbered_from (i + 1) l))) (sym cut.1) ∙ h
