-- A row of a known width is its columns.
use Rattle.sql_rows.proofs.Common.{◌≡◌, ℕ, zero, suc, [], ◌∷◌, length, refl, ap, ◌∙◌, arith, Value, Row, column, columns_from}

past : (v : Value) (r : Row) (at more : ℕ) → columns_from (suc at) more (v ∷ r) ≡ columns_from at more r
past v r at zero = refl
past v r at (suc more) = ap (λ vs. column r at ∷ vs) (past v r (suc at) more)

pub whole : (n : ℕ) (r : Row) → length r ≡ n → columns_from 0 n r ≡ r
whole zero [] h = refl
whole zero (v ∷ r) h = absurd (omega arith)
whole (suc n) [] h = absurd (omega arith)
whole (suc n) (v ∷ r) h = ap (λ vs. v ∷ vs) (past v r 0 n ∙ whole n r (omega arith))
