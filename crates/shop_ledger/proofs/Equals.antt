-- Columns that are parameters.
use Rattle.shop_schema.proofs.Common.{ℕ, suc, List, [], ◌∷◌, Binary, Term, col, op2, Compare, Eq}

-- `column = parameter`, for the columns at the given places and the parameters in order
abbrev pub equals : ℕ → List ℕ → List Term
equals k [] = []
equals k (at ∷ places) = op2 (Compare Eq Binary) (col 1 at) (col 0 k) ∷ equals (suc k) places

abbrev pub of_one : List Term
of_one = equals 0 (1 ∷ [])

abbrev pub of_two : List Term
of_two = equals 0 (1 ∷ 2 ∷ [])

abbrev pub of_three : List Term
of_three = equals 0 (1 ∷ 2 ∷ 3 ∷ [])
