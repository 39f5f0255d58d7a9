-- What is kept of a table's rows.
use Rattle.std.specs.Prelude.{◌≡◌, List, [], ◌∷◌}
use Rattle.sqlite_value.specs.Order.{Row}

-- each value is kept of its row
abbrev pub AreRows : {X : Type 0} → (X → Row → Type 0) → List X → List Row → Type 0
AreRows Is [] [] = Unit {0}
AreRows Is [] (row ∷ rows) = ⊥
AreRows Is (x ∷ xs) [] = ⊥
AreRows Is (x ∷ xs) (row ∷ rows) = Is x row × AreRows Is xs rows

-- some value is kept of the row, so the row is one of the table's
abbrev pub IsListed : {X : Type 0} → (X → Row → Type 0) → Row → Type 0
IsListed {X} Is r = (x : X) × Is x r

-- a value whose columns are the row; `x` is what is kept of the value
pub record FullOf {X F : Type 0} (columns : F → Row) (Fits : F → Type 0) (small : F → X) (x : X) (r : Row) : Type 0 where
  pub it : F
  pub has : columns it ≡ r
  pub fits : Fits it
  pub keeps : small it ≡ x
