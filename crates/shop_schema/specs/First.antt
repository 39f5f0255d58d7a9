-- Says what a value that is read from the first row of an answer has to do with that row.
use Rattle.std.specs.Prelude.{◌≡◌, List, Option, Some, None, slice_get}
use Rattle.sqlite_value.specs.Order.{Row}

-- the value is read from the first row, if there is a row
abbrev pub TellsFirst : {V : Type 0} → (Row → V → Type 0) → List Row → Option V → Type 0
TellsFirst Fits rows None = None ≡ slice_get rows 0
TellsFirst Fits rows (Some v) = (row : Row) × (Some row ≡ slice_get rows 0) × Fits row v
