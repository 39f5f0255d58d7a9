-- Terms of a statement that name columns.
use Rattle.std.specs.Prelude.{ℕ, zero, suc, List, [], ◌∷◌}
use Rattle.sqlite.specs.declared.types.Value.TheVariants.{Null}
use Rattle.sqlite_sql.specs.Term.{Term, lit, col}

-- so many columns from the first on, of the parameters (0) or of the row (1)
abbrev pub cols : ℕ → ℕ → ℕ → List Term
cols side at zero = []
cols side at (suc more) = col side at ∷ cols side (suc at) more

-- VALUES (?1, ?2, ..)
abbrev pub values : ℕ → List Term
values width = lit Null ∷ cols 0 0 width
