-- A table is one value: the kinds of its columns, and its rows, which are one to one with values of the kinds.
use Rattle.std.specs.Prelude.{◌≡◌, List, ◌∷◌}
use Rattle.sqlite_value.specs.Order as sql
use Rattle.shop_schema.specs.Kinds as kind
use Rattle.shop_schema.specs.Kinds.{Kind, Values, columns_of, FitEach}

-- where the table is known, all but the last are `refl` and projections, and the last mostly
pub record TableOf {A : Type 0} (columns : A → sql.Row) (IsOne : A → Type 0) : Type 0 where
  pub kinds : List Kind
  -- the row whose columns have the given values
  pub from : Values kinds → A
  pub told : (v : Values kinds) → columns (from v) ≡ columns_of kinds v
  pub ones : (v : Values kinds) → FitEach kinds v → IsOne (from v)
  pub only : (x : A) → IsOne x → (v : Values kinds) × FitEach kinds v × (from v ≡ x)

-- the kinds of a person's columns
abbrev pub person_kinds : List Kind → List Kind
person_kinds more = kind.Text 1 45 ∷ kind.Text 1 45 ∷ kind.Text 1 128 ∷ kind.Text 0 45 ∷ kind.Text 0 45 ∷ kind.Number ∷ more
