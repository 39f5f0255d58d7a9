-- Schemas in which no term stands: with no view, no CHECK and no default that is computed.
use Rattle.std.specs.Prelude.{ℕ, take, ◌≡◌, Bool, true, false, ◌&&◌, List, [], ◌∷◌, IsTrue}
use Rattle.std.specs.List.{list_all}
use Rattle.sqlite_schema.specs.declared.schema.Table.{Table}
use Rattle.sqlite_schema.specs.declared.schema.Schema.{Schema}

abbrev pub is_none : {A : Type 0} → List A → Bool
is_none [] = true
is_none (_ ∷ _) = false

-- no CHECK, and no default that is computed
abbrev pub is_bare : Table → Bool
is_bare table = is_none table.checks && (is_none table.stamps.places && (is_none table.stamps.terms && is_none table.stamps.formats))

pub record IsPlain (schema : Schema) : Type 0 where
  pub bare : IsTrue (list_all is_bare schema.tables)
  pub unviewed : schema.views ≡ []

-- the first tables and the first indexes of a schema
abbrev pub begun : ℕ → ℕ → Schema → Schema
begun tables indexes schema = record { tables = take tables schema.tables; indexes = take indexes schema.indexes; views = [] }

-- both begin with one and the same table, in which no term stands
abbrev pub HaveFirst : List Table → List Table → Type 0
HaveFirst [] others = ⊥
HaveFirst (table ∷ more) [] = ⊥
HaveFirst (table ∷ more) (other ∷ others) = (table ≡ other) × IsTrue (is_bare other)
