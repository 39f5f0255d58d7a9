-- What a call does to the books that tables stand for. What books are, the schema, and when trees stand for books are parameters.
use Rattle.std.specs.Prelude.{◌≡◌, true, []}
use Rattle.sqlite_trees.specs.Tree.{Trees}
use Rattle.sqlite.specs.Schema.{Schema}
use Rattle.sqlite.specs.State.{State, Shows}
use Rattle.sql_rows.specs.Rows.{AreKeyed}

abbrev pub no_schema : Schema
no_schema = record { tables = []; indexes = []; views = [] }

-- the state has the schema
abbrev pub IsOf : Schema → State → Type 0
IsOf schema s = s.now.schema ≡ schema

-- the rowids of the schema's tables rise
abbrev pub IsKeyed : Schema → State → Type 0
IsKeyed schema s = AreKeyed schema s.now.trees

-- A call inside a transaction applies `change` to books that fulfil `Given`, and commits nothing.
pub record Changes {B : Type 0} (schema : Schema) (Stands : Trees → B → Type 0) (old new : State) (Given : B → Type 0) (change : B → B) : Type 0 where
  pub schema_is : IsOf schema new
  pub keyed : IsKeyed schema old → IsKeyed schema new
  pub books : IsKeyed schema old → (books : B) → Stands old.now.trees books → Given books → Stands new.now.trees (change books)
  pub shows : Shows old new new.now old.committed true
