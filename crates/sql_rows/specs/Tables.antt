-- Words for tables as data: STRICT tables whose rows are in a tree of their own, and so are the entries of each key and of each index. Columns are counted from
-- 1,
-- since the hidden rowid comes first.
use Rattle.std.specs.Prelude.{Bool, true, false, [], ◌++◌, None, codes, List, ℕ, map}
use Rattle.sqlite.specs.declared.types.Value.TheVariants.{Null}
use Rattle.sqlite_value.specs.declared.keys.Collation.TheVariants.{Binary}
use Rattle.sqlite_value.specs.Keys.{plain}
use Rattle.sqlite.specs.Table.{Table}
use Rattle.sqlite_schema.specs.declared.schema.Column.{Column}
use Rattle.sqlite_schema.specs.declared.schema.Index.{Index}
use Rattle.sqlite_schema.specs.declared.schema.Reference.{Reference}
use Rattle.sqlite_schema.specs.declared.schema.Action.TheVariants.{NoAction}
use Rattle.sqlite_schema.specs.declared.schema.Kind.{Kind}
use Rattle.sqlite_schema.specs.declared.schema.Kind.TheVariants.{Integer, Text, Blob}

-- a column of a STRICT table
abbrev pub column_of : List ℕ → Kind → Bool → Column
column_of name kind not_null = record { name = name; kind = kind; is_strict = true; not_null = not_null; default = Null; collation = Binary }

-- columns with a value in each row
abbrev pub number : List ℕ → Column
number name = column_of name Integer true

abbrev pub text : List ℕ → Column
text name = column_of name Text true

abbrev pub bytes : List ℕ → Column
bytes name = column_of name Blob true

-- a foreign key, which forbids a row without its parent and does nothing else
abbrev pub reference_of : List ℕ → List ℕ → List (List ℕ) → Reference
reference_of columns parent parent_columns = record {
  columns = columns;
  parent = parent;
  parent_columns = parent_columns;
  on_delete = NoAction;
  on_update = NoAction;
  is_deferred = false;
}

-- the index of a key
abbrev pub automatic_of : List ℕ → List ℕ → ℕ → ℕ → List ℕ → Index
automatic_of name digits tree table columns =
    record {
      name = codes "sqlite_autoindex_" ++ (name ++ (codes "_" ++ digits));
      tree = tree;
      table = table;
      columns = columns;
      order = plain;
      is_unique = true;
    }

-- an index that no key asks for
abbrev pub index_of : List ℕ → ℕ → ℕ → List ℕ → Index
index_of name tree table columns = record { name = name; tree = tree; table = table; columns = columns; order = plain; is_unique = false }

-- a table by its name, its tree, the columns of its primary key, the columns of each further key, its columns, and its foreign keys
abbrev pub table_of : List ℕ → ℕ → List ℕ → List (List ℕ) → List Column → List Reference → Table
table_of name tree primary uniques columns references = record {
  name = name;
  tree = tree;
  columns = columns;
  key = None;
  primary = primary;
  uniques = uniques;
  orders = map (λ _. plain) uniques;
  checks = [];
  references = references;
  computed = [];
  stamps = record { places = []; terms = []; formats = [] };
  is_counted = false;
}
