-- The book's tables as data, in the order in which they are made: the journal's three, and those beside it, each a function of the journal.
use Rattle.std.specs.Prelude.{[], ◌∷◌, codes}
use Rattle.sqlite.specs.Table.{Table}
use Rattle.sqlite.specs.Schema.{Schema}
use Rattle.sql_rows.specs.Tables.{number, bytes, table_of, automatic_of, index_of}

abbrev pub entry_table : Table
entry_table = table_of (codes "entry") 0 (1 ∷ []) ((1 ∷ []) ∷ []) (number (codes "number") ∷ bytes (codes "request") ∷ []) []

abbrev pub reply_table : Table
reply_table = table_of (codes "reply") 2 (1 ∷ []) ((1 ∷ []) ∷ []) (number (codes "number") ∷ number (codes "status") ∷ bytes (codes "body") ∷ []) []

abbrev pub settled_table : Table
settled_table = table_of (codes "settled") 4 (1 ∷ []) ((1 ∷ []) ∷ []) (number (codes "number") ∷ number (codes "status") ∷ bytes (codes "body") ∷ []) []

abbrev pub unsure_table : Table
unsure_table = table_of (codes "unsure") 6 (1 ∷ []) ((1 ∷ []) ∷ []) (number (codes "number") ∷ []) []

abbrev pub rented_table : Table
rented_table =
    table_of (codes "rented") 8 (1 ∷ 2 ∷ []) ((1 ∷ 2 ∷ []) ∷ [])
    (number (codes "copy") ∷ number (codes "number") ∷ number (codes "rental") ∷ number (codes "customer") ∷ []) []

abbrev pub returned_table : Table
returned_table = table_of (codes "returned") 10 (1 ∷ 2 ∷ []) ((1 ∷ 2 ∷ []) ∷ []) (number (codes "rental") ∷ number (codes "number") ∷ []) []

abbrev pub book_schema : Schema
book_schema = record {
  tables = entry_table ∷ reply_table ∷ settled_table ∷ unsure_table ∷ rented_table ∷ returned_table ∷ [];
  indexes = automatic_of (codes "entry") (codes "1") 1 0 (1 ∷ []) ∷ automatic_of (codes "reply") (codes "1") 3 2 (1 ∷ [])
      ∷ automatic_of (codes "settled") (codes "1") 5 4 (1 ∷ []) ∷ automatic_of (codes "unsure") (codes "1") 7 6 (1 ∷ [])
      ∷ automatic_of (codes "rented") (codes "1") 9 8 (1 ∷ 2 ∷ []) ∷ automatic_of (codes "returned") (codes "1") 11 10 (1 ∷ 2 ∷ [])
      ∷ index_of (codes "rented_as") 12 8 (3 ∷ 2 ∷ []) ∷ [];
  views = [];
}
