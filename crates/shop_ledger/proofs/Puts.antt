-- What an INSERT of one row makes of the books, whatever of them says which rows the table has.
use Rattle.shop_schema.proofs.Common.{◌≡◌, ◌/◌, ℕ, suc, List, [], ◌∷◌, ◌++◌, length, true, Ok, IsPermutation, IsPermutation-trans, Value, Null, Term, eval_all}
use Rattle.shop_schema.proofs.Common.{Values, Insert, value_rows, Table, State, ExecutesInside, Means, IsPlainTable, has_put, are_kept, columns_of, Books}
use Rattle.shop_schema.proofs.Common.{shop_schema, Counts, Writes}
use Rattle.sqlite_value.specs.Order as sql
use Rattle.shop_schema.proofs.Stands.{rows_of, rows_at, with_rows, one_has, stands_at, stands_but}

-- `now` are the table's rows with the new row, in any order. `plain` and `alone`, and the premises on the row, are `refl` if the table and the text are known.
module _ (place : ℕ) (table : Table) (plain : IsPlainTable shop_schema place table) (alone : one_has place table.tree shop_schema.tables ≡ true) where
  abbrev width : ℕ
  width = length table.columns

  pub puts_row : (text : List ℕ) (terms : List Term) → Means shop_schema text (Insert place (Values terms (suc width))) → (params row : sql.Row)
      → value_rows params (suc width) (length terms / suc width) terms ≡ eval_all terms (params ∷ []) ∷ [] → eval_all terms (params ∷ []) ≡ Null ∷ row
      → are_kept table.columns row ≡ true → ((id : Value) → columns_of width (id ∷ row) ≡ row)
      → (Given : Books → Type 0) (change : Books → Books) (now : Books → List sql.Row)
      → ((counts : Counts) (books : Books) → Given books
      → (rows_of counts (change books) ≡ with_rows place (now books) (rows_of counts books))
      × IsPermutation (rows_at place (rows_of counts books) ++ row ∷ []) (now books))
      → (old new : State) (count : ℕ) → ExecutesInside 0 text params old new (Ok count) → Writes old new Given change
  puts_row text terms means params row one is kept whole Given change now changes old new count h counts books holds given =
      let done = has_put shop_schema text place table terms width means plain params row old new count h one is kept whole holds.schema_is in
      let it = changes counts books given in
      let rows = IsPermutation-trans _ _ _ (done.rows _ (stands_at place table plain.place counts books old.now.trees holds.stands)) it.1 in
      let stands =
      stands_but place table plain.place alone counts counts books (change books)
      (now books) it.0 old.now.trees new.now.trees done.others holds.stands rows in
      record { schema_is = done.schema_is; keyed = done.keyed holds.keyed; stands = stands }
