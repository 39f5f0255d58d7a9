-- The rows of a table, by the cells of their columns.
use Rattle.std.specs.Prelude.{◌≡◌}
use Rattle.std.proofs.Common.{sym, ap, ◌∙◌}
use Rattle.sqlite_value.specs.Order as sql
use Rattle.shop_model.specs.Books.{CopyRows}
use Rattle.shop_schema.specs.Kinds.{Values, columns_of, FitEach}
use Rattle.shop_schema.specs.TableOf.{TableOf}
use Rattle.shop_schema.proofs.ShopTables as table
use Rattle.audit_rows.specs.States.{state_kept, line_state_kept}
use Rattle.audit_rows.specs.Tables.{CheckedOf, checked_row}
use Rattle.audit_rows.specs.declared.rows.CheckedLine.{CheckedLine}
use Rattle.books_audit.specs.Listed.{FullOf}
use Rattle.books_audit.specs.AuditTables as audited
use Rattle.books_audit.specs.Rows.{placed_row}

-- the cells are the columns of one value
pub full_row : {A X : Type 0} {columns : A → sql.Row} {IsOne : A → Type 0} (t : TableOf columns IsOne) (small : A → X) {x : X} (v : Values t.kinds)
    → FitEach t.kinds v → small (t.from v) ≡ x
    → FullOf columns IsOne small x (columns_of t.kinds v)
full_row t small v fits keeps = record { it = t.from v; has = t.told v; fits = t.ones v fits; keeps = keeps }

-- and each row of the table has such cells
pub only_row : {A X : Type 0} {columns : A → sql.Row} {IsOne : A → Type 0} {small : A → X} (t : TableOf columns IsOne) (x : X) (r : sql.Row)
    → FullOf columns IsOne small x r
    → (v : Values t.kinds) × FitEach t.kinds v × (columns_of t.kinds v ≡ r)
only_row {columns = columns} t x r full = let v = t.only full.it full.fits in (v.0, v.1, sym (t.told v.0) ∙ ap columns v.2 ∙ full.has)

-- ---- of copies and of lines the state is kept as it is read

abbrev pub copy_of : Values table.copies.kinds → CheckedOf CopyRows
copy_of = λ (branch, (number, (film, (at, (origin, (copy, z)))))).
    record { branch = branch; number = number; it = record { film = film; state = at; mark = record { branch = origin; copy = copy } } }

pub copy_kept : (v : Values table.copies.kinds) → checked_row CopyRows (table.copies.from v) ≡ copy_of v
copy_kept v = let row = copy_of v in (λ i. record row { it = record row.it { state = state_kept row.it.state i } })

abbrev pub line_of : Values audited.lines.kinds → CheckedLine
line_of = λ (source, (addressee, (number, (at, (film, (origin, (copy, (state, z)))))))).
    record { source = source; addressee = addressee; number = number; line = at; film = film; mark = record { branch = origin; copy = copy }; state = state }

pub line_kept : (v : Values audited.lines.kinds) → placed_row (audited.lines.from v) ≡ line_of v
line_kept v = let it = line_of v in (λ i. record it { state = line_state_kept it.state i })
