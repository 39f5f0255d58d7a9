-- The tables of branches' numbered rows: each table's place, its columns, and what is kept of its rows.
use Rattle.std.specs.Prelude.{ℕ}
use Rattle.sqlite_value.specs.Order as sql
use Rattle.shop_model.specs.Rows.{Row}
use Rattle.shop_model.specs.Books.{Table, Customers, CopyRows, Rentals, TermRows, Payments, RowOf}
use Rattle.shop_schema.specs.RowValues.{customer_columns, copy_columns, rental_columns, terms_columns, payment_columns, IsRow, IsRowOf}
use Rattle.shop_schema.specs.TableOf.{TableOf}
use Rattle.shop_schema.proofs.ShopTables as table
use Rattle.audit_rows.specs.Tables.{CheckedOf, checked_row}
use Rattle.books_audit.specs.Listed.{FullOf}

-- its place among the tables of the shop, from 0
abbrev pub place_of : Table → ℕ
place_of Customers = 10
place_of CopyRows = 11
place_of Rentals = 12
place_of TermRows = 21
place_of Payments = 13

abbrev pub row_columns : (t : Table) → Row (RowOf t) → sql.Row
row_columns Customers = customer_columns
row_columns CopyRows = copy_columns
row_columns Rentals = rental_columns
row_columns TermRows = terms_columns
row_columns Payments = payment_columns

abbrev pub table_of : (t : Table) → TableOf (row_columns t) (IsRow (IsRowOf t))
table_of Customers = table.customers
table_of CopyRows = table.copies
table_of Rentals = table.rentals
table_of TermRows = table.terms
table_of Payments = table.payments

-- the value is kept of the row
abbrev pub IsKeptRow : (t : Table) → CheckedOf t → sql.Row → Type 0
IsKeptRow t = FullOf (row_columns t) (IsRow (IsRowOf t)) (checked_row t)
