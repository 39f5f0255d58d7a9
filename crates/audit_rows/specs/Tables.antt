-- The tables whose rows have a branch and a number: what is checked of a row, and where a table's rows are. Elsewhere, statements about each such table are
-- about any `Table`; a new table has its lines only here.
use Rattle.std.specs.Prelude.{◌==◌, ℕ, Bool, List, [], ◌∷◌, map}
use Rattle.std.specs.List.{AllByRecursion}
use Rattle.shop_model.specs.Rows.{Row}
use Rattle.shop_model.specs.Shop.{Shop}
use Rattle.shop_model.specs.Books.{Books, unmarked, Table, Customers, CopyRows, Rentals, TermRows, Payments, RowOf, RowsOf}
use Rattle.shop_types.specs.declared.rental.Rental.{Rental}
use Rattle.shop_types.specs.declared.payment.Payment.{Payment}
use Rattle.audit_rows.specs.declared.rows.CheckedRow.{CheckedRow}
use Rattle.audit_rows.specs.declared.books.CheckedCustomer.{CheckedCustomer}
use Rattle.audit_rows.specs.declared.books.CheckedCopy.{CheckedCopy}
use Rattle.audit_rows.specs.declared.books.CheckedTerms.{CheckedTerms}
use Rattle.audit_rows.specs.declared.books.NumberedRows.{NumberedRows}
use Rattle.audit_rows.specs.declared.books.OrderedBooks.{OrderedBooks}
use Rattle.audit_rows.specs.Lists.{Key}
use Rattle.audit_rows.specs.States.{kept_state}

-- ---- a row as it is checked

-- the checked columns of a row, without its branch and number
abbrev pub ColumnsOf : Table → Type 0
ColumnsOf Customers = CheckedCustomer
ColumnsOf CopyRows = CheckedCopy
ColumnsOf Rentals = Rental
ColumnsOf TermRows = CheckedTerms
ColumnsOf Payments = Payment

abbrev pub CheckedOf : Table → Type 0
CheckedOf t = CheckedRow (ColumnsOf t)

abbrev pub checked_columns : (t : Table) → RowOf t → ColumnsOf t
checked_columns Customers it = record { city = it.person.city; created = it.created }
checked_columns CopyRows it = record { film = it.film; state = kept_state it.state; mark = record { branch = it.mark.branch; copy = it.mark.copy } }
checked_columns Rentals it = record { rented = it.rented; copy = it.copy; customer = it.customer; returned = it.returned; staff = it.staff }
checked_columns TermRows it = record {}
checked_columns Payments it = record { customer = it.customer; staff = it.staff; rental = it.rental; amount = it.amount; paid = it.paid }

abbrev pub checked_row : (t : Table) → Row (RowOf t) → CheckedOf t
checked_row t row = record { branch = row.branch; number = row.number; it = checked_columns t row.it }

abbrev pub checked_key : {A : Type 0} → CheckedRow A → Key
checked_key row = row.branch ∷ row.number ∷ []

abbrev pub is_in : {A : Type 0} → ℕ → CheckedRow A → Bool
is_in b row = row.branch == b

-- ---- where a table's rows are

abbrev pub checked_rows : OrderedBooks → (t : Table) → List (CheckedOf t)
checked_rows rows Customers = rows.customers.items
checked_rows rows CopyRows = rows.copies.items
checked_rows rows Rentals = rows.rentals.items
checked_rows rows TermRows = rows.terms.items
checked_rows rows Payments = rows.payments.items

abbrev pub lent_rows : NumberedRows → (t : Table) → List (CheckedOf t)
lent_rows rows Customers = rows.customers.now
lent_rows rows CopyRows = rows.copies.now
lent_rows rows Rentals = rows.rentals.now
lent_rows rows TermRows = rows.terms.now
lent_rows rows Payments = rows.payments.now

-- the books with the rows in each table
abbrev pub with_all : ((t : Table) → RowsOf t) → Books → Books
with_all its books = record books { customers = its Customers; copies = its CopyRows; rentals = its Rentals; terms = its TermRows; payments = its Payments }

-- a shop with the rows in each table
abbrev pub shop_with : ((t : Table) → List (RowOf t)) → Shop → Shop
shop_with its shop = record shop {
  customers = its Customers;
  copies = map unmarked (its CopyRows);
  rentals = its Rentals;
  terms = its TermRows;
  payments = its Payments;
}

-- ---- all tables

abbrev pub all_tables : List Table
all_tables = Customers ∷ CopyRows ∷ Rentals ∷ TermRows ∷ Payments ∷ []

abbrev pub OfEach : (Table → Type 0) → Type 0
OfEach P = AllByRecursion P all_tables

pub each : (P : Table → Type 0) → OfEach P → (t : Table) → P t
each P h Customers = h.0
each P h CopyRows = h.1.0
each P h Rentals = h.1.1.0
each P h TermRows = h.1.1.1.0
each P h Payments = h.1.1.1.1.0
