-- What a row means.
use Rattle.std.specs.Prelude.{[], ◌∷◌, None}
use Rattle.sqlite.specs.Values.{or_null}
use Rattle.sqlite_value.specs.Order as sql
use Rattle.sql_rows.specs.Rows.{number_value}
use Rattle.shop_model.specs.Rows.{Row}
use Rattle.shop_model.specs.Values.{Customer, Copy, Rental, Terms, Payment}
use Rattle.shop_model.specs.Books.{BookCopy}
use Rattle.shop_types.specs.Seen.{seen_customer, seen_rental, seen_terms, seen_payment, seen_mark, seen_state}
use Rattle.shop_schema.specs.RowValues.{IsRental, IsTerms, moment_value}
use Rattle.shop_store.specs.declared.customers.CustomerRow.{CustomerRow}
use Rattle.shop_store.specs.declared.copies.CopyRow.{CopyRow}
use Rattle.shop_store.specs.declared.copies.CopyNow.{CopyNow}
use Rattle.shop_store.specs.declared.rentals.RentalRow.{RentalRow}
use Rattle.shop_store.specs.declared.payments.PaymentRow.{PaymentRow}
use Rattle.shop_store.specs.declared.terms.TermsRow.{TermsRow}
use Rattle.shop_store.specs.declared.termed.TermedRental.{TermedRental}

-- a customer of a branch, with the number
abbrev pub seen_row : CustomerRow → Row Customer
seen_row row = record { branch = row.branch; number = row.number; it = seen_customer row.customer }

-- a copy of a branch, with the number
abbrev pub seen_copy_row : CopyRow → Row BookCopy
seen_copy_row row = record {
  branch = row.branch;
  number = row.number;
  it = record { film = row.film; state = seen_state row.state; mark = seen_mark row.mark };
}

-- the current state of a copy, as it is in its branch's shop
abbrev pub seen_copy_now : CopyNow → Copy
seen_copy_now it = record { film = it.film; state = seen_state it.state }

-- a rental of a branch, with the number
abbrev pub seen_rental_row : RentalRow → Row Rental
seen_rental_row row = record { branch = row.branch; number = row.number; it = seen_rental row.rental }

-- the same rental as an open one
abbrev pub opened_row : RentalRow → Row Rental
opened_row row = record { branch = row.branch; number = row.number; it = record (seen_rental row.rental) { returned = None } }

-- the terms of a rental of a branch, with its number
abbrev pub seen_terms_row : TermsRow → Row Terms
seen_terms_row row = record { branch = row.branch; number = row.rental; it = seen_terms row.terms }

-- a payment at a branch, with the number
abbrev pub seen_payment_row : PaymentRow → Row Payment
seen_payment_row row = record { branch = row.branch; number = row.number; it = seen_payment row.payment }

-- ---- a rental with its terms

abbrev pub seen_termed : TermedRental → Rental × Terms
seen_termed it = (seen_rental it.rental, seen_terms it.terms)

-- the columns that are read of a rental and its terms
abbrev pub termed_columns : Rental × Terms → sql.Row
termed_columns it =
    moment_value it.0.rented ∷ number_value it.0.copy ∷ number_value it.0.customer ∷ or_null moment_value it.0.returned ∷ number_value it.0.staff
    ∷ number_value it.1.rate ∷ number_value it.1.period ∷ number_value it.1.replacement ∷ []

abbrev pub IsTermed : Rental × Terms → Type 0
IsTermed it = IsRental it.0 × IsTerms it.1
