-- What a row means.
use Rattle.shop_model.specs.Rows.{Row}
use Rattle.shop_model.specs.Values as model
use Rattle.shop_model.specs.Books.{BookCopy, Line, unmarked}
use Rattle.shop_types.specs.Seen.{seen_rental, seen_payment, seen_mark, seen_state, seen_line_state}
use Rattle.shop_types.specs.declared.rental.Rental.{Rental}
use Rattle.shop_types.specs.declared.payment.Payment.{Payment}
use Rattle.audit_rows.specs.declared.rows.CheckedRow.{CheckedRow}
use Rattle.audit_rows.specs.declared.rows.CheckedLine.{CheckedLine}
use Rattle.audit_rows.specs.declared.rows.CheckedHeader.{CheckedHeader}
use Rattle.audit_rows.specs.declared.books.CheckedCopy.{CheckedCopy}
use Rattle.audit_rows.specs.Joins.{Header, Placed}

abbrev pub seen_book_copy : CheckedCopy → BookCopy
seen_book_copy it = record { film = it.film; state = seen_state it.state; mark = seen_mark it.mark }

abbrev pub seen_copy : CheckedRow CheckedCopy → Row BookCopy
seen_copy row = record { branch = row.branch; number = row.number; it = seen_book_copy row.it }

abbrev pub seen_line : CheckedLine → Line
seen_line row = record { film = row.film; mark = seen_mark row.mark; state = seen_line_state row.state }

abbrev pub seen_rental_row : CheckedRow Rental → Row model.Rental
seen_rental_row row = record { branch = row.branch; number = row.number; it = seen_rental row.it }

abbrev pub seen_payment_row : CheckedRow Payment → Row model.Payment
seen_payment_row row = record { branch = row.branch; number = row.number; it = seen_payment row.it }

abbrev pub seen_header : CheckedHeader → Header
seen_header row = record { source = row.source; addressee = row.addressee; number = row.number; place = row.place; received = row.received }

abbrev pub seen_placed : CheckedLine → Placed
seen_placed row = record { source = row.source; addressee = row.addressee; number = row.number; at = row.line; line = seen_line row }

-- a copy as its branch sees it
abbrev pub shop_copy : CheckedRow CheckedCopy → model.Copy
shop_copy row = unmarked (seen_copy row).it
