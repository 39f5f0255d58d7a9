-- Custody of books is that of their rows of copies and their lines.
use Rattle.shop_types.proofs.Common.{◌↔◌, Books, IsInCustody, all_lines}
use Rattle.audit_rows.specs.Marked.{AreInCustody}

pub of_books : (books : Books) → IsInCustody books ↔ AreInCustody books.copies (all_lines books)
of_books books = (λ a. record { is_made = a.is_made; place = a.place; film = a.film }, λ a. record { is_made = a.is_made; place = a.place; film = a.film })
