-- The checks of rows in order, each table by itself. It is proved that they mean soundness, for all books that have the rows.
use Rattle.std.specs.Prelude.{◌≡◌, ◌&&◌, Bool, true, List, map, length}
use Rattle.shop_model.specs.Books.{Consignment}
use Rattle.audit_rows.specs.declared.books.OrderedBooks.{OrderedBooks}
use Rattle.audit_rows.specs.Lists.{counts_from}
use Rattle.audit_rows.specs.Seen.{seen_copy, seen_line, seen_header, seen_placed}
use Rattle.audit_rows.specs.Marked.{AreInCustody}
use Rattle.audit_rows.specs.Consignments.{are_settled, pairs_follow}
use Rattle.audit_rows.specs.Catalogues.{is_good_catalogue}
use Rattle.audit_rows.specs.Parts.{are_good_from, is_owned}

abbrev pub are_good_consignments : OrderedBooks → List Consignment → Bool
are_good_consignments rows its =
    are_settled (length rows.films.items) (map seen_header rows.headers.items) (map seen_placed rows.lines.items)
    && pairs_follow (map seen_header rows.headers.items)
    && counts_from 1 (map (λ (it : Consignment). it.place) its)

-- the rows pass all checks; `its` are the consignments of the rows, in the order of their places
pub record AreChecked (rows : OrderedBooks) (its : List Consignment) : Type 0 where
  pub catalogue : is_good_catalogue rows ≡ true
  pub owned : is_owned rows ≡ true
  pub consignments : are_good_consignments rows its ≡ true
  pub custody : AreInCustody (map seen_copy rows.copies.items) (map seen_line rows.lines.items)
  pub parts : are_good_from rows 1 rows.branches.items ≡ true
