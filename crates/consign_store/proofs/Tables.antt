-- Where the headers or the lines of consignments alone have changed, the tables stand for the changed books.
use Rattle.shop_schema.proofs.Common.{◌≡◌, List, map, refl, ap, flat_map, Trees, HasRows, SameBut, Books, Consignment, shop_schema, consignment_table}
use Rattle.shop_schema.proofs.Common.{consignment_line_table, consignment_columns, line_rows, Counts, StandsWith}
use Rattle.sqlite_value.specs.Order as sql
use Rattle.shop_schema.proofs.Stands.{rows_of, with_rows, stands_but}

module _ (counts : Counts) (books : Books) (cs : List Consignment) where
  abbrev pub now_books : Books
  now_books = record books { consignments = cs }

  -- the two tables' rows in place of the old rows
  abbrev with_both : List sql.Row → List sql.Row → List (List sql.Row)
  with_both headers lines = with_rows 15 headers (with_rows 16 lines (rows_of counts books))

  pub with_headers : flat_map line_rows cs ≡ flat_map line_rows books.consignments
      → rows_of counts now_books ≡ with_rows 15 (map consignment_columns cs) (rows_of counts books)
  with_headers stay = ap (with_both (map consignment_columns cs)) stay

  pub with_its_lines : map consignment_columns cs ≡ map consignment_columns books.consignments
      → rows_of counts now_books ≡ with_rows 16 (flat_map line_rows cs) (rows_of counts books)
  with_its_lines stay = ap (λ (headers : List sql.Row). with_both headers (flat_map line_rows cs)) stay

module _ (counts : Counts) (books : Books) (cs : List Consignment) (old new : Trees) where
  pub headers_changed : flat_map line_rows cs ≡ flat_map line_rows books.consignments
      → SameBut shop_schema 34 old new → StandsWith counts old books → HasRows 5 (new 34) (map consignment_columns cs)
      → StandsWith counts new (now_books counts books cs)
  headers_changed stay same s rows =
      stands_but 15 consignment_table refl refl counts counts books (now_books counts books cs)
      (map consignment_columns cs) (with_headers counts books cs stay) old new same s rows

  pub lines_changed : map consignment_columns cs ≡ map consignment_columns books.consignments
      → SameBut shop_schema 37 old new → StandsWith counts old books → HasRows 8 (new 37) (flat_map line_rows cs)
      → StandsWith counts new (now_books counts books cs)
  lines_changed stay same s rows =
      stands_but 16 consignment_line_table refl refl counts counts books (now_books counts books cs)
      (flat_map line_rows cs) (with_its_lines counts books cs stay) old new same s rows
