-- What was read is in order, and so are books that have such rows.
use Rattle.shop_schema.proofs.Common.{◌≡◌, ◌==◌, length, true, ap, ◌∙◌, arith, list_all, IsPermutation-sym, Moment, Owned, has_row, are_different, Books}
use Rattle.shop_model.specs.Books.{Table}
use Rattle.audit_rows.specs.Ordered.{AreOrdered, HaveOrderedRows}
use Rattle.audit_rows.specs.Shops.{is_among}
use Rattle.audit_rows.specs.Tables.{each, checked_key, checked_rows}
use Rattle.audit_rows.specs.declared.books.OrderedBooks.{OrderedBooks}
use Rattle.audit_rows.proofs.LastLemmas.{lasts_owned, lasts_apart}
use Rattle.audit_rows.proofs.OrderedLemmas.{rows_climb, headers_climb, lines_climb}
use Rattle.audit_rows.proofs.ShopLemmas.{has_row_is}
use Rattle.audit_rows.proofs.Tests.{all_congr}
use Rattle.books_audit.specs.BranchTables.{place_of, IsKeptRow}
use Rattle.books_audit.specs.Audits.{AreInOrder}
use Rattle.books_audit.specs.ReadInOrder.{AreReadInOrder}
use Rattle.books_audit.specs.ReadLists.{KeyedRead}
use Rattle.books_audit.specs.Tables.{rows_in}
use Rattle.books_audit.specs.declared.tables.TableRows.{TableRows}
use Rattle.books_audit.proofs.CountRows.{branch_count}

pub rows_read : (tables : TableRows) (rows : OrderedBooks) → AreReadInOrder tables rows → (t : Table)
    → KeyedRead (IsKeptRow t) checked_key (rows_in tables (place_of t)) (checked_rows rows t)
rows_read tables rows read = each (λ t. KeyedRead (IsKeptRow t) checked_key (rows_in tables (place_of t)) (checked_rows rows t)) read.by_table

pub are_ordered : (tables : TableRows) (rows : OrderedBooks) → AreReadInOrder tables rows → AreOrdered rows
are_ordered tables rows read = record {
  office_keys = read.kept.office_climb;
  casts = read.casts.climb;
  rows = λ t. (rows_read tables rows read t).climb;
  lots = read.lots.climb;
  kept = read.kept.kept_climb;
  headers = read.headers.climb;
  lines = read.lines.climb;
}

module _ (rows : OrderedBooks) (c : Books) (has : HaveOrderedRows rows c) (ordered : AreOrdered rows) where
  lasts : list_all (λ (row : Owned Moment). has_row c.catalogue.branches row.owner) c.lasts ≡ true
  lasts =
      all_congr _ _ (λ (row : Owned Moment). has_row_is c.catalogue.branches row.owner) c.lasts
      ∙ ap (list_all (λ (row : Owned Moment). is_among (length c.catalogue.branches) row.owner)) has.lasts
      ∙ lasts_owned (length c.catalogue.branches) 1 (omega arith) rows.branches.items (let many = branch_count rows c has in omega (arith, many))

  pub in_order : AreInOrder c
  in_order = record {
    rows = rows_climb rows c has ordered;
    by_key = has.consignments.by_key;
    joined = IsPermutation-sym _ _ has.consignments.all;
    headers = headers_climb rows c has ordered;
    lines = lines_climb rows c has ordered;
    places = has.consignments.in_order;
    lasts = lasts;
    lasts_apart = ap (are_different (λ (earlier later : Owned Moment). earlier.owner == later.owner)) has.lasts ∙ lasts_apart 1 rows.branches.items;
  }
