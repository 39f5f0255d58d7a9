-- What an audit says of any rows.
use Rattle.std.specs.Prelude.{List, ◌≡◌, ◌↔◌, ◌==◌, ◌&&◌, Bool, true, [], ◌∷◌, map, flat_map, IsTrue, IsPermutation}
use Rattle.std.specs.Str.{bytes_eq}
use Rattle.shop_model.specs.Rows.{Row, Owned, numbered}
use Rattle.shop_model.specs.Values.{Text, Cast, Rules}
use Rattle.shop_model.specs.Shop.{Kept, OfficeKept}
use Rattle.std.specs.List.{list_all}
use Rattle.std.specs.List.Sorted.{IsSorted}
use Rattle.std.specs.Ordering.{nat_cmp}
use Rattle.shop_model.specs.Calendar.{Moment}
use Rattle.shop_model.specs.Links.{are_different, has_row}
use Rattle.audit_rows.specs.Lists.{climbs}
use Rattle.audit_rows.specs.Canons.{row_key}
use Rattle.audit_rows.specs.Joins.{header, placed, header_key, placed_key}
use Rattle.shop_model.specs.Books.{Books, Consignment, Table, rows_of}
use Rattle.shop_model.specs.Sound.{IsSound, widest, all_lines}
use Rattle.shop_schema.specs.Forms.{kept_rows}
use Rattle.shop_schema.specs.Counts.{counts_of}
use Rattle.shop_schema.specs.RowValues.{chain_columns, named_columns, city_columns, actor_columns, film_columns, cast_columns, branch_columns, staff_columns}
use Rattle.shop_schema.specs.RowValues.{lot_columns, consignment_columns}
use Rattle.shop_schema.specs.RowValues.{line_rows, counter_columns, out_columns, pair_columns, rule_columns}
use Rattle.shop_schema.specs.Held.{AreValues}
use Rattle.shop_schema.specs.Shop.{AreTermed}
use Rattle.books_audit.specs.declared.tables.TableRows.{TableRows}
use Rattle.shop_types.specs.declared.audit.Audit.{Audit}
use Rattle.books_audit.specs.BranchTables.{place_of, row_columns}
use Rattle.books_audit.specs.Audited.{CountsCustody, CountsNothing}
use Rattle.books_audit.specs.Tables.{rows_in}
use Rattle.books_audit.specs.declared.tables.TheConstants.{CHAIN, COUNTRIES, LANGUAGES, CATEGORIES, CITIES, ACTORS, FILMS, CASTS, BRANCHES, STAFF, LOTS}
use Rattle.books_audit.specs.declared.tables.TheConstants.{CONSIGNMENTS, LINES, KEPT, COUNTERS, OUTS, PAIRS, RULE}

-- ---- standing for books

-- Each table, except the tables of counts, has the rows of the books, in any order.
pub record HaveRowsOf (tables : TableRows) (books : Books) : Type 0 where
  pub chain : IsPermutation (rows_in tables CHAIN) (chain_columns books.catalogue.office_token ∷ [])
  pub countries : IsPermutation (rows_in tables COUNTRIES) (map named_columns (numbered books.catalogue.countries))
  pub languages : IsPermutation (rows_in tables LANGUAGES) (map named_columns (numbered books.catalogue.languages))
  pub categories : IsPermutation (rows_in tables CATEGORIES) (map named_columns (numbered books.catalogue.categories))
  pub cities : IsPermutation (rows_in tables CITIES) (map city_columns (numbered books.catalogue.cities))
  pub actors : IsPermutation (rows_in tables ACTORS) (map actor_columns (numbered books.catalogue.actors))
  pub films : IsPermutation (rows_in tables FILMS) (map film_columns (numbered books.catalogue.films))
  pub casts : IsPermutation (rows_in tables CASTS) (map cast_columns books.catalogue.casts)
  pub branches : IsPermutation (rows_in tables BRANCHES) (map (branch_columns books.lasts) (numbered books.catalogue.branches))
  pub staff : IsPermutation (rows_in tables STAFF) (map staff_columns (numbered books.catalogue.staff))
  pub rows : (t : Table) → IsPermutation (rows_in tables (place_of t)) (map (row_columns t) (rows_of books t))
  pub lots : IsPermutation (rows_in tables LOTS) (map lot_columns books.lots)
  pub consignments : IsPermutation (rows_in tables CONSIGNMENTS) (map consignment_columns books.consignments)
  pub lines : IsPermutation (rows_in tables LINES) (flat_map line_rows books.consignments)
  pub kept : IsPermutation (rows_in tables KEPT) (kept_rows books.kept books.catalogue.kept)
  pub rule : IsPermutation (rows_in tables RULE) (rule_columns books.catalogue.rule ∷ [])

-- the tables of counts have the counts of the books, and each rental has its terms
pub record HaveCountsOf (tables : TableRows) (books : Books) : Type 0 where
  pub counters : IsPermutation (rows_in tables COUNTERS) (map counter_columns (counts_of books).counters)
  pub outs : IsPermutation (rows_in tables OUTS) (map out_columns (counts_of books).outs)
  pub pairs : IsPermutation (rows_in tables PAIRS) (map pair_columns (counts_of books).pairs)
  pub terms : AreTermed books

-- the primary keys of the tables; tables whose numbers are the places of their rows need no condition
abbrev pub same_row : {A : Type 0} → Row A → Row A → Bool
same_row a b = a.branch == b.branch && a.number == b.number

pub record HaveKeys (books : Books) : Type 0 where
  pub casts : are_different (λ (a b : Cast). a.film == b.film && a.actor == b.actor) books.catalogue.casts ≡ true
  pub rows : (t : Table) → are_different same_row (rows_of books t) ≡ true
  pub lots : are_different (λ (a b : Owned Text). a.owner == b.owner && bytes_eq a.it b.it) books.lots ≡ true
  pub consignments : are_different (λ (a b : Consignment). a.source == b.source && a.addressee == b.addressee && a.number == b.number) books.consignments ≡ true
  pub kept : are_different (λ (a b : Owned Kept). a.owner == b.owner && bytes_eq a.it.command.key b.it.command.key) books.kept ≡ true
  pub office_kept : are_different (λ (a b : OfficeKept). bytes_eq a.command.key b.command.key) books.catalogue.kept ≡ true

-- the tables stand for the books, apart from the counts
pub record HaveBooks (tables : TableRows) (books : Books) : Type 0 where
  pub rows : HaveRowsOf tables books
  pub values : AreValues books
  pub keys : HaveKeys books

pub record StandsForBooks (tables : TableRows) (books : Books) : Type 0 where
  pub without_counts : HaveBooks tables books
  pub counts : HaveCountsOf tables books

-- ---- what an audit says

abbrev pub Counts : Audit → Books → Type 0
Counts audit books = CountsCustody audit books.copies (all_lines books)

-- the tables stand for sound books
abbrev pub AreSound : Rules → TableRows → Type 0
AreSound rules tables = (books : Books) × StandsForBooks tables books × IsSound (widest rules) books

-- only the sizes in the rules are used, so the audit is the same for all rules
pub record IsAuditOf (tables : TableRows) (audit : Audit) : Type 0 where
  pub sound : (rules : Rules) → IsTrue audit.sound ↔ AreSound rules tables
  pub counts : (books : Books) → StandsForBooks tables books → Counts audit books
  pub nothing : ¬ ((books : Books) × StandsForBooks tables books) → CountsNothing audit

-- ---- books in the order of their keys, as an audit makes them of tables

pub record AreInOrder (c : Books) : Type 0 where
  pub rows : (t : Table) → climbs (map row_key (rows_of c t)) ≡ true
  pub by_key : List Consignment  -- the consignments as they were joined, before they are put in the order of their places
  pub joined : IsPermutation c.consignments by_key
  pub headers : climbs (map header_key (map header by_key)) ≡ true
  pub lines : climbs (map placed_key (flat_map placed by_key)) ≡ true
  pub places : IsSorted (λ (x y : Consignment). nat_cmp x.place y.place) c.consignments
  pub lasts : list_all (λ (row : Owned Moment). has_row c.catalogue.branches row.owner) c.lasts ≡ true
  pub lasts_apart : are_different (λ (earlier later : Owned Moment). earlier.owner == later.owner) c.lasts ≡ true
