-- What is true once all tables except the tables of counts were read, and what their reading requires.
use Rattle.std.specs.Prelude.{◌≡◌, List, [], ◌∷◌, map, length, Some, true}
use Rattle.shop_model.specs.Books.{Consignment}
use Rattle.audit_rows.specs.Lists.{climbs}
use Rattle.audit_rows.specs.Joins.{join}
use Rattle.audit_rows.specs.Seen.{seen_header, seen_placed}
use Rattle.audit_rows.specs.Tables.{OfEach, checked_rows, checked_key}
use Rattle.audit_rows.specs.declared.books.OrderedBooks.{OrderedBooks}
use Rattle.audit_rows.specs.declared.rows.CheckedHeader.{CheckedHeader}
use Rattle.audit_rows.specs.declared.rows.CheckedLine.{CheckedLine}
use Rattle.books_audit.specs.BranchTables.{place_of, IsKeptRow}
use Rattle.books_audit.specs.Rows.{IsChainRow, IsRuleRow, IsNamedRow, IsCityRow, IsActorRow, IsFilmRow, IsCastRow, IsBranchRow, IsStaffRow, IsLotRow}
use Rattle.books_audit.specs.Rows.{IsHeaderRow, IsLineRow}
use Rattle.books_audit.specs.declared.shared.RuleRow.{RuleRow}
use Rattle.books_audit.specs.Keys.{KeptAreRead, KeptCanBeRead}
use Rattle.books_audit.specs.ReadLists.{RowsRead, IsSingle, KeyedRead, AreKeyed, PlacesRead, AreInPlaces}
use Rattle.books_audit.specs.Tables.{rows_in}
use Rattle.books_audit.specs.declared.tables.TableRows.{TableRows}
use Rattle.books_audit.specs.declared.tables.TheConstants.{CHAIN, COUNTRIES, LANGUAGES, CATEGORIES, CITIES, ACTORS, FILMS, CASTS, BRANCHES, STAFF, LOTS}
use Rattle.books_audit.specs.declared.tables.TheConstants.{CONSIGNMENTS, LINES, RULE}

-- the rows of the two tables of consignments can be joined into consignments
abbrev pub AreJoined : List CheckedHeader → List CheckedLine → Type 0
AreJoined headers lines = (by_key : List Consignment) × (join (map seen_header headers) (map seen_placed lines) ≡ Some by_key)

pub record AreReadInOrder (tables : TableRows) (rows : OrderedBooks) : Type 0 where
  pub chain : RowsRead IsChainRow (rows_in tables CHAIN) (record { office_token = rows.office_token } ∷ [])
  pub rule_row : RuleRow
  pub rule : RowsRead IsRuleRow (rows_in tables RULE) (rule_row ∷ [])
  pub kept : KeptAreRead tables rows.office_keys.items rows.kept.items
  pub countries : PlacesRead IsNamedRow (λ row. row.number) (λ row. row.it) (rows_in tables COUNTRIES) rows.countries.items
  pub languages : PlacesRead IsNamedRow (λ row. row.number) (λ row. row.it) (rows_in tables LANGUAGES) rows.languages.items
  pub categories : PlacesRead IsNamedRow (λ row. row.number) (λ row. row.it) (rows_in tables CATEGORIES) rows.categories.items
  pub cities : PlacesRead IsCityRow (λ row. row.number) (λ row. row.it) (rows_in tables CITIES) rows.cities.items
  pub actor_marks : List (Unit {0})
  pub actors : PlacesRead IsActorRow (λ row. row.number) (λ row. row.it) (rows_in tables ACTORS) actor_marks
  pub actor_count : length actor_marks ≡ rows.actors
  pub films : PlacesRead IsFilmRow (λ row. row.number) (λ row. row.it) (rows_in tables FILMS) rows.films.items
  pub casts : KeyedRead IsCastRow (λ x. x.film ∷ x.actor ∷ []) (rows_in tables CASTS) rows.casts.items
  pub branches : PlacesRead IsBranchRow (λ row. row.number) (λ row. row.it) (rows_in tables BRANCHES) rows.branches.items
  pub staff : PlacesRead IsStaffRow (λ row. row.number) (λ row. row.it) (rows_in tables STAFF) rows.staff.items
  pub by_table : OfEach (λ t. KeyedRead (IsKeptRow t) checked_key (rows_in tables (place_of t)) (checked_rows rows t))
  pub lots : KeyedRead IsLotRow (λ x. x.branch ∷ x.name) (rows_in tables LOTS) rows.lots.items
  pub headers : KeyedRead IsHeaderRow (λ x. x.source ∷ x.addressee ∷ x.number ∷ []) (rows_in tables CONSIGNMENTS) rows.headers.items
  pub lines : KeyedRead IsLineRow (λ x. x.source ∷ x.addressee ∷ x.number ∷ x.line ∷ []) (rows_in tables LINES) rows.lines.items
  pub joined : AreJoined rows.headers.items rows.lines.items

pub record CanBeRead (tables : TableRows) : Type 0 where
  pub chain : IsSingle IsChainRow (rows_in tables CHAIN)
  pub rule : IsSingle IsRuleRow (rows_in tables RULE)
  pub kept : KeptCanBeRead tables
  pub countries : AreInPlaces IsNamedRow (λ row. row.number) (rows_in tables COUNTRIES)
  pub languages : AreInPlaces IsNamedRow (λ row. row.number) (rows_in tables LANGUAGES)
  pub categories : AreInPlaces IsNamedRow (λ row. row.number) (rows_in tables CATEGORIES)
  pub cities : AreInPlaces IsCityRow (λ row. row.number) (rows_in tables CITIES)
  pub actors : AreInPlaces IsActorRow (λ row. row.number) (rows_in tables ACTORS)
  pub films : AreInPlaces IsFilmRow (λ row. row.number) (rows_in tables FILMS)
  pub casts : AreKeyed IsCastRow (λ x. x.film ∷ x.actor ∷ []) (rows_in tables CASTS)
  pub branches : AreInPlaces IsBranchRow (λ row. row.number) (rows_in tables BRANCHES)
  pub staff : AreInPlaces IsStaffRow (λ row. row.number) (rows_in tables STAFF)
  pub by_table : OfEach (λ t. AreKeyed (IsKeptRow t) checked_key (rows_in tables (place_of t)))
  pub lots : AreKeyed IsLotRow (λ x. x.branch ∷ x.name) (rows_in tables LOTS)
  pub headers : AreKeyed IsHeaderRow (λ x. x.source ∷ x.addressee ∷ x.number ∷ []) (rows_in tables CONSIGNMENTS)
  pub lines : AreKeyed IsLineRow (λ x. x.source ∷ x.addressee ∷ x.number ∷ x.line ∷ []) (rows_in tables LINES)
  pub joined : (headers : List CheckedHeader) (lines : List CheckedLine)
      → RowsRead IsHeaderRow (rows_in tables CONSIGNMENTS) headers → RowsRead IsLineRow (rows_in tables LINES) lines
      → climbs (map (λ (row : CheckedHeader). row.source ∷ row.addressee ∷ row.number ∷ []) headers) ≡ true
      → climbs (map (λ (row : CheckedLine). row.source ∷ row.addressee ∷ row.number ∷ row.line ∷ []) lines) ≡ true
      → AreJoined headers lines
