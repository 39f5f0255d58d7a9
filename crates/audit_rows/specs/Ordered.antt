-- Rows in order, and the books that have them. The rows don't have all columns of the books, so several books may have the same rows. Texts that soundness
-- doesn't ask about, and the commands under keys, are left open.
use Rattle.std.specs.Prelude.{◌≡◌, ℕ, ◌+◌, ◌&&◌, Bool, true, List, [], ◌∷◌, ◌++◌, map, length, Option, Some, None, IsPermutation}
use Rattle.std.specs.List.{list_all}
use Rattle.std.specs.List.Sorted.{IsSorted}
use Rattle.std.specs.Ordering.{nat_cmp}
use Rattle.shop_model.specs.Calendar.{Moment}
use Rattle.shop_model.specs.Rows.{Owned}
use Rattle.shop_model.specs.Values.{Text, City, Film, Cast, Branch, Staff}
use Rattle.shop_model.specs.Shop.{Kept, OfficeKept}
use Rattle.shop_model.specs.Books.{Books, Consignment, Table, rows_of}
use Rattle.audit_rows.specs.declared.books.OrderedBooks.{OrderedBooks}
use Rattle.audit_rows.specs.declared.rows.CheckedCity.{CheckedCity}
use Rattle.audit_rows.specs.declared.rows.CheckedFilm.{CheckedFilm}
use Rattle.audit_rows.specs.declared.rows.CheckedCast.{CheckedCast}
use Rattle.audit_rows.specs.declared.rows.CheckedBranch.{CheckedBranch}
use Rattle.audit_rows.specs.declared.rows.CheckedStaff.{CheckedStaff}
use Rattle.audit_rows.specs.declared.rows.CheckedHeader.{CheckedHeader}
use Rattle.audit_rows.specs.declared.rows.CheckedLine.{CheckedLine}
use Rattle.audit_rows.specs.declared.rows.CheckedLot.{CheckedLot}
use Rattle.audit_rows.specs.declared.rows.CheckedKept.{CheckedKept}
use Rattle.audit_rows.specs.Lists.{climbs}
use Rattle.audit_rows.specs.Joins.{join}
use Rattle.audit_rows.specs.Seen.{seen_header, seen_placed}
use Rattle.audit_rows.specs.Tables.{CheckedOf, checked_row, checked_key, checked_rows, all_tables}

-- ---- the columns that soundness asks about

abbrev pub city_row : City → CheckedCity
city_row it = record { country = it.country }

abbrev pub film_row : Film → CheckedFilm
film_row it = record { language = it.language; category = it.category }

abbrev pub cast_row : Cast → CheckedCast
cast_row it = record { film = it.film; actor = it.actor }

-- the last moments of branches are in a list of their own
abbrev pub branch_row : Option Moment → Branch → CheckedBranch
branch_row last it = record { token = it.token; city = it.city; manager = it.manager; last = last }

abbrev pub without_last : CheckedBranch → CheckedBranch
without_last row = record row { last = None }

abbrev pub staff_row : Staff → CheckedStaff
staff_row it = record { branch = it.branch; city = it.person.city }

abbrev pub lot_row : Owned Text → CheckedLot
lot_row row = record { branch = row.owner; name = row.it }

abbrev pub kept_row : Owned Kept → CheckedKept
kept_row row = record { branch = row.owner; key = row.it.command.key }

-- ---- last moments

abbrev pub last_of : ℕ → Option Moment → List (Owned Moment)
last_of b None = []
last_of b (Some moment) = record { owner = b; it = moment } ∷ []

-- the last moments of branches b, b + 1, ..
abbrev pub lasts_from : ℕ → List CheckedBranch → List (Owned Moment)
lasts_from b [] = []
lasts_from b (row ∷ rows) = last_of b row.last ++ lasts_from (b + 1) rows

-- ---- rows in order

-- The key of each row is above that of the row before it, so that no two keys are the same. Of shared rows only casts are compared: the numbers of
-- the others are their places.
pub record AreOrdered (books : OrderedBooks) : Type 0 where
  pub office_keys : climbs books.office_keys.items ≡ true
  pub casts : climbs (map (λ row. row.film ∷ row.actor ∷ []) books.casts.items) ≡ true
  pub rows : (t : Table) → climbs (map checked_key (checked_rows books t)) ≡ true
  pub lots : climbs (map (λ row. row.branch ∷ row.name) books.lots.items) ≡ true
  pub kept : climbs (map (λ row. row.branch ∷ row.key) books.kept.items) ≡ true
  pub headers : climbs (map (λ row. row.source ∷ row.addressee ∷ row.number ∷ []) books.headers.items) ≡ true
  pub lines : climbs (map (λ row. row.source ∷ row.addressee ∷ row.number ∷ row.line ∷ []) books.lines.items) ≡ true

-- the same, as tests

abbrev pub are_shared_ordered : OrderedBooks → Bool
are_shared_ordered rows = climbs rows.office_keys.items && climbs (map (λ (row : CheckedCast). row.film ∷ row.actor ∷ []) rows.casts.items)

abbrev pub are_rows_ordered : ((t : Table) → List (CheckedOf t)) → Bool
are_rows_ordered rows = list_all (λ t. climbs (map checked_key (rows t))) all_tables

abbrev pub are_others_ordered : OrderedBooks → Bool
are_others_ordered rows =
    climbs (map (λ (row : CheckedLot). row.branch ∷ row.name) rows.lots.items) && climbs (map (λ (row : CheckedKept). row.branch ∷ row.key) rows.kept.items)

abbrev pub are_consignments_ordered : OrderedBooks → Bool
are_consignments_ordered rows =
    climbs (map (λ (row : CheckedHeader). row.source ∷ row.addressee ∷ row.number ∷ []) rows.headers.items)
    && climbs (map (λ (row : CheckedLine). row.source ∷ row.addressee ∷ row.number ∷ row.line ∷ []) rows.lines.items)

abbrev pub is_ordered : OrderedBooks → Bool
is_ordered rows = are_shared_ordered rows && are_rows_ordered (checked_rows rows) && are_others_ordered rows && are_consignments_ordered rows

-- ---- the books that have the rows

-- the consignments are in the order of their places; nothing else is known of the places
pub record AreConsignmentsOf (rows : OrderedBooks) (its : List Consignment) : Type 0 where
  pub by_key : List Consignment
  pub joined : join (map seen_header rows.headers.items) (map seen_placed rows.lines.items) ≡ Some by_key
  pub all : IsPermutation by_key its
  pub in_order : IsSorted (λ (x y : Consignment). nat_cmp x.place y.place) its

pub record HaveSharedRows (rows : OrderedBooks) (books : Books) : Type 0 where
  pub office_token : books.catalogue.office_token ≡ rows.office_token
  pub office_keys : map (λ (it : OfficeKept). it.command.key) books.catalogue.kept ≡ rows.office_keys.items
  pub countries : books.catalogue.countries ≡ rows.countries.items
  pub languages : books.catalogue.languages ≡ rows.languages.items
  pub categories : books.catalogue.categories ≡ rows.categories.items
  pub cities : map city_row books.catalogue.cities ≡ rows.cities.items
  pub actors : length books.catalogue.actors ≡ rows.actors
  pub films : map film_row books.catalogue.films ≡ rows.films.items
  pub casts : map cast_row books.catalogue.casts ≡ rows.casts.items
  pub branches : map (branch_row None) books.catalogue.branches ≡ map without_last rows.branches.items
  pub staff : map staff_row books.catalogue.staff ≡ rows.staff.items

pub record HaveOrderedRows (ordered : OrderedBooks) (books : Books) : Type 0 where
  pub shared : HaveSharedRows ordered books
  pub rows : (t : Table) → map (checked_row t) (rows_of books t) ≡ checked_rows ordered t
  pub lots : map lot_row books.lots ≡ ordered.lots.items
  pub kept : map kept_row books.kept ≡ ordered.kept.items
  pub consignments : AreConsignmentsOf ordered books.consignments
  pub lasts : books.lasts ≡ lasts_from 1 ordered.branches.items
