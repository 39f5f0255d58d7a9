-- What is known of all books that a chain holds, beside what its tables stand for.
use Rattle.std.specs.Prelude.{◌≡◌, ℕ, ◌≤◌, ◌<◌, ◌^◌, List, true, length, map, filter}
use Rattle.std.specs.List.{AllByRecursion}
use Rattle.std.specs.Str.{bytes_eq}
use Rattle.shop_model.specs.Values.{Branch}
use Rattle.shop_model.specs.Shop.{Kept, OfficeKept, Catalogue}
use Rattle.shop_model.specs.Rows.{IsCounted, of}
use Rattle.shop_model.specs.Books.{Books, Consignment, Table, rows_of, shop_of}
use Rattle.shop_model.specs.Stock.{keeps_out}
use Rattle.shop_model.specs.Links.{are_different, HasNoDoubles, NamesRowsOf}
use Rattle.shop_model.specs.Sound.{HasNumbers, HasOwners, HasTerms}
use Rattle.shop_schema.specs.RowValues.{IsToken, IsName, IsCity, IsActor, IsFilm, IsCast, IsBranch, IsStaff, IsLot, IsConsignment, IsLast, AreRowValues}
use Rattle.shop_schema.specs.Forms.{IsKept, IsOfficeKept}

-- each shared row's number is that of its place
abbrev pub AreShared : {A : Type 0} → (A → Type 0) → List A → Type 0
AreShared P rows = (length rows < 2 ^ 32) × AllByRecursion P rows

pub record AreCatalogueValues (it : Catalogue) : Type 0 where
  pub office_token : IsToken it.office_token
  pub kept : AllByRecursion IsOfficeKept it.kept
  pub casts : AllByRecursion IsCast it.casts
  pub countries : AreShared IsName it.countries
  pub cities : AreShared IsCity it.cities
  pub languages : AreShared IsName it.languages
  pub categories : AreShared IsName it.categories
  pub actors : AreShared IsActor it.actors
  pub films : AreShared IsFilm it.films
  pub branches : AreShared IsBranch it.branches
  pub staff : AreShared IsStaff it.staff

-- Every row of the books is one that the program can hold. The columns of such rows are one to one.
pub record AreValues (books : Books) : Type 0 where
  pub catalogue : AreCatalogueValues books.catalogue
  pub rows : (t : Table) → AreRowValues t (rows_of books t)
  pub lots : AllByRecursion IsLot books.lots
  pub consignments : AllByRecursion IsConsignment books.consignments
  pub kept : AllByRecursion IsKept books.kept
  pub lasts : AllByRecursion IsLast books.lasts

-- no numbered list of shared rows is more than three longer than the most keys that head office may have
pub record HasFewShared (catalogue : Catalogue) : Type 0 where
  pub countries : length catalogue.countries ≤ 1_000_003
  pub cities : length catalogue.cities ≤ 1_000_003
  pub languages : length catalogue.languages ≤ 1_000_003
  pub categories : length catalogue.categories ≤ 1_000_003
  pub actors : length catalogue.actors ≤ 1_000_003
  pub films : length catalogue.films ≤ 1_000_003
  pub branches : length catalogue.branches ≤ 1_000_003
  pub staff : length catalogue.staff ≤ 1_000_003

-- The program can hold the books' rows. The rows are numbered, and the branches that they name exist. No key of a caller, no token, no cast, and no name of a
-- country, language or category occurs twice. Each rental has its terms. No caller has more than a million rows of a kind. Shared rows are few, and name only
-- rows that exist. A copy is out at most once. Places count the consignments of the chain.
pub record IsHeld (books : Books) : Type 0 where
  pub values : AreValues books
  pub numbers : HasNumbers books
  pub keys : (b : ℕ) → are_different (λ (earlier later : Kept). bytes_eq earlier.command.key later.command.key) (shop_of b books).kept ≡ true
  pub tokens : are_different (λ (earlier later : Branch). bytes_eq earlier.token later.token) books.catalogue.branches ≡ true
  pub most_kept : (b : ℕ) → length (shop_of b books).kept ≤ 1_000_000
  pub most_rows : (t : Table) (b : ℕ) → length (of b (rows_of books t)) ≤ 1_000_000
  pub termed : (b : ℕ) → HasTerms (shop_of b books)
  pub most_office_kept : length books.catalogue.kept ≤ 1_000_000
  pub out_once : (b x : ℕ) → length (filter (keeps_out x) (shop_of b books).rentals) ≤ 1
  pub owners : HasOwners books.catalogue.branches books
  pub office_keys : are_different (λ (earlier later : OfficeKept). bytes_eq earlier.command.key later.command.key) books.catalogue.kept ≡ true
  pub single : HasNoDoubles books.catalogue
  pub names : NamesRowsOf books.catalogue books.catalogue
  pub few_shared : HasFewShared books.catalogue
  pub places : IsCounted 1 (map (λ (it : Consignment). it.place) books.consignments)
