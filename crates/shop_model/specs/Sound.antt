-- What holds of the books of a chain.
use Rattle.std.specs.Prelude.{◌≡◌, ℕ, map, ◌+◌, ◌≤◌, ◌==◌, ◌&&◌, ◌||◌, nat_lt, Bool, true, false, not, if◌then◌else◌, List, ◌++◌, flat_map, length, filter}
use Rattle.std.specs.List.{list_any, list_all}
use Rattle.shop_model.specs.Rows.{Row, Owned, at, is_of, IsCounted, AreNumbered, total}
use Rattle.shop_model.specs.Calendar.{Moment}
use Rattle.shop_model.specs.Values.{Text, Branch, CopyState, Here, Sent, Scrapped, Rules}
use Rattle.shop_model.specs.Shop.{Kept, Shop}
use Rattle.shop_model.specs.Stock.{is_here, in_stock, keeps_out}
use Rattle.shop_model.specs.GoodShop.{IsGoodShop}
use Rattle.shop_model.specs.Links.{has_row, are_different, IsLinkedShop, IsGoodCatalogue}
use Rattle.shop_model.specs.Books.{Books, BookCopy, Mark, Line, LineState, UnderWay, Arrived, Missing, Consignment, Table, RowOf, RowsOf, rows_of, shop_of}

-- ---- numbers

-- each branch's rows of a table are numbered from 1
abbrev pub AreRowsNumbered : (t : Table) → RowsOf t → Type 0
AreRowsNumbered t rows = (b : ℕ) → AreNumbered (is_of b) (λ (row : Row (RowOf t)). row.number) rows

-- rows are numbered from 1 in the order in which they were added, and so are the consignments of a sender and addressee
pub record HasNumbers (books : Books) : Type 0 where
  pub rows : (t : Table) → AreRowsNumbered t (rows_of books t)
  pub consignments : (source addressee : ℕ)
      → AreNumbered (λ (it : Consignment). it.source == source && it.addressee == addressee) (λ it. it.number) books.consignments

-- ---- where copies are

abbrev pub one : Bool → ℕ
one true = 1
one false = 0

abbrev pub copy_is : CopyState → CopyState → Bool
copy_is Here Here = true
copy_is Sent Sent = true
copy_is Scrapped Scrapped = true
copy_is a b = false

abbrev pub line_is : LineState → LineState → Bool
line_is UnderWay UnderWay = true
line_is Arrived Arrived = true
line_is Missing Missing = true
line_is a b = false

-- the row of an import, where the copy's mark was made
abbrev pub is_origin : Row BookCopy → Bool
is_origin row = row.it.mark.branch == row.branch && row.it.mark.copy == row.number

abbrev pub is_mark : Mark → Mark → Bool
is_mark mark it = it.branch == mark.branch && it.copy == mark.copy

abbrev pub all_lines : Books → List Line
all_lines books = flat_map (λ (it : Consignment). it.lines) books.consignments

-- how many rows of each kind have a mark that passes the test
abbrev pub rows_made : (Mark → Bool) → List (Row BookCopy) → ℕ
rows_made test copies = total (λ row. one (is_origin row && test row.it.mark)) copies

abbrev pub rows_in : CopyState → (Mark → Bool) → List (Row BookCopy) → ℕ
rows_in state test copies = total (λ row. one (copy_is row.it.state state && test row.it.mark)) copies

abbrev pub lines_in : LineState → (Mark → Bool) → List Line → ℕ
lines_in state test lines = total (λ line. one (line_is line.state state && test line.mark)) lines

abbrev pub made : (Mark → Bool) → Books → ℕ
made test books = rows_made test books.copies

abbrev pub here : (Mark → Bool) → Books → ℕ
here test books = rows_in Here test books.copies

abbrev pub transit : (Mark → Bool) → Books → ℕ
transit test books = lines_in UnderWay test (all_lines books)

abbrev pub gone : (Mark → Bool) → Books → ℕ
gone test books = rows_in Scrapped test books.copies + lines_in Missing test (all_lines books)

-- how many places the marks have that pass the test: copies that are here, lines under way, and copies and lines that are gone
abbrev pub places : (Mark → Bool) → Books → ℕ
places test books = here test books + transit test books + gone test books

-- of all marks, of one mark and of any others alike: what was made is here, under way or gone, and nothing is twice
abbrev pub HasCustody : Books → Type 0
HasCustody books = (test : Mark → Bool) → made test books ≡ places test books

-- the mark was made, by the import of a copy of that film
abbrev pub is_made_as : List (Row BookCopy) → ℕ → Mark → Bool
is_made_as copies film mark =
    list_any (λ (row : Row BookCopy). is_origin row && row.it.film == film && row.it.mark.branch == mark.branch && row.it.mark.copy == mark.copy) copies

pub record HasOrigins (books : Books) : Type 0 where
  pub rows : list_all (λ (row : Row BookCopy). is_made_as books.copies row.it.film row.it.mark) books.copies ≡ true
  pub lines : list_all (λ (line : Line). is_made_as books.copies line.film line.mark) (all_lines books) ≡ true

-- the film and the mark of each row and of each line
abbrev pub marked_films : Books → List (ℕ × Mark)
marked_films books =
    map (λ (row : Row BookCopy). (row.it.film, row.it.mark)) books.copies ++ map (λ (line : Line). (line.film, line.mark)) (all_lines books)

-- wherever the mark stands, it stands with that film
abbrev pub goes_with : ℕ × Mark → Books → Bool
goes_with it books = list_all (λ (other : ℕ × Mark). not (is_mark it.1 other.1) || other.0 == it.0) (marked_films books)

-- Each mark of a row or a line is made, has exactly one place, and goes with one film. This can be asked of any books, even if nothing else is known about
-- them, such as that rows are numbered without gap or double. It holds of all sound books.
pub record IsInCustody (books : Books) : Type 0 where
  pub is_made : list_all (λ (it : ℕ × Mark). nat_lt 0 (made (is_mark it.1) books)) (marked_films books) ≡ true
  pub place : list_all (λ (it : ℕ × Mark). places (is_mark it.1) books == 1) (marked_films books) ≡ true
  pub film : list_all (λ (it : ℕ × Mark). goes_with it books) (marked_films books) ≡ true

-- a consignment is received and no line is under way, or it isn't and all are
abbrev pub is_settled : Consignment → Bool
is_settled it = list_all (λ line. if it.received then not (line_is line.state UnderWay) else line_is line.state UnderWay) it.lines

-- ---- rentals

-- a copy has at most one open rental, and none unless it is here
pub record HasOneHolder (shop : Shop) : Type 0 where
  pub one : (x : ℕ) → length (filter (keeps_out x) shop.rentals) ≤ 1
  pub here : (x : ℕ) → in_stock x shop.rentals ≡ false → list_any is_here (at x shop.copies) ≡ true

-- ---- branch columns

-- the branches of a table's rows are there
abbrev pub AreRowsOwned : List Branch → (t : Table) → RowsOf t → Type 0
AreRowsOwned branches t rows = list_all (λ (row : Row (RowOf t)). has_row branches row.branch) rows ≡ true

-- the branch that a row has in its column is there, as are the sender and the addressee of a consignment
pub record HasOwners (branches : List Branch) (books : Books) : Type 0 where
  pub rows : (t : Table) → AreRowsOwned branches t (rows_of books t)
  pub lots : list_all (λ (row : Owned Text). has_row branches row.owner) books.lots ≡ true
  pub kept : list_all (λ (row : Owned Kept). has_row branches row.owner) books.kept ≡ true
  pub lasts : list_all (λ (row : Owned Moment). has_row branches row.owner) books.lasts ≡ true
  pub sources : list_all (λ (it : Consignment). has_row branches it.source) books.consignments ≡ true
  pub addressees : list_all (λ (it : Consignment). has_row branches it.addressee) books.consignments ≡ true

-- ---- all of it

-- each rental has its terms, and there are no others
abbrev pub HasTerms : Shop → Type 0
HasTerms shop = length shop.terms ≡ length shop.rentals

-- All that holds of sound books. The first argument says what holds of the terms in each branch's shop. Only the sizes of the rules are read: the most kept
-- keys of a caller, and the most copies of a branch.
pub record IsSoundBy (AreTermed : Shop → Type 0) (rules : Rules) (books : Books) : Type 0 where
  pub catalogue : IsGoodCatalogue rules books.catalogue
  pub owners : HasOwners books.catalogue.branches books
  pub numbers : HasNumbers books
  pub places : IsCounted 1 (map (λ (it : Consignment). it.place) books.consignments)  -- the order of dispatch over the whole chain
  pub custody : HasCustody books
  pub origins : HasOrigins books
  pub settled : list_all is_settled books.consignments ≡ true
  pub lasts : are_different (λ (earlier later : Owned Moment). earlier.owner == later.owner) books.lasts ≡ true  -- a branch has one last moment at most
  pub held : (b : ℕ) → HasOneHolder (shop_of b books)
  pub shops : (b : ℕ) → IsGoodShop rules (shop_of b books)
  pub links : (b : ℕ) → IsLinkedShop b books.catalogue (shop_of b books)
  pub terms : (b : ℕ) → AreTermed (shop_of b books)

abbrev pub IsSound : Rules → Books → Type 0
IsSound = IsSoundBy HasTerms

-- the greatest limits that a chain may have: an audit uses these, whatever limits the chain was opened with
abbrev pub widest : Rules → Rules
widest rules = record rules { commands = 1000000; copies = 1000000 }
