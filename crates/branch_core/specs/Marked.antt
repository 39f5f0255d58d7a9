-- Says when the films and marks that were found agree with the books. No shop has marks, and no decision reads them. An accepted command writes them to its
-- rows.
use Rattle.std.specs.Prelude.{◌≡◌, ⊤, ℕ, Bool, not, List, map, filter, flat_map, Option, option_map, option_to_list, IfSome}
use Rattle.std.specs.List.{list_any}
use Rattle.shop_model.specs.Rows.{at, lacks, of}
use Rattle.shop_model.specs.Values.{Act}
use Rattle.shop_model.specs.Values as model
use Rattle.shop_model.specs.Stock.{in_stock}
use Rattle.shop_model.specs.Acts.{is_away}
use Rattle.shop_model.specs.Books.{Books, BookCopy, Mark, Line, Consignment, is_consignment, shop_of}
use Rattle.shop_types.specs.Seen.{seen_parcel_line}
use Rattle.branch_core.specs.declared.found.ArrivalFound.{ArrivalFound}
use Rattle.branch_core.specs.declared.found.RowsFound.{RowsFound}

-- the film and the mark of a copy, and of a line
abbrev pub copy_parts : BookCopy → ℕ × Mark
copy_parts copy = (copy.film, copy.mark)

abbrev pub line_parts : Line → ℕ × Mark
line_parts line = (line.film, line.mark)

-- The films and marks of the branch's copies with these numbers, in the order of the numbers. A number that was never given has no film and no mark.
abbrev pub parts_at : ℕ → List ℕ → Books → List (ℕ × Mark)
parts_at b xs books = flat_map (λ x. map copy_parts (at x (of b books.copies))) xs

-- what is found of the copies with these numbers: whether one is unknown, one isn't here, or one is out, and their films and marks
abbrev pub listed_at : ℕ → List ℕ → Books → Bool × Bool × Bool × List (ℕ × Mark)
listed_at b xs books = (
  list_any (lacks (shop_of b books).copies) xs,
  list_any (is_away (shop_of b books).copies) xs,
  list_any (λ x. not (in_stock x (shop_of b books).rentals)) xs,
  parts_at b xs books,
)

-- whether a consignment is received, and the films and marks of its lines
abbrev pub consignment_parts : Consignment → Bool × List (ℕ × Mark)
consignment_parts it = (it.received, map line_parts it.lines)

abbrev pub arrival_parts : ArrivalFound → Bool × List (ℕ × Mark)
arrival_parts it = (it.is_received, map seen_parcel_line it.lines)

-- what was found is the one consignment of that source and number to the branch, if there is one
abbrev pub IsArrival : ℕ → ℕ → ℕ → Option ArrivalFound → Books → Type 0
IsArrival b source number found books =
    option_to_list (option_map arrival_parts found) ≡ map consignment_parts (filter (is_consignment source b number) books.consignments)

-- A dispatch has the lines that were made of the listed copies, if any were made. A receipt has the consignment that is to be received. Other acts name no
-- films and marks.
abbrev pub AreMarked : ℕ → Act → RowsFound → Books → Type 0
AreMarked b (model.Dispatch to xs) it books = IfSome it.listed.lines (λ lines. map seen_parcel_line lines ≡ parts_at b xs books)
AreMarked b (model.Receive source number missing) it books = IsArrival b source number it.arrival books
AreMarked b act it books = ⊤
