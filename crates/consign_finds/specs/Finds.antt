-- Defines what is found of copies that are to be sent, and of a consignment that is to be received.
use Rattle.std.specs.Prelude.{◌≡◌, ℕ, map, filter, List, IfSome}
use Rattle.shop_model.specs.Calendar.{Moment}
use Rattle.shop_model.specs.Rows.{numbered_from}
use Rattle.shop_model.specs.Values.{Act, Rental, Rules}
use Rattle.shop_model.specs.Stock.{keeps_out}
use Rattle.shop_model.specs.Books.{Books, shop_of}
use Rattle.shop_types.specs.declared.parcel.ParcelLine.{ParcelLine}
use Rattle.shop_types.specs.Seen.{seen_parcel_line}
use Rattle.stock_csv.specs.Stock.{stock_of}
use Rattle.branch_core.specs.declared.found.RowsFound.{RowsFound}
use Rattle.branch_core.specs.declared.found.ListedFound.{ListedFound}
use Rattle.branch_core.specs.Agreed.{ActAgrees, ListedAgrees}
use Rattle.branch_core.specs.Marked.{AreMarked, parts_at}
use Rattle.shop_store.specs.declared.copies.CopyRow.{CopyRow}
use Rattle.consign_store.specs.declared.lines.LineRow.{LineRow}

-- the numbers of the copy's open rentals, if the first rental has that number
abbrev pub open_from : ℕ → ℕ → List Rental → List ℕ
open_from k copy rentals = map (λ (it : ℕ × Rental). it.0) (filter (λ (it : ℕ × Rental). keeps_out copy it.1) (numbered_from k rentals))

-- What was found of the copies agrees with the branch's shop. If lines were made, they have the films and marks of the copies.
abbrev pub AreListed : ℕ → List ℕ → ListedFound → Books → Type 0
AreListed b xs listed books = ListedAgrees (shop_of b books) xs listed × IfSome listed.lines (λ lines. map seen_parcel_line lines ≡ parts_at b xs books)

-- the film and the mark of a row
abbrev pub copy_parcel : CopyRow → ParcelLine
copy_parcel row = record { film = row.film; mark = row.mark }

abbrev pub line_parcel : LineRow → ParcelLine
line_parcel row = record { film = row.film; mark = row.mark }

-- ---- the act

-- What was found of the rows that the act names agrees with the books. So do the films and marks of the copies that are sent or received.
abbrev pub AgreesAt : ℕ → Moment → Act → RowsFound → Books → Type 0
AgreesAt b moment act rows books =
    ((rules : Rules) → rules.stock_of ≡ stock_of → ActAgrees rules books.catalogue (shop_of b books) moment act rows) × AreMarked b act rows books
