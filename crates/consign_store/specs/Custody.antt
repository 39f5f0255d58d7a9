-- The copies of a mark that are here, and the lines of it that are under way.
use Rattle.std.specs.Prelude.{◌≤◌, ◌&&◌, Bool, List, filter, length}
use Rattle.shop_model.specs.Rows.{Row}
use Rattle.shop_model.specs.Values.{Here}
use Rattle.shop_model.specs.Books.{Books, BookCopy, Mark, UnderWay}
use Rattle.shop_model.specs.Sound.{copy_is, line_is, is_mark}
use Rattle.shop_store.specs.declared.copies.CopyRow.{CopyRow}
use Rattle.shop_types.specs.Seen.{seen_state, seen_line_state}
use Rattle.consign_store.specs.declared.lines.LineRow.{LineRow}
use Rattle.consign_store.specs.Parts.{Placed, all_placed}

abbrev pub is_here : CopyRow → Bool
is_here row = copy_is (seen_state row.state) Here

abbrev pub is_under_way : LineRow → Bool
is_under_way row = line_is (seen_line_state row.state) UnderWay

abbrev pub copies_here : Mark → Books → List (Row BookCopy)
copies_here mark books = filter (λ (row : Row BookCopy). copy_is row.it.state Here && is_mark mark row.it.mark) books.copies

abbrev pub lines_under_way : Mark → Books → List Placed
lines_under_way mark books = filter (λ (row : Placed). line_is row.it.state UnderWay && is_mark mark row.it.mark) (all_placed books.consignments)

-- at most one copy with the mark is here, and at most one line with it is under way
abbrev pub HasOnePlace : Mark → Books → Type 0
HasOnePlace mark books = (length (copies_here mark books) ≤ 1) × (length (lines_under_way mark books) ≤ 1)
