-- What custody asks of the rows of copies and the lines alone: `IsInCustody` of any books that have them.
use Rattle.std.specs.Prelude.{◌≡◌, ℕ, ◌+◌, ◌==◌, ◌&&◌, ◌||◌, nat_lt, Bool, true, false, not, if◌then◌else◌, List, [], ◌∷◌, ◌++◌, map}
use Rattle.std.specs.List.{list_any, list_all}
use Rattle.std.specs.Str.{bytes_eq}
use Rattle.shop_model.specs.Rows.{Row}
use Rattle.shop_model.specs.Values.{CopyState, Here, Sent, Scrapped}
use Rattle.shop_model.specs.Books.{BookCopy, Mark, Line, LineState, UnderWay, Arrived, Missing}
use Rattle.shop_model.specs.Links.{are_different}
use Rattle.shop_model.specs.Sound.{is_mark, is_origin, rows_made, rows_in, lines_in}
use Rattle.audit_rows.specs.Lists.{Key}

-- a film and a mark
abbrev pub Marked : Type 0
Marked = ℕ × Mark

abbrev pub marked_row : Row BookCopy → Marked
marked_row row = (row.it.film, row.it.mark)

abbrev pub marked_line : Line → Marked
marked_line line = (line.film, line.mark)

-- the film and the mark of each row and of each line
abbrev pub marked : List (Row BookCopy) → List Line → List Marked
marked copies lines = map marked_row copies ++ map marked_line lines

abbrev pub places_in : (Mark → Bool) → List (Row BookCopy) → List Line → ℕ
places_in test copies lines = rows_in Here test copies + lines_in UnderWay test lines + (rows_in Scrapped test copies + lines_in Missing test lines)

-- each mark is made, has exactly one place, and belongs to one film
pub record AreInCustody (copies : List (Row BookCopy)) (lines : List Line) : Type 0 where
  pub is_made : list_all (λ (it : Marked). nat_lt 0 (rows_made (is_mark it.1) copies)) (marked copies lines) ≡ true
  pub place : list_all (λ (it : Marked). places_in (is_mark it.1) copies lines == 1) (marked copies lines) ≡ true
  pub film :
      list_all (λ (it : Marked). list_all (λ (other : Marked). not (is_mark it.1 other.1) || other.0 == it.0) (marked copies lines)) (marked copies lines)
      ≡ true

abbrev pub any_mark : Mark → Bool
any_mark mark = true

-- ---- marks as keys

abbrev pub mark_key : Mark → Key
mark_key mark = mark.branch ∷ mark.copy ∷ []

abbrev pub film_key : ℕ → Mark → Key
film_key film mark = mark.branch ∷ mark.copy ∷ film ∷ []

abbrev pub is_copy_placed : CopyState → Bool
is_copy_placed Here = true
is_copy_placed Sent = false
is_copy_placed Scrapped = true

abbrev pub is_line_placed : LineState → Bool
is_line_placed UnderWay = true
is_line_placed Arrived = false
is_line_placed Missing = true

abbrev pub made_keys : List (Row BookCopy) → List Key
made_keys [] = []
made_keys (row ∷ rows) = if is_origin row then mark_key row.it.mark ∷ made_keys rows else made_keys rows

-- the marks of the copies that are a place of their marks, and of the lines that are
abbrev pub rows_placed : List (Row BookCopy) → List Key
rows_placed [] = []
rows_placed (row ∷ rows) = if is_copy_placed row.it.state then film_key row.it.film row.it.mark ∷ rows_placed rows else rows_placed rows

abbrev pub lines_placed : List Line → List Key
lines_placed [] = []
lines_placed (line ∷ lines) = if is_line_placed line.state then film_key line.film line.mark ∷ lines_placed lines else lines_placed lines

-- each place belongs to a mark that was made, and no mark has two places
abbrev pub places_are_single : List Key → List Key → Bool
places_are_single made placed = list_all (λ (it : Key). list_any (bytes_eq it) made) placed && are_different bytes_eq placed
