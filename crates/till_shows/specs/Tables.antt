-- The text of a table.
use Rattle.std.specs.Prelude.{ℕ, suc, ◌-◌, nat_lt, if◌then◌else◌, false, List, [], ◌∷◌, ◌++◌, map, flat_map, length, slice_get, unwrap_or, chars, codes}
use Rattle.std.specs.List.{fold, repeat}
use Rattle.unicode_width.specs.Width.{str_width}
use Rattle.shop_model.specs.Values.{Text}
use Rattle.till_shows.specs.Lines.{Line, Table}
use Rattle.till_shows.specs.declared.tables.Side.{Side}
use Rattle.till_shows.specs.declared.tables.Side.TheVariants.{Left, Right}
use Rattle.till_shows.specs.declared.tables.Column.{Column}
use Rattle.till_shows.specs.declared.tables.Place.{Place}

-- the text in this column, or an empty text if there is none
abbrev pub cell_at : ℕ → List Text → Text
cell_at k row = unwrap_or (slice_get row k) []

-- how many columns of a terminal a text takes
abbrev pub width_of : Text → ℕ
width_of text = str_width false (chars text)

abbrev pub blanks : ℕ → Text
blanks n = repeat n (codes " ")

-- the text between two columns
abbrev pub between : Text
between = codes "  "

-- ---- columns

abbrev pub wider : ℕ → ℕ → ℕ
wider most width = if nat_lt most width then width else most

-- the width of the column's widest text
abbrev pub column_width : ℕ → List (List Text) → ℕ
column_width k rows = fold (λ most row. wider most (width_of (cell_at k row))) 0 rows

-- the places of the columns from the k-th on
abbrev pub places : ℕ → List Side → List (List Text) → List Place
places k [] rows = []
places k (side ∷ sides) rows = record { side = side; width = column_width k rows } ∷ places (suc k) sides rows

-- ---- lines

-- how many blanks come before a text, and after it, if its place has so many more columns
abbrev pub before : Side → ℕ → ℕ
before Left rest = 0
before Right rest = rest

abbrev pub behind : Side → ℕ → ℕ
behind Left rest = rest
behind Right rest = 0

-- the line with one more cell
abbrev pub with_cell : Place → Text → Line → Line
with_cell place [] line = record { text = line.text; gap = line.gap ++ (blanks place.width ++ between) }
with_cell place (x ∷ xs) line =
    let rest = place.width - width_of (x ∷ xs) in
    record { text = line.text ++ (line.gap ++ (blanks (before place.side rest) ++ x ∷ xs)); gap = blanks (behind place.side rest) ++ between }

-- the line with the cells from the k-th on
abbrev pub with_cells : ℕ → List Place → List Text → Line → Line
with_cells k [] row line = line
with_cells k (place ∷ places) row line = with_cells (suc k) places row (with_cell place (cell_at k row) line)

-- the cells at their places, with two blanks between them and none after the last
abbrev pub line_text : List Place → List Text → Text
line_text places row = (with_cells 0 places row (record { text = []; gap = [] })).text

-- ---- tables

abbrev pub seen_sides : List Column → List Side
seen_sides columns = map (λ column. column.side) columns

abbrev pub seen_headings : List Column → List Text
seen_headings columns = map (λ column. column.heading.now) columns

-- how many rows there are below the headings
abbrev pub row_count : Table → ℕ
row_count table = length table.rows - 1

-- a line for each row, ended by a line feed
abbrev pub lines_text : List Place → List (List Text) → Text
lines_text places rows = flat_map (λ row. line_text places row ++ 10 ∷ []) rows

abbrev pub table_text : Table → Text
table_text table = lines_text (places 0 table.sides table.rows) table.rows
