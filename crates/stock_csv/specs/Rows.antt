-- Defines the rows of a stock file. A stock file is our own: a text of comma-separated fields with a header row. Each further row says how many copies of a
-- film come.
use Rattle.std.specs.Prelude.{ℕ, ◌+◌, ◌==◌, ◌&&◌, ◌||◌, Bool, false, List, [], ◌∷◌, Option, Some, None, Result, Ok, Err, if◌then◌else◌, nat_lt, nat_le, codes}
use Rattle.std.specs.Prelude.{option_and_then}
use Rattle.std.specs.Str.{bytes_eq}
use Rattle.std.specs.Str.Parse.{digits_value}
use Rattle.std.specs.Option.{option_map_or}
use Rattle.csv.specs.Reading.{default_config, records_from, strip_bom}
use Rattle.csv.specs.declared.parser.State.TheVariants as st
use Rattle.shop_types.specs.Numbers.{is_plain_number, row_number_of}
use Rattle.stock_csv.specs.declared.StockRow.{StockRow}

abbrev pub Text : Type 0
Text = List ℕ

-- a number of copies: from 1 to 99, written in decimal with no leading zero
abbrev pub copies_of : Text → Option ℕ
copies_of field = if is_plain_number field && nat_le (digits_value 10 field) 99 then Some (digits_value 10 field) else None

abbrev pub row_from : Option ℕ → Option ℕ → Option StockRow
row_from (Some film) (Some copies) = Some (record { film = film; copies = copies })
row_from _ _ = None

-- the two fields of a record that has two
abbrev pub two_of : List Text → Option (Text × Text)
two_of (first ∷ second ∷ []) = Some (first, second)
two_of _ = None

-- the row that a record says: the number of a film, and how many copies of it
abbrev pub row_of : List Text → Option StockRow
row_of fields = option_and_then (λ pair. row_from (row_number_of pair.0) (copies_of pair.1)) (two_of fields)

-- the two names of the header row
abbrev pub is_header : List Text → Bool
is_header fields = option_map_or (λ pair. bytes_eq pair.0 (codes "film_id") && bytes_eq pair.1 (codes "copies")) (two_of fields) false

-- the rows of a file, or the number of the first record at fault, where the header row has the number 1
abbrev pub StockRows : Type 0
StockRows = Result (List StockRow) ℕ

abbrev pub with_row : StockRow → StockRows → StockRows
with_row row (Ok rows) = Ok (row ∷ rows)
with_row row (Err line) = Err line

-- The record at a line, below records of `total` copies, with the rows from the next line on. A file has at most 500 rows, the last of them on line 501, and at
-- most 1,000 copies.
abbrev pub row_then : ℕ → ℕ → Option StockRow → (ℕ → StockRows) → StockRows
row_then line total None below = Err line
row_then line total (Some row) below =
    if nat_lt 501 line || nat_lt 1000 (total + row.copies) then Err line else with_row row (below (total + row.copies))

-- the records from a line on; a file with no row is at fault on line 2
abbrev pub rows_from : ℕ → ℕ → List (List Text) → StockRows
rows_from line total [] = if line == 2 then Err 2 else Ok []
rows_from line total (fields ∷ more) = row_then line total (row_of fields) (λ copies. rows_from (line + 1) copies more)

abbrev pub rows_under_header : List (List Text) → StockRows
rows_under_header [] = Err 1
rows_under_header (header ∷ more) = if is_header header then rows_from 2 0 more else Err 1

-- The rows of a stock file. One byte order mark at its start is skipped. Blank lines are skipped too, and have no number. Only the first 502 records are read,
-- since record 502 is at fault whatever it says.
unfoldable pub stock_rows_of : Text → StockRows
stock_rows_of text = rows_under_header (records_from default_config 502 st.StartRecord (strip_bom text))
