-- Defines consignments as they are in their two tables, what the statements do to them, and for which books the statements may run.
use Rattle.std.specs.Prelude.{◌≡◌, ◌<◌, ◌==◌, ◌&&◌, ◌+◌, ◌^◌, ℕ, Bool, true, List, [], ◌∷◌, ◌++◌, map, filter, flat_map, length}
use Rattle.std.specs.List.{AllByRecursion}
use Rattle.sqlite_value.specs.Order as sql
use Rattle.sql_rows.specs.Rows.{PicksOne, number_value, flag_value}
use Rattle.shop_model.specs.Rows.{update_where, set_at, numbered}
use Rattle.shop_model.specs.Books.{Books, Line, LineState, Consignment, is_consignment}
use Rattle.shop_schema.specs.RowValues.{line_value}
use Rattle.shop_schema.specs.Counts.{Counts, is_pair}

-- ---- a consignment without its lines

pub record Header : Type 0 where
  pub source : ℕ
  pub addressee : ℕ
  pub number : ℕ
  pub place : ℕ
  pub received : Bool

abbrev pub header_of : Consignment → Header
header_of it = record { source = it.source; addressee = it.addressee; number = it.number; place = it.place; received = it.received }

abbrev pub header_columns : Header → sql.Row
header_columns it = number_value it.source ∷ number_value it.addressee ∷ number_value it.number ∷ number_value it.place ∷ flag_value it.received ∷ []

-- a consignment with no line
abbrev pub opened : Header → Consignment
opened it = record { source = it.source; addressee = it.addressee; number = it.number; place = it.place; received = it.received; lines = [] }

-- ---- a line with its number in its consignment, and the consignment's key

pub record Placed : Type 0 where
  pub source : ℕ
  pub addressee : ℕ
  pub number : ℕ
  pub line : ℕ
  pub it : Line

abbrev pub placed_at : Consignment → ℕ × Line → Placed
placed_at it line = record { source = it.source; addressee = it.addressee; number = it.number; line = line.0; it = line.1 }

abbrev pub placed_in : Consignment → List Placed
placed_in it = map (placed_at it) (numbered it.lines)

abbrev pub all_placed : List Consignment → List Placed
all_placed consignments = flat_map placed_in consignments

abbrev pub placed_columns : Placed → sql.Row
placed_columns it =
    number_value it.source ∷ number_value it.addressee ∷ number_value it.number
    ∷ number_value it.line ∷ number_value it.it.film ∷ number_value it.it.mark.branch
    ∷ number_value it.it.mark.copy ∷ line_value it.it.state ∷ []

-- ---- tests

abbrev pub is_header : ℕ → ℕ → ℕ → Header → Bool
is_header source addressee number it = it.source == source && it.addressee == addressee && it.number == number

abbrev pub is_within : ℕ → ℕ → ℕ → Placed → Bool
is_within source addressee number it = it.source == source && it.addressee == addressee && it.number == number

abbrev pub is_placed : ℕ → ℕ → ℕ → ℕ → Placed → Bool
is_placed source addressee number line it = is_within source addressee number it && it.line == line

-- ---- changes

-- at most one consignment has the key
abbrev pub IsOnce : ℕ → ℕ → ℕ → Books → Type 0
IsOnce source addressee number books = PicksOne (is_consignment source addressee number) books.consignments

-- one consignment has the line's key, and the line's number is one more than the count of the consignment's lines
abbrev pub IsNextLine : Placed → Books → Type 0
IsNextLine row books =
    map (λ (it : Consignment). length it.lines + 1) (filter (is_consignment row.source row.addressee row.number) books.consignments) ≡ row.line ∷ []

abbrev pub push_line : Line → Consignment → Consignment
push_line line it = record it { lines = it.lines ++ line ∷ [] }

abbrev pub put_state : LineState → Line → Line
put_state state line = record line { state = state }

abbrev pub set_state : ℕ → LineState → Consignment → Consignment
set_state line state it = record it { lines = set_at line (put_state state) it.lines }

abbrev pub receive : Consignment → Consignment
receive it = record it { received = true }

abbrev pub with_line : Placed → Books → Books
with_line row books = record books { consignments = update_where (is_consignment row.source row.addressee row.number) (push_line row.it) books.consignments }

abbrev pub with_received : ℕ → ℕ → ℕ → Books → Books
with_received source addressee number books = record books { consignments = update_where (is_consignment source addressee number) receive books.consignments }

abbrev pub with_state : ℕ → ℕ → ℕ → ℕ → LineState → Books → Books
with_state source addressee number line state books =
    record books { consignments = update_where (is_consignment source addressee number) (set_state line state) books.consignments }

-- ---- counts

-- the pair has at most one row, and the count of each row is below 2 ^ 32, so that one more fits 64 bits
pub record CountsPairOnce (source addressee : ℕ) (counts : Counts) : Type 0 where
  pub once : PicksOne (is_pair source addressee) counts.pairs
  pub small : AllByRecursion (λ pair. pair.last < 2 ^ 32) counts.pairs
