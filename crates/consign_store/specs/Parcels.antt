-- Defines what a dispatch adds as a whole consignment, and what a receipt sets in one.
use Rattle.std.specs.Prelude.{◌≡◌, ◌∷◌, ◌++◌, ◌+◌, ℕ, nat_le, if◌then◌else◌, false, List, [], map, filter, length}
use Rattle.shop_model.specs.Rows.{update_where, mem}
use Rattle.shop_model.specs.Books.{Books, Line, LineState, UnderWay, Arrived, Missing, Consignment, is_consignment}
use Rattle.shop_types.specs.declared.parcel.ParcelLine.{ParcelLine}
use Rattle.shop_types.specs.Seen.{seen_mark}

-- the line as it is sent off
abbrev pub sent_line : ParcelLine → Line
sent_line line = record { film = line.film; mark = seen_mark line.mark; state = UnderWay }

-- no consignment has the key
abbrev pub IsNewKey : ℕ → ℕ → ℕ → Books → Type 0
IsNewKey source addressee number books = filter (is_consignment source addressee number) books.consignments ≡ []

-- one consignment has the key, and the consignment has `count` lines
abbrev pub HasSoMany : ℕ → ℕ → ℕ → ℕ → Books → Type 0
HasSoMany source addressee number count books =
    map (λ (it : Consignment). length it.lines) (filter (is_consignment source addressee number) books.consignments) ≡ count ∷ []

abbrev pub HasNoLine : ℕ → ℕ → ℕ → Books → Type 0
HasNoLine source addressee number = HasSoMany source addressee number 0

abbrev pub put_behind : List Line → Consignment → Consignment
put_behind lines it = record it { lines = it.lines ++ lines }

abbrev pub with_lines : ℕ → ℕ → ℕ → List Line → Books → Books
with_lines source addressee number lines books = record books {
  consignments = update_where (is_consignment source addressee number) (put_behind lines) books.consignments;
}

abbrev pub sent_off : ℕ → ℕ → ℕ → ℕ → List Line → Consignment
sent_off source addressee number place lines =
    record { source = source; addressee = addressee; number = number; place = place; received = false; lines = lines }

-- the state of a line after a receipt with the given missing lines
abbrev pub state_at : List ℕ → ℕ → LineState
state_at missing line = if mem line missing then Missing else Arrived

-- the lines up to `last` are set, and the others are as they were
abbrev pub checked_from : List ℕ → ℕ → ℕ → List Line → List Line
checked_from missing last at [] = []
checked_from missing last at (l ∷ ls) = (if nat_le at last then record l { state = state_at missing at } else l) ∷ checked_from missing last (at + 1) ls

abbrev pub checked_to : List ℕ → ℕ → Consignment → Consignment
checked_to missing last it = record it { lines = checked_from missing last 1 it.lines }

abbrev pub with_checked_to : ℕ → ℕ → ℕ → List ℕ → ℕ → Books → Books
with_checked_to source addressee number missing last books =
    record books { consignments = update_where (is_consignment source addressee number) (checked_to missing last) books.consignments }
