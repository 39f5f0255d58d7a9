-- Defines lists of consignments: what a join shows of consignments, and which consignments its rows make. Neighbouring rows belong to one consignment.
use Rattle.std.specs.Prelude.{◌≡◌, ◌==◌, ℕ, Bool, true, not, if◌then◌else◌, List, [], ◌∷◌, ◌++◌, map, filter, flat_map, Option, Some, None, IfSome, option_map}
use Rattle.serde_json.specs.Data.{Data}
use Rattle.sqlite.specs.Values.{or_null}
use Rattle.sqlite_value.specs.Order as sql
use Rattle.sql_rows.specs.Rows.{number_value, flag_value}
use Rattle.shop_model.specs.Rows.{numbered}
use Rattle.shop_model.specs.Values.{Text}
use Rattle.shop_model.specs.Views.{sorted_by}
use Rattle.shop_model.specs.Office.{goes_before}
use Rattle.shop_model.specs.Books.{Books, Line, Consignment}
use Rattle.shop_views.specs.Consignments.{Listed, seen_listed, arrival_data, arrival_text, sent_data, sent_text, transit_data, transit_text}
use Rattle.shop_views.specs.Page.{HasTexts}
use Rattle.shop_schema.specs.RowValues.{IsNumber}
use Rattle.consign_store.specs.declared.lists.ListedLine.{ListedLine}
use Rattle.consign_store.specs.declared.lists.ListKind.{ListKind}
use Rattle.consign_store.specs.declared.lists.ListKind.TheVariants as kind
use Rattle.consign_store.specs.declared.lists.ConsignmentPage.{ConsignmentPage}

-- ---- what a join shows

-- a consignment with one of its lines, or with none
abbrev pub ListLine : Type 0
ListLine = Consignment × Option (ℕ × Line)

abbrev pub shown_line : ListLine → sql.Row
shown_line line =
    number_value line.0.source ∷ number_value line.0.addressee ∷ number_value line.0.number ∷ flag_value line.0.received
    ∷ or_null (λ (l : ℕ × Line). number_value l.0) line.1 ∷ or_null (λ (l : ℕ × Line). number_value l.1.film) line.1 ∷ []

-- the program can hold what is shown
pub record IsListLine (it : ListLine) : Type 0 where
  pub source : IsNumber it.0.source
  pub addressee : IsNumber it.0.addressee
  pub number : IsNumber it.0.number
  pub line : IfSome it.1 (λ l. IsNumber l.0 × IsNumber l.1.film)

-- the columns that were read of a row
abbrev pub read_columns : ListedLine → sql.Row
read_columns it =
    number_value it.source ∷ number_value it.addressee ∷ number_value it.number ∷ flag_value it.received
    ∷ or_null number_value it.line ∷ or_null number_value it.film ∷ []

-- one row for each line, or one row if there is no line
abbrev pub lines_of : Consignment → List (ℕ × Line) → List ListLine
lines_of it [] = (it, None) ∷ []
lines_of it (l ∷ ls) = map (λ line. (it, Some line)) (l ∷ ls)

abbrev pub list_lines : List Consignment → List ListLine
list_lines consignments = flat_map (λ (it : Consignment). lines_of it (numbered it.lines)) consignments

-- ---- the consignments that the rows make

abbrev pub listed : Consignment → Listed
listed it = record { source = it.source; addressee = it.addressee; number = it.number; received = it.received; films = map (λ (l : Line). l.film) it.lines }

-- a row with the first line, or with no line, begins a consignment
abbrev pub is_first : Option (ℕ × Line) → Bool
is_first None = true
is_first (Some l) = l.0 == 1

abbrev pub films_of : Option (ℕ × Line) → List ℕ
films_of None = []
films_of (Some l) = l.1.film ∷ []

abbrev pub begun : ListLine → Listed
begun line = record { source = line.0.source; addressee = line.0.addressee; number = line.0.number; received = line.0.received; films = films_of line.1 }

-- the consignments that are complete, and the consignment that more rows may belong to
abbrev pub Grouped : Type 0
Grouped = List Listed × Option Listed

abbrev pub closed : Grouped → List Listed
closed (done, None) = done
closed (done, Some it) = done ++ it ∷ []

abbrev pub with_film : Listed → Option (ℕ × Line) → Listed
with_film it line = record it { films = it.films ++ films_of line }

abbrev pub take_line : Grouped → ListLine → Grouped
take_line (done, None) line = (done, Some (begun line))
take_line (done, Some it) line = if is_first line.1 then (done ++ it ∷ [], Some (begun line)) else (done, Some (with_film it line.1))

abbrev pub run_from : Grouped → List ListLine → Grouped
run_from so_far [] = so_far
run_from so_far (line ∷ lines) = run_from (take_line so_far line) lines

abbrev pub runs : List ListLine → Grouped
runs = run_from ([], None)

-- ---- pages

abbrev pub data_of : ListKind → Listed → Data
data_of kind.Arrivals it = arrival_data it
data_of kind.Sent it = sent_data it
data_of kind.Transit it = transit_data it

abbrev pub text_of : ListKind → Listed → Text
text_of kind.Arrivals it = arrival_text it
text_of kind.Sent it = sent_text it
text_of kind.Transit it = transit_text it

-- the page has the texts of the rows' complete consignments, and `consignment` is the last one
abbrev pub HasConsignments : ConsignmentPage → ConsignmentPage → List sql.Row → Type 0
HasConsignments start it given =
    (it.kind ≡ start.kind)
    × ((lines : List ListLine) → given ≡ map shown_line lines
    → HasTexts it.page (map (text_of start.kind) (runs lines).0) × (option_map seen_listed it.consignment ≡ (runs lines).1))

-- what head office is shown of the consignments that aren't received, by sender, addressee and number: the list of `office_look Transit`
abbrev pub under_way : Books → List (ℕ × ℕ × ℕ × List ℕ)
under_way books =
    map (λ (it : Consignment). (it.source, it.addressee, it.number, map (λ line. line.film) it.lines))
    (sorted_by goes_before (filter (λ (it : Consignment). not it.received) books.consignments))
