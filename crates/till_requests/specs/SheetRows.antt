-- Which row of a sheet is a copy's, and what it says.
use Rattle.std.specs.Prelude.{ℕ, ◌==◌, ◌&&◌, Bool, false, List, [], ◌∷◌, length, take, nat_lt, Option, Some, None, if◌then◌else◌, codes, unwrap_or}
use Rattle.std.specs.Prelude.{chars, encode_utf8_all}
use Rattle.std.specs.Str.{bytes_eq}
use Rattle.caseless.specs.Caseless.{default_case_fold}
use Rattle.csv.specs.Reading.{default_config, records_from, strip_bom}
use Rattle.csv.specs.Records.{field_at}
use Rattle.csv.specs.declared.parser.State.TheVariants as st
use Rattle.shop_types.specs.Numbers.{row_number_of}

abbrev pub Text : Type 0
Text = List ℕ

-- what a copy's row says: its film, and the rental that is open with its customer and its last day
pub record Row : Type 0 where
  pub film : Option ℕ
  pub title : Text
  pub rental : Option ℕ
  pub customer : Option ℕ
  pub due : Text

-- the line that a sheet of version 1 begins with
abbrev pub header_text : Text
header_text = codes "version,branch,until,copy,film,title,rating,price,rental,customer,name,due\n"

abbrev pub has_header : Text → Bool
has_header text = if nat_lt (length text) 75 then false else bytes_eq (take 75 text) header_text

-- the field at a place, or an empty one if the record has none there
abbrev pub text_at : ℕ → List Text → Text
text_at k fields = unwrap_or (field_at fields k) []

abbrev pub number_at : ℕ → List Text → Option ℕ
number_at k fields = row_number_of (text_at k fields)

abbrev pub is_number : ℕ → Option ℕ → Bool
is_number n None = false
is_number n (Some m) = m == n

-- the record is the copy's, and of version 1
abbrev pub is_row_of : ℕ → List Text → Bool
is_row_of copy fields = is_number copy (number_at 3 fields) && bytes_eq (text_at 0 fields) (codes "1")

abbrev pub row_of : List Text → Row
row_of fields = record {
  film = number_at 4 fields;
  title = text_at 5 fields;
  rental = number_at 8 fields;
  customer = number_at 9 fields;
  due = text_at 11 fields;
}

abbrev pub first_row : ℕ → List (List Text) → Option Row
first_row copy [] = None
first_row copy (fields ∷ more) = if is_row_of copy fields then Some (row_of fields) else first_row copy more

-- ---- lines with names

-- the text without upper and lower case, of any script (Unicode's default case folding)
abbrev pub folded : Text → Text
folded text = encode_utf8_all (default_case_fold (chars text))

-- the record is a line of that kind with that name, but for upper and lower case
abbrev pub is_named : Text → Text → List Text → Bool
is_named kind name fields = bytes_eq (text_at 0 fields) kind && bytes_eq (folded (text_at 5 fields)) (folded name)

-- the number in the first line of that kind with that name
abbrev pub first_number : Text → Text → List (List Text) → Option ℕ
first_number kind name [] = None
first_number kind name (fields ∷ more) = if is_named kind name fields then number_at 3 fields else first_number kind name more

-- ---- a sheet

-- The number that a sheet has for a name of that kind, if it has one; none of a text that doesn't begin as a sheet does. Only the first million records are
-- read.
unfoldable pub number_in_sheet : Text → Text → Text → Option (Option ℕ)
number_in_sheet kind name text =
    if has_header text then Some (first_number kind name (records_from default_config 1000000 st.StartRecord (strip_bom text))) else None

-- The first row of the copy in a sheet, if it has one; none of a text that doesn't begin as a sheet does. Only the first million records are read.
unfoldable pub row_in_sheet : ℕ → Text → Option (Option Row)
row_in_sheet copy text =
    if has_header text then Some (first_row copy (records_from default_config 1000000 st.StartRecord (strip_bom text))) else None
