-- The kinds of columns, what a column of a kind holds, and rows of them as values.
use Rattle.std.specs.Prelude.{⊤, ◌≤◌, ◌<◌, ℕ, Bool, List, [], ◌∷◌, Option, IfSome, IsUtf8}
use Rattle.sqlite.specs.declared.types.Value.{Value}
use Rattle.sqlite.specs.declared.types.Value.TheVariants as sql_value
use Rattle.sqlite.specs.Values.{or_null}
use Rattle.sqlite_value.specs.Order as sql
use Rattle.sql_rows.specs.Rows.{number_value, flag_value}
use Rattle.shop_model.specs.Calendar as calendar
use Rattle.shop_model.specs.Calendar.{IsMoment}
use Rattle.shop_types.specs.Films.{rating_text, features_text}
use Rattle.shop_types.specs.Seen.{seen_rule, seen_state, seen_line_state}
use Rattle.shop_types.specs.declared.film.Rating as film_rating
use Rattle.shop_types.specs.declared.film.Features as film_features
use Rattle.shop_types.specs.declared.rule.Rule as chain_rule
use Rattle.shop_types.specs.declared.custody.CopyState.{CopyState}
use Rattle.shop_types.specs.declared.custody.LineState.{LineState}
use Rattle.shop_schema.specs.declared.shop_cells.ThisVersion.{ThisVersion}
use Rattle.shop_schema.specs.RowValues.{IsNumber, IsText, IsKey, IsToken, IsPlace, moment_value, rule_value, state_value, line_value}

pub data Kind : Type 0 where
  Number : Kind  -- of a row
  Within : ℕ → ℕ → Kind  -- from the one to the other
  Below : ℕ → Kind
  Place : Kind  -- in the order of dispatch
  Version : Kind  -- of these tables
  Flag : Kind
  Text : ℕ → ℕ → Kind  -- of so many bytes
  Words : Kind  -- any text
  Key : Kind  -- or the name of a lot
  Token : Kind
  Rating : Kind
  Features : Kind
  Rule : Kind
  Copy : Kind  -- where it is
  Line : Kind  -- what became of it
  Moment : Kind
  Bytes : Kind
  NumberOrNull : Kind
  WithinOrNull : ℕ → ℕ → Kind
  MomentOrNull : Kind

-- what a column of the kind holds
abbrev pub Held : Kind → Type 0
Held Number = ℕ
Held (Within low high) = ℕ
Held (Below bound) = ℕ
Held Place = ℕ
Held Version = ThisVersion
Held Flag = Bool
Held (Text low high) = List ℕ
Held Words = List ℕ
Held Key = List ℕ
Held Token = List ℕ
Held Rating = film_rating.Rating
Held Features = film_features.Features
Held Rule = chain_rule.Rule
Held Copy = CopyState
Held Line = LineState
Held Moment = calendar.Moment
Held Bytes = List ℕ
Held NumberOrNull = Option ℕ
Held (WithinOrNull low high) = Option ℕ
Held MomentOrNull = Option calendar.Moment

-- its value in SQL
abbrev pub value_of : (k : Kind) → Held k → Value
value_of Number n = number_value n
value_of (Within low high) n = number_value n
value_of (Below bound) n = number_value n
value_of Place n = number_value n
value_of Version x = number_value 2
value_of Flag b = flag_value b
value_of (Text low high) t = sql_value.Text t
value_of Words t = sql_value.Text t
value_of Key t = sql_value.Text t
value_of Token t = sql_value.Text t
value_of Rating it = sql_value.Text (rating_text it)
value_of Features it = sql_value.Text (features_text it)
value_of Rule it = rule_value (seen_rule it)
value_of Copy it = state_value (seen_state it)
value_of Line it = line_value (seen_line_state it)
value_of Moment m = moment_value m
value_of Bytes b = sql_value.Blob b
value_of NumberOrNull o = or_null number_value o
value_of (WithinOrNull low high) o = or_null number_value o
value_of MomentOrNull o = or_null moment_value o

-- it is such as the program can hold
abbrev pub Fits : (k : Kind) → Held k → Type 0
Fits Number n = IsNumber n
Fits (Within low high) n = (low ≤ n) × (n ≤ high)
Fits (Below bound) n = n < bound
Fits Place n = IsPlace n
Fits Version x = ⊤
Fits Flag b = ⊤
Fits (Text low high) t = IsText low high t
Fits Words t = IsUtf8 t
Fits Key t = IsKey t
Fits Token t = IsToken t
Fits Rating it = ⊤
Fits Features it = ⊤
Fits Rule it = ⊤
Fits Copy it = ⊤
Fits Line it = ⊤
Fits Moment m = IsMoment m
Fits Bytes b = ⊤
Fits NumberOrNull o = IfSome o IsNumber
Fits (WithinOrNull low high) o = IfSome o (λ n. (low ≤ n) × (n ≤ high))
Fits MomentOrNull o = IfSome o IsMoment

-- a row of such columns
abbrev pub Values : List Kind → Type 0
Values [] = Unit {0}
Values (k ∷ ks) = Held k × Values ks

abbrev pub columns_of : (ks : List Kind) → Values ks → sql.Row
columns_of [] v = []
columns_of (k ∷ ks) v = value_of k v.0 ∷ columns_of ks v.1

abbrev pub FitEach : (ks : List Kind) → Values ks → Type 0
FitEach [] v = Unit {0}
FitEach (k ∷ ks) v = Fits k v.0 × FitEach ks v.1
