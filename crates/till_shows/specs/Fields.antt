-- The members of objects that are shown, and the text of each.
use Rattle.std.specs.Prelude.{Bool, true, false, List, [], option_map, option_and_then, Option, Some, None, codes, decimal}
use Rattle.serde_json.specs.Data.{Data, null, boolean, number, string, array, object}
use Rattle.serde_json.specs.Find.{get, as_u64}
use Rattle.shop_model.specs.Values.{Text}
use Rattle.till_shows.specs.Bodies.{each, whole_number, listed, cents_in}
use Rattle.till_shows.specs.Money.{money_text}
use Rattle.till_shows.specs.Numbers.{commas}
use Rattle.till_shows.specs.declared.parts.Form.{Form}
use Rattle.till_shows.specs.declared.parts.Form.TheVariants.{Plain, Money}
use Rattle.till_shows.specs.declared.tables.Side.{Side}
use Rattle.till_shows.specs.declared.tables.Side.TheVariants.{Left, Right}

-- a member's name, the heading above its texts, how it is shown, and whether a search looks for a part in its text
pub record Field : Type 0 where
  pub name : Text
  pub heading : Text
  pub form : Form
  pub side : Side
  pub is_searched : Bool

abbrev pub plain_field : Text → Text → Field
plain_field name heading = record { name = name; heading = heading; form = Plain; side = Left; is_searched = false }

abbrev pub number_field : Text → Text → Field
number_field name heading = record { name = name; heading = heading; form = Plain; side = Right; is_searched = false }

abbrev pub money_field : Text → Text → Field
money_field name heading = record { name = name; heading = heading; form = Money; side = Right; is_searched = false }

abbrev pub searched_field : Text → Text → Field
searched_field name heading = record { name = name; heading = heading; form = Plain; side = Left; is_searched = true }

-- ---- texts

abbrev pub yes_text : Bool → Text
yes_text true = codes "yes"
yes_text false = codes "no"

-- a text or a number as it is, a list of numbers with commas, yes or no, and an empty text for null
abbrev pub plain_text : Data → Option Text
plain_text null = Some []
plain_text (boolean b) = Some (yes_text b)
plain_text (number n) = option_map decimal (as_u64 n)
plain_text (string s) = Some s
plain_text (array ds) = option_map commas (each whole_number (listed ds))
plain_text (object ms) = None

abbrev pub value_text : Form → Data → Option Text
value_text Plain d = plain_text d
value_text Money d = option_map money_text (cents_in d)

-- the text of the member that the field names
abbrev pub field_text : Data → Field → Option Text
field_text d field = option_and_then (value_text field.form) (get field.name d)

-- the texts of an object's members, field by field
abbrev pub row_of : List Field → Data → Option (List Text)
row_of fields d = each (field_text d) fields
