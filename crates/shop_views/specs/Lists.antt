-- Values of lists and of their rows, and how they are written.
use Rattle.std.specs.Prelude.{◌≡◌, false, List}
use Rattle.serde_json.specs.Data.{Data, array}
use Rattle.serde_json.specs.View.{items_of}
use Rattle.serde_json.specs.Written.{compact_text, has_float}
use Rattle.shop_model.specs.Values.{Text}

-- the list of the values
abbrev pub list_of : List Data → Data
list_of values = array (items_of values)

-- the value equals `json`, is written as the text, and has no float
pub record IsWritten (json : Data) (written : Text) (value : Data) : Type 0 where
  pub is : value ≡ json
  pub text : compact_text value ≡ written
  pub no_float : has_float value ≡ false

-- the value is that of a row, by what a list has of it and the text of that
abbrev pub IsRow : {A : Type 0} (json : A → Data) (text : A → Text) (it : A) → Data → Type 0
IsRow json text it value = IsWritten (json it) (text it) value
