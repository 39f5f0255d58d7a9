-- A JSON value's text by the definitions of the shop.
use Rattle.std.specs.Prelude.{List, [], ◌∷◌, codes}
use Rattle.serde_json.specs.Data.{Data, null, boolean, number, string, array, object, Items, no_items, item, Members, no_members, member}
use Rattle.serde_json.specs.Written.{number_text}
use Rattle.shop_model.specs.Json as json
use Rattle.shop_model.specs.Values.{Text}

abbrev mutual
  pub json_text : Data → Text
  json_text null = codes "null"
  json_text (boolean b) = json.flag_text b
  json_text (number n) = number_text n
  json_text (string s) = json.quoted s
  json_text (array ds) = json.array (item_texts ds)
  json_text (object ms) = json.object (member_texts ms)

  pub item_texts : Items → List Text
  item_texts no_items = []
  item_texts (item d ds) = json_text d ∷ item_texts ds

  pub member_texts : Members → List (Text × Text)
  member_texts no_members = []
  member_texts (member k d ms) = (k, json_text d) ∷ member_texts ms
