-- Objects as lists of their members.
use Rattle.std.specs.Prelude.{List, [], ◌∷◌}
use Rattle.serde_json.specs.Data.{Data, Members, null, boolean, number, unsigned, string, object, no_members, put}
use Rattle.shop_model.specs.Values as model
use Rattle.shop_views.specs.Texts.{json_text}
use Rattle.shop_views.specs.Bodies.{numbers_value}
use Rattle.shop_views.specs.declared.fields.Field.{Field}
use Rattle.shop_views.specs.declared.fields.Field.TheVariants.{Number, Flag, Text, Null, Films}

-- a member among other members, which are in the byte order of their names
abbrev pub with_field : Field → Members → Members
with_field (Number name n) ms = put name.now (number (unsigned n)) ms
with_field (Flag name b) ms = put name.now (boolean b) ms
with_field (Text name text) ms = put name.now (string text.now) ms
with_field (Null name) ms = put name.now null ms
with_field (Films name films) ms = put name.now (numbers_value films.now) ms

abbrev pub with_fields : List Field → Members → Members
with_fields [] ms = ms
with_fields (field ∷ fields) ms = with_fields fields (with_field field ms)

-- the object that has exactly the members
abbrev pub fields_value : List Field → Data
fields_value fields = object (with_fields fields no_members)

abbrev pub fields_text : List Field → model.Text
fields_text fields = json_text (fields_value fields)
