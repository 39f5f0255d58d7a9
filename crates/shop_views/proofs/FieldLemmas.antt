-- An object that is made of fields has no float.
use Rattle.std.proofs.Common.{nat_cmp}
use Rattle.shop_types.proofs.Common.{◌≡◌, refl, false, List, [], ◌∷◌, Ordering, Less, Equal, Greater, slice_cmp, match_ordering, or_parts}
use Rattle.serde_json.specs.Data.{Data, Members, no_members, member, put}
use Rattle.serde_json.specs.Written.{has_float, members_have_float}
use Rattle.shop_model.specs.Values as model
use Rattle.shop_views.specs.declared.fields.Field.{Field}
use Rattle.shop_views.specs.declared.fields.Field.TheVariants.{Number, Flag, Text, Null, Films}
use Rattle.shop_views.specs.Fields.{with_field, with_fields, fields_value}
use Rattle.shop_views.specs.Bodies.{numbers_value}
use Rattle.shop_views.proofs.TextLemmas.{numbers_no_float}

put_at : (o : Ordering) (k l : model.Text) (d e : Data) (ms put_ms : Members) → has_float d ≡ false
    → has_float e ≡ false → members_have_float ms ≡ false → members_have_float put_ms ≡ false
    → members_have_float (match_ordering o (member k d (member l e ms)) (member l d ms) (member l e put_ms)) ≡ false
put_at Less k l d e ms put_ms hd he hms hput = rw (hd, he, hms) refl
put_at Equal k l d e ms put_ms hd he hms hput = rw (hd, hms) refl
put_at Greater k l d e ms put_ms hd he hms hput = rw (he, hput) refl

pub put_no_float : (k : model.Text) (d : Data) (ms : Members) → has_float d ≡ false → members_have_float ms ≡ false → members_have_float (put k d ms) ≡ false
put_no_float k d no_members none h = rw none refl
put_no_float k d (member l e ms) none h =
    let each = or_parts (has_float e) (members_have_float ms) h in
    put_at (slice_cmp nat_cmp k l) k l d e ms (put k d ms) none each.0 each.1 (put_no_float k d ms none each.1)

field_no_float : (field : Field) (ms : Members) → members_have_float ms ≡ false → members_have_float (with_field field ms) ≡ false
field_no_float (Number name n) ms = put_no_float name.now _ ms refl
field_no_float (Flag name b) ms = put_no_float name.now _ ms refl
field_no_float (Text name text) ms = put_no_float name.now _ ms refl
field_no_float (Null name) ms = put_no_float name.now _ ms refl
field_no_float (Films name films) ms = put_no_float name.now (numbers_value films.now) ms (numbers_no_float films.now)

with_fields_no_float : (fields : List Field) (ms : Members) → members_have_float ms ≡ false → members_have_float (with_fields fields ms) ≡ false
with_fields_no_float [] ms h = h
with_fields_no_float (field ∷ fields) ms h = with_fields_no_float fields (with_field field ms) (field_no_float field ms h)

pub fields_no_float : (fields : List Field) → has_float (fields_value fields) ≡ false
fields_no_float fields = with_fields_no_float fields no_members refl
