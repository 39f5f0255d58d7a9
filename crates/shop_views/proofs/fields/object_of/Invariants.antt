use Rattle.std.proofs.Common.{◌≡◌, drop}
use Rattle.serde_json.specs.Data.{no_members}
use Rattle.serde_json.specs.View.{members_view}
use Rattle.shop_views.specs.Fields.{with_fields}
use Rattle.shop_views.proofs.fields.object_of.Given as goal

-- the object so far, with the members that are left, is the whole one
abbrev pub invariant-loop-field : goal.invariant-loop-field
invariant-loop-field l = with_fields (drop l.field-index l.fields) (members_view l.map.entries) ≡ with_fields l.fields no_members
