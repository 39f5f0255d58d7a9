use Rattle.shop_views.specs.Fields.{fields_value}
use Rattle.shop_views.proofs.TextLemmas.{text_of_value}
use Rattle.shop_views.proofs.FieldLemmas.{fields_no_float}
use Rattle.shop_views.proofs.fields.object_text.Goals as goal

pub returns : goal.returns
returns c =
    let fields = c.args.fields.now in
    text_of_value c.to_string.result _ (fields_value fields) c.in_ok-object_of.ensures (fields_no_float fields) c.to_string.ensures.text
