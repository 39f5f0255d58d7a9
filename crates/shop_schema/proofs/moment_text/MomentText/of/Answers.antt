use Rattle.shop_schema.proofs.MomentTexts.{text_is_utf8}
use Rattle.shop_schema.proofs.moment_text.MomentText.of.Goals as goal

pub invariant_of-result : goal.invariant_of-result
invariant_of-result c = text_is_utf8 c.args.moment c.text.result c.text.ensures.value
