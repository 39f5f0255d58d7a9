use Rattle.shop_types.proofs.Common.{◌∙◌, ◌++◌, codes, IfOk-weaker}
use Rattle.shop_views.proofs.names.PersonNameTold.text.Goals as goal

pub returns : goal.returns
returns c = IfOk-weaker c.full_name.result _ _ (λ s is. is ∙ (λ i. c.as_str.ensures.value i ++ codes " " ++ c.as_str-2.ensures.value i)) c.full_name.ensures
