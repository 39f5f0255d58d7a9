use Rattle.shop_types.proofs.Common.{◌∙◌, IfOk-weaker}
use Rattle.till_words.proofs.JoinLemmas.{joined_texts}
use Rattle.till_words.proofs.usage.joined.Goals as goal

pub returns : goal.returns
returns c = IfOk-weaker c.join.result _ _ (λ t is. is ∙ joined_texts (λ s. s.now) c.args.separator.now c.args.texts.now) c.join.ensures.ok
