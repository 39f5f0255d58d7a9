use Rattle.shop_types.proofs.Common.{◌∙◌, IfOk-weaker, codes, string_bytes}
use Rattle.till_words.proofs.JoinLemmas.{joined_texts}
use Rattle.till_words.proofs.spoken.joined.Goals as goal

pub returns : goal.returns
returns c = IfOk-weaker c.join.result _ _ (λ t is. is ∙ joined_texts string_bytes (codes " ") c.args.texts.now) c.join.ensures.ok
