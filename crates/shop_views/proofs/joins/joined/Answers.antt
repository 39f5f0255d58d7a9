use Rattle.shop_types.proofs.Common.{string_bytes, IfOk-weaker}
use Rattle.shop_views.proofs.JoinLemmas.{joined_texts}
use Rattle.shop_views.proofs.joins.joined.Goals as goal

pub returns : goal.returns
returns g c =
    IfOk-weaker c.join.result _ _
    (λ s is.
    joined_texts g.T.Told.told c.args.between.now (string_bytes s) c.as_slice.result.now
    c.in_ok-texts.texts.items c.args.values.now is c.as_slice.ensures.value c.in_ok-texts.ensures)
    c.join.ensures.ok
