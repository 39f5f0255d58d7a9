use Rattle.shop_schema.proofs.Common.{ap, ◌∙◌, Schema}
use Rattle.shop_schema.proofs.Versions.{first_is}
use Rattle.shop_schema.proofs.known.has_version.Goals as goal

pub returns : goal.returns
returns c =
    let e = c.same_first.ensures in
    let l = first_is c.args.schema.now.tables _ (ap (λ (s : Schema). s.tables) (c.schema.ensures.value ∙ c.in_ok-conn.ensures)) in
    (λ t. l.0 (e.0 t), λ h. e.1 (l.1 h))
