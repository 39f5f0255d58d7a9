use Rattle.shop_schema.proofs.Common.{refl, sym, ap, subst, ◌∙◌, begun, IsPlain, version_1_schema}
use Rattle.shop_schema.proofs.known.is_first_shop.Goals as goal

pub returns : goal.returns
returns c =
    let e = c.same_begun.ensures in
    let begins = ap (begun 21 36) (c.schema.ensures.value ∙ c.in_ok-conn.ensures) in
    let plain : IsPlain version_1_schema = record { bare = refl; unviewed = refl } in
    (λ t. (e.0 t).0 ∙ begins, λ h. e.1 (h ∙ sym begins, subst IsPlain (sym begins) plain))
