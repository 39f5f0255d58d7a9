use Rattle.shop_model.proofs.Common.{◌∙◌, sym, subst, rules, IsUtf8}
use Rattle.shop_types.proofs.MomentLemmas.{moment_text-utf8}
use Rattle.shop_types.proofs.moment.MomentDisplay.fmt.Goals as goal

pub unwrap-requires : goal.unwrap-requires
unwrap-requires g c =
    let utf8 : IsUtf8 c.as_slice.result.now = subst IsUtf8 (sym (c.as_slice.ensures ∙ c.text-text.ensures.value)) (moment_text-utf8 c.args.self.now) in
    search rules
