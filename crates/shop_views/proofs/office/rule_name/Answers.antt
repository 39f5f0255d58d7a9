use Rattle.shop_types.proofs.Common.{ap, sym, rule_name, seen_rule}
use Rattle.shop_types.specs.declared.rule.Rule.{Rule}
use Rattle.shop_views.proofs.office.rule_name.Goals as goal

pub returns-in-ByCode : goal.returns-in-ByCode
returns-in-ByCode c = ap (λ (rule : Rule). rule_name (seen_rule rule)) (sym c.in-ByCode.is)

pub returns-in-ByComment : goal.returns-in-ByComment
returns-in-ByComment c = ap (λ (rule : Rule). rule_name (seen_rule rule)) (sym c.in-ByComment.is)
