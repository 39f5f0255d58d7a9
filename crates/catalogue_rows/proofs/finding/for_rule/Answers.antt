use Rattle.shop_schema.proofs.Common.{◌∙◌, ap, done, same_rule, seen_rule}
use Rattle.sql_rows.proofs.Chaining.{one_call}
use Rattle.catalogue_rows.proofs.finding.for_rule.Goals as goal

pub returns : goal.returns
returns g c = done (one_call c.in_ok-chosen.ensures.does) (λ said books holds held.
    let chosen = said books holds held in
    (chosen.0, c.is_same.ensures ∙ ap (λ rule. same_rule rule (seen_rule c.args.rule)) chosen.1))
