use Rattle.std.proofs.Common.{◌∙◌, ap, map}
use Rattle.audit_rows.specs.Lists.{climbs}
use Rattle.audit_rows.proofs.Keys.{distinct_by_order}
use Rattle.audit_rows.proofs.order.are_distinct.Goals as goal

pub returns-clause-distinct : goal.returns-clause-distinct
returns-clause-distinct g c =
    c.climbs.ensures ∙ ap (λ xs. climbs (map g.T.Keyed.key xs)) c.as_slice.ensures.value
    ∙ distinct_by_order g.T.Keyed.key _ _ c.sort_rows.ensures.permutation c.sort_rows.ensures.sorted
