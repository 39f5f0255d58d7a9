use Rattle.std.proofs.Common.{◌≡◌, map, drop}
use Rattle.audit_rows.specs.Lists.{climbs, climbs_above}
use Rattle.audit_rows.proofs.order.climbs.Given as goal

abbrev pub invariant-loop-row : goal.invariant-loop-row
invariant-loop-row g l = climbs_above (g.T.Keyed.key l.last) (map g.T.Keyed.key (drop l.row-index l.rest)) ≡ climbs (map g.T.Keyed.key l.fn.rows)
