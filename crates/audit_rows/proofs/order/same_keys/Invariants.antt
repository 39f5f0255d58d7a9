use Rattle.std.proofs.Common.{◌≡◌, map, drop}
use Rattle.audit_rows.specs.Lists.{same_lists}
use Rattle.audit_rows.proofs.order.same_keys.Given as goal

abbrev pub invariant-loop-row : goal.invariant-loop-row
invariant-loop-row g l =
    same_lists (map g.T.Keyed.key (drop l.row-index l.a)) (map g.T.Keyed.key l.rest) ≡ same_lists (map g.T.Keyed.key l.a) (map g.T.Keyed.key l.fn.b)
