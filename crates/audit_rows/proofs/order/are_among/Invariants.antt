use Rattle.shop_types.proofs.Common.{◌≡◌, map, drop, bytes_eq, list_any, list_all}
use Rattle.audit_rows.proofs.order.are_among.Given as goal

abbrev pub invariant-loop-row : goal.invariant-loop-row
invariant-loop-row g l =
    list_all (λ row. list_any (bytes_eq (g.T.Keyed.key row)) (map g.T.Keyed.key l.others)) (drop l.row-index l.rows)
    ≡ list_all (λ row. list_any (bytes_eq (g.T.Keyed.key row)) (map g.T.Keyed.key l.others)) l.rows
