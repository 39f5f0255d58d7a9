use Rattle.std.proofs.Common.{◌≡◌, map, drop}
use Rattle.shop_model.specs.Calendar.{seconds_of}
use Rattle.audit_rows.specs.Lists.{rises_from}
use Rattle.audit_rows.proofs.shop.payments_rise.Given as goal

abbrev pub invariant-loop-row : goal.invariant-loop-row
invariant-loop-row l =
    rises_from l.last (map (λ row. seconds_of row.it.paid) (drop l.row-index l.payments)) ≡ rises_from 0 (map (λ row. seconds_of row.it.paid) l.payments)
