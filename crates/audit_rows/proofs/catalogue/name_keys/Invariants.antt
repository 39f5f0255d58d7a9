use Rattle.std.proofs.Common.{◌≡◌, ◌++◌, map, drop}
use Rattle.audit_rows.proofs.catalogue.name_keys.Given as goal

abbrev pub invariant-loop-name : goal.invariant-loop-name
invariant-loop-name l = map (λ row. row.name.now) l.keys.items ++ drop l.name-index l.names ≡ l.names
