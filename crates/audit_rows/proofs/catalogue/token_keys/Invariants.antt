use Rattle.std.proofs.Common.{◌≡◌, ◌++◌, map, drop}
use Rattle.audit_rows.proofs.catalogue.token_keys.Given as goal

abbrev pub invariant-loop-row : goal.invariant-loop-row
invariant-loop-row l = map (λ row. row.token) l.keys.items ++ map (λ row. row.token) (drop l.row-index l.branches) ≡ map (λ row. row.token) l.branches
