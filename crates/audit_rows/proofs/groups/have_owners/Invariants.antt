use Rattle.shop_types.proofs.Common.{◌≡◌, drop, list_all}
use Rattle.audit_rows.specs.Shops.{is_among}
use Rattle.audit_rows.proofs.groups.have_owners.Given as goal

abbrev pub invariant-loop-row : goal.invariant-loop-row
invariant-loop-row g l =
    list_all (λ row. is_among l.branches (g.T.Owned.owner row)) (drop l.row-index l.rows) ≡ list_all (λ row. is_among l.branches (g.T.Owned.owner row)) l.rows
