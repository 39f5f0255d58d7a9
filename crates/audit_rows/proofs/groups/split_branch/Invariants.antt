use Rattle.std.proofs.Common.{◌≡◌, ◌++◌, ◌==◌, take, drop}
use Rattle.audit_rows.specs.Lists.{front_of, back_of}
use Rattle.audit_rows.proofs.groups.split_branch.Given as goal

abbrev pub invariant-loop-i : goal.invariant-loop-i
invariant-loop-i g l = record {
  front : take l.i l.rows ++ front_of (λ row. g.T.Owned.owner row == l.branch) (drop l.i l.rows) ≡ front_of (λ row. g.T.Owned.owner row == l.branch) l.rows;
  back : back_of (λ row. g.T.Owned.owner row == l.branch) (drop l.i l.rows) ≡ back_of (λ row. g.T.Owned.owner row == l.branch) l.rows;
}
