use Rattle.shop_types.proofs.Common.{◌≡◌, ◌++◌, take, drop, bytes_eq}
use Rattle.audit_rows.specs.Lists.{front_of, back_of}
use Rattle.audit_rows.proofs.groups.split_group.Given as goal

abbrev pub invariant-loop-i : goal.invariant-loop-i
invariant-loop-i g l = record {
  front : take l.i l.rows ++ front_of (λ row. bytes_eq (g.T.Grouped.columns row) l.group) (drop l.i l.rows)
      ≡ front_of (λ row. bytes_eq (g.T.Grouped.columns row) l.group) l.rows;
  back : back_of (λ row. bytes_eq (g.T.Grouped.columns row) l.group) (drop l.i l.rows) ≡ back_of (λ row. bytes_eq (g.T.Grouped.columns row) l.group) l.rows;
}
