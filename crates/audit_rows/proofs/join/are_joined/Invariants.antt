use Rattle.std.proofs.Common.{◌≡◌, map, drop, is_some}
use Rattle.audit_rows.specs.Joins.{join}
use Rattle.audit_rows.specs.Seen.{seen_header, seen_placed}
use Rattle.audit_rows.proofs.join.are_joined.Given as goal

abbrev pub invariant-loop-header : goal.invariant-loop-header
invariant-loop-header l =
    is_some (join (map seen_header (drop l.header-index l.headers)) (map seen_placed l.rest))
    ≡ is_some (join (map seen_header l.headers) (map seen_placed l.fn.lines))
