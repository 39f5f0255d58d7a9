use Rattle.std.proofs.Common.{◌≡◌, map, drop}
use Rattle.audit_rows.specs.Consignments.{are_settled}
use Rattle.audit_rows.specs.Seen.{seen_header, seen_placed}
use Rattle.audit_rows.proofs.consignments.are_settled.Given as goal

abbrev pub invariant-loop-header : goal.invariant-loop-header
invariant-loop-header l =
    are_settled l.films (map seen_header (drop l.header-index l.headers)) (map seen_placed l.rest)
    ≡ are_settled l.films (map seen_header l.headers) (map seen_placed l.fn.lines)
