use Rattle.std.proofs.Common.{◌≡◌, map, drop}
use Rattle.audit_rows.specs.Consignments.{pairs_follow_from, pairs_follow}
use Rattle.audit_rows.specs.Seen.{seen_header}
use Rattle.audit_rows.proofs.consignments.pairs_follow.Given as goal

abbrev pub invariant-loop-row : goal.invariant-loop-row
invariant-loop-row l = pairs_follow_from (seen_header l.last) (map seen_header (drop l.row-index l.rest)) ≡ pairs_follow (map seen_header l.fn.headers)
