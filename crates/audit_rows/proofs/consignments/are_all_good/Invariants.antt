use Rattle.shop_types.proofs.Common.{◌≡◌, map, drop, list_all}
use Rattle.audit_rows.specs.Consignments.{is_good_line}
use Rattle.audit_rows.specs.Seen.{seen_line}
use Rattle.audit_rows.proofs.consignments.are_all_good.Given as goal

abbrev pub invariant-loop-row : goal.invariant-loop-row
invariant-loop-row l =
    list_all (is_good_line l.films l.received) (map seen_line (drop l.row-index l.lines)) ≡ list_all (is_good_line l.films l.received) (map seen_line l.lines)
