use Rattle.std.proofs.Common.{take}
use Rattle.till_requests.specs.Zones.{offset_of}
use Rattle.till_cashier.specs.Listing.{TablesEntries}
use Rattle.till_cashier.proofs.lists_of_entries.entries_table.Given as goal

-- a row for each entry so far
abbrev pub invariant-loop-at : goal.invariant-loop-at
invariant-loop-at g l =
    TablesEntries l.desk.wall (offset_of l.desk.settings.now.zone) l.desk.settings.now.staff l.entries.number l.entries.rows.replies l.entries.rows.settled
    (take l.at l.entries.rows.entries) l.table
