use Rattle.sql_rows.proofs.Common.{◌≡◌, ◌++◌, map}
use Rattle.std.specs.Prelude.{drop}
use Rattle.till_book.specs.Seen.{seen_settlement}
use Rattle.till_book.specs.Drawer.{late_of}
use Rattle.till_book.proofs.drawer.late_numbers.Given as goal

abbrev pub invariant-loop-it : goal.invariant-loop-it
invariant-loop-it l = l.late.items ++ late_of (map seen_settlement (drop l.it-index l.settled)) ≡ late_of (map seen_settlement l.settled)
