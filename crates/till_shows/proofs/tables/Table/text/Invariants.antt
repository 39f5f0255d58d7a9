use Rattle.std.proofs.Common.{◌≡◌, take, string_bytes}
use Rattle.till_shows.specs.Tables.{lines_text}
use Rattle.till_shows.proofs.tables.Table.text.Given as goal

abbrev pub invariant-loop-row : goal.invariant-loop-row
invariant-loop-row l = string_bytes l.text ≡ lines_text l.places.items (take l.row-index l.row-items)
