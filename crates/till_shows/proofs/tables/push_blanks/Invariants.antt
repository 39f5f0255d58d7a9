use Rattle.std.proofs.Common.{◌≡◌, ◌≤◌, ◌++◌, string_bytes}
use Rattle.till_shows.specs.Tables.{blanks}
use Rattle.till_shows.proofs.tables.push_blanks.Given as goal

abbrev pub invariant-loop : goal.invariant-loop
invariant-loop l = (l.counter ≤ l.count) × (string_bytes l.text ≡ string_bytes l.initial.text ++ blanks l.counter)
