use Rattle.std.proofs.Common.{◌≡◌, ◌++◌, drop, string_bytes}
use Rattle.till_cashier.specs.Drawers.{taken_lines}
use Rattle.till_cashier.proofs.day.say_taken.Given as goal

abbrev pub invariant-loop-it : goal.invariant-loop-it
invariant-loop-it l =
    (string_bytes l.said.text ++ taken_lines (drop l.it-index l.tally.staff.items) ≡ string_bytes l.initial.said.text ++ taken_lines l.tally.staff.items)
    × (l.said.status ≡ l.initial.said.status)
