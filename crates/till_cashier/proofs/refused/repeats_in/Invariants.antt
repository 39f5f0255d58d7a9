use Rattle.std.proofs.Common.{◌≡◌, [], string_bytes}
use Rattle.std.specs.List.{All}
use Rattle.till_cashier.specs.Again.{AreLeft, IsRefused}
use Rattle.till_cashier.proofs.refused.repeats_in.Given as goal

abbrev pub invariant-loop-at : goal.invariant-loop-at
invariant-loop-at g l =
    All (IsRefused l.entries.rows.entries l.entries.rows.replies) l.repeats.acts.items
    × (string_bytes l.repeats.left ≡ [] → AreLeft l.entries.rows.entries l.entries.rows.replies l.at l.repeats.acts.items)
