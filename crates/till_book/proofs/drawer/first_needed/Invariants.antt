use Rattle.sql_rows.proofs.Common.{◌≡◌, ◌≤◌, ◌<◌, ℕ, take, true, false}
use Rattle.till_book.specs.Drawer.{is_among}
use Rattle.till_book.proofs.drawer.first_needed.Given as goal

abbrev pub invariant-loop-it : goal.invariant-loop-it
invariant-loop-it l =
    (l.from ≤ l.replies)
    × ((n : ℕ) → 0 < n → is_among n (take l.it-index l.late) ≡ true → is_among n l.known ≡ false → l.from < n)
