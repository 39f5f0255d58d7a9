use Rattle.std.proofs.Common.{◌≡◌, ◌+◌, ◌≤◌, ◌<◌, ℕ, length, drop, get_or}
use Rattle.books_audit.specs.Read.{how_many}
use Rattle.books_audit.proofs.counts.count_each.Given as goal

abbrev pub invariant-loop-row : goal.invariant-loop-row
invariant-loop-row g l = record {
  many : length l.counts.items ≡ l.places;
  each : (b : ℕ) → b < l.places → get_or l.counts.items b 0 + how_many g.T.Owned.owner b (drop l.row-index l.rows) ≡ how_many g.T.Owned.owner b l.rows;
  fits : (b : ℕ) → get_or l.counts.items b 0 ≤ l.row-index;
}
