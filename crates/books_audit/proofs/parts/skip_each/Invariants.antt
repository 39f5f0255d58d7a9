use Rattle.std.proofs.Common.{◌≡◌, ◌+◌, ℕ}
use Rattle.books_audit.proofs.Ends.{EachLeft}
use Rattle.books_audit.proofs.parts.skip_each.Given as goal

abbrev pub invariant-loop : goal.invariant-loop
invariant-loop l = (left : ℕ) → left + l.counter ≡ l.count → EachLeft l.bytes l.count l.rest left
