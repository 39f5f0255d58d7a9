use Rattle.std.proofs.Common.{◌≡◌, drop}
use Rattle.books_audit.specs.Read.{are_termed}
use Rattle.books_audit.proofs.counts.are_termed.Given as goal

abbrev pub invariant-loop-row : goal.invariant-loop-row
invariant-loop-row l = are_termed (drop l.row-index l.terms) l.rest ≡ are_termed l.terms l.fn.rentals
