use Rattle.std.proofs.Common.{◌≡◌, ◌++◌, map}
use Rattle.books_audit.proofs.lists.keep_all.Given as goal

abbrev pub invariant-loop-row : goal.invariant-loop-row
invariant-loop-row g l = map g.T.Shared.keep l.fn.rows.items ≡ l.all.items ++ map g.T.Shared.keep l.row-iterator.rest.items
