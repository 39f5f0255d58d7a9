use Rattle.std.proofs.Common.{◌+◌, ◌≤◌, [], map, drop}
use Rattle.books_audit.specs.Read.{pairs_among}
use Rattle.books_audit.specs.Triples.{seen_pair}
use Rattle.books_audit.proofs.PairRows.{Follows}
use Rattle.books_audit.proofs.counts.pairs.Given as goal

abbrev pub invariant-loop-header : goal.invariant-loop-header
invariant-loop-header l = record {
  follows : Follows (map seen_pair l.all.items) l.last l.count (drop l.header-index l.rest) (pairs_among [] l.fn.headers);
  fits : l.count ≤ l.header-index + 1;
}
