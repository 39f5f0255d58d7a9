use Rattle.shop_schema.proofs.Common.{◌≡◌, ◌++◌, map, drop, out_columns}
use Rattle.books_audit.specs.Read.{outs_among}
use Rattle.books_audit.specs.Triples.{triple_columns}
use Rattle.books_audit.proofs.counts.outs.Given as goal

abbrev pub invariant-loop-row : goal.invariant-loop-row
invariant-loop-row l = map triple_columns l.all.items ++ map out_columns (outs_among (drop l.row-index l.rentals)) ≡ map out_columns (outs_among l.rentals)
