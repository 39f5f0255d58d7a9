use Rattle.shop_schema.proofs.Common.{◌≡◌, ◌+◌, ◌++◌, map, drop, flat_map, numbered_from, counter_columns}
use Rattle.books_audit.specs.Read.{counters_in, counts_of_branch}
use Rattle.books_audit.specs.Triples.{triple_columns, AreTallies}
use Rattle.books_audit.proofs.counts.counters.Given as goal

abbrev pub invariant-loop-i : goal.invariant-loop-i
invariant-loop-i l = record {
  tallies : AreTallies l.rows l.tallies;
  same :
      map triple_columns l.all.items
      ++ map counter_columns (flat_map (λ it. counts_of_branch l.rows it.0) (numbered_from (l.i + 1) (drop l.i l.rows.branches.items)))
      ≡ map counter_columns (counters_in l.rows);
}
