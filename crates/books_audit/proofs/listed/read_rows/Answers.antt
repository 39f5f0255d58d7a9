use Rattle.books_audit.proofs.RowLists.{all_kept}
use Rattle.books_audit.proofs.listed.read_rows.Goals as goal

pub returns-clause-found : goal.returns-clause-found
returns-clause-found g c = all_kept g.T.Listed.is_row c.loop-row.all.items c.args.rows.now c.loop-row.row-index c.loop-row-test.false c.loop-row.invariant
