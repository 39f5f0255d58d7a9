use Rattle.shop_schema.proofs.Common.{drop}
use Rattle.books_audit.proofs.RowLists.{Continues}
use Rattle.books_audit.proofs.listed.read_rows.Given as goal

abbrev pub invariant-loop-row : goal.invariant-loop-row
invariant-loop-row g l = Continues g.T.Listed.is_row l.all.items (drop l.row-index l.rows) l.rows
