use Rattle.audit_rows.proofs.OrderedLemmas.{ordered_is}
use Rattle.audit_rows.proofs.books.are_ordered.Goals as goal

pub returns : goal.returns
returns c = rw c.is_ordered.ensures (ordered_is c.args.books.now)
