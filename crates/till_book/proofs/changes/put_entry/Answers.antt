use Rattle.sql_rows.proofs.Chaining.{does_so}
use Rattle.till_book.proofs.Puttings.{puts_entry}
use Rattle.till_book.proofs.changes.put_entry.Goals as goal

pub returns : goal.returns
returns g c = does_so c.add_entry.ensures.inside c.add_entry.ensures.says (λ _ adds. puts_entry c.args.number c.args.request.now _ _ adds)
