use Rattle.sql_rows.proofs.Chaining.{does_so}
use Rattle.till_book.proofs.JournalTexts.{adds_entry}
use Rattle.till_book.proofs.journal.add_entry.Goals as goal

pub returns : goal.returns
returns g c =
    does_so c.execute.ensures.inside (rw (c.to_sql.ensures, c.to_sql-2.ensures) at c.execute.ensures.ran)
    (λ _ ran. adds_entry c.args.number c.args.request.now _ _ ran.0 ran.1)
