use Rattle.sql_rows.proofs.Chaining.{does_so}
use Rattle.till_book.proofs.JournalTexts.{adds_reply}
use Rattle.till_book.proofs.journal.add_reply.Goals as goal

pub returns : goal.returns
returns g c =
    does_so c.execute.ensures.inside (rw (c.to_sql.ensures, c.to_sql-2.ensures, c.to_sql-3.ensures) at c.execute.ensures.ran)
    (λ _ ran. adds_reply c.args.number c.args.status c.args.body.now _ _ ran.0 ran.1)
