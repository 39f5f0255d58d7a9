use Rattle.sql_rows.proofs.Chaining.{does_so}
use Rattle.till_book.proofs.JournalTexts.{adds_rented}
use Rattle.till_book.proofs.journal.add_rented.Goals as goal

pub returns : goal.returns
returns g c =
    does_so c.execute.ensures.inside
    (rw (c.to_sql.ensures, c.get.ensures.value, c.to_sql-2.ensures, c.to_sql-3.ensures, c.get-2.ensures.value, c.to_sql-4.ensures, c.get-3.ensures.value)
    at c.execute.ensures.ran)
    (λ _ ran. adds_rented c.args.copy c.args.number c.args.rental c.args.customer _ _ ran.0 ran.1)
