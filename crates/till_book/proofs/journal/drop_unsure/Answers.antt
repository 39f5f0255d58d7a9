use Rattle.sql_rows.proofs.Chaining.{does_so}
use Rattle.till_book.proofs.JournalTexts.{drops_number}
use Rattle.till_book.proofs.journal.drop_unsure.Goals as goal

pub returns : goal.returns
returns g c = does_so c.execute.ensures.inside (rw (c.to_sql.ensures) at c.execute.ensures.ran) (λ _ ran. drops_number c.args.number _ _ ran.0 ran.1)
