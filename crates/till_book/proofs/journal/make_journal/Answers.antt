use Rattle.sql_rows.proofs.Common.{sym, subst, Schema, state, MakeAll}
use Rattle.till_book.specs.Tables.{book_schema}
use Rattle.till_book.proofs.JournalTexts.{texts, make_all, made_journal}
use Rattle.till_book.proofs.journal.make_journal.Goals as goal

pub returns-clause-made : goal.returns-clause-made
returns-clause-made g c clean none =
    made_journal (state g.S.Store c.make_tables.new.tx.conn.now)
    (c.in_ok-make_tables.ensures.made clean book_schema
    (record { makes = subst (λ (s : Schema). MakeAll book_schema s texts) (sym none) make_all; empty = rw none tt }))
