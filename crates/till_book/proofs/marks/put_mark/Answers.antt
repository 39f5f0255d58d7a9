use Rattle.sql_rows.proofs.Common.{state}
use Rattle.sql_rows.proofs.Stays.{within_none}
use Rattle.till_book.proofs.Doing.{does_within}
use Rattle.till_book.proofs.Puttings.{marks_rent_as, marks_return_as, marks_unsure_as, marks_nothing_as}
use Rattle.till_book.proofs.marks.put_mark.Goals as goal

pub returns-in-Rent : goal.returns-in-Rent
returns-in-Rent g c =
    does_within c.add_rented.ensures
    (λ _ adds. marks_rent_as c.args.mark c.in-Rent.copy c.args.number c.in-Rent.rental c.in-Rent.customer _ _ c.in-Rent.is adds)

pub returns-in-Return : goal.returns-in-Return
returns-in-Return g c = does_within c.add_returned.ensures (λ _ adds. marks_return_as c.args.mark c.in-Return.rental c.args.number _ _ c.in-Return.is adds)

pub returns-in-Unsure : goal.returns-in-Unsure
returns-in-Unsure g c = does_within c.add_unsure.ensures (λ _ adds. marks_unsure_as c.args.mark c.args.number _ _ c.in-Unsure.is adds)

pub returns-in-Nothing : goal.returns-in-Nothing
returns-in-Nothing g c = record {
  inside = within_none;
  says = λ clean. marks_nothing_as c.args.mark c.args.number (state g.S.Store c.args.tx.now.conn.now) c.in-Nothing.is;
}
