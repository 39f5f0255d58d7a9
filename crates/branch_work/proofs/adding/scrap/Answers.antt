use Rattle.shop_schema.proofs.Common.{Scrapped, put_state, counts_of, CopyRows}
use Rattle.sql_rows.proofs.Chaining.{one_call}
use Rattle.shop_schema.proofs.Lists.{picks_row}
use Rattle.shop_ledger.proofs.CountsOf.{agreed, beside}
use Rattle.shop_ledger.proofs.Agreeing.{state_counted}
use Rattle.branch_work.proofs.Acted.{carried_out}
use Rattle.branch_work.proofs.adding.scrap.Goals as goal

pub returns : goal.returns
returns g c = λ command found. carried_out (one_call c.in_ok-set_state.ensures) (λ said rules books holds held agrees marked.
    let b = c.args.branch in
    let set = said (counts_of books) books (beside _ books holds) (picks_row b books.copies (held.numbers.rows CopyRows b) c.args.copy) in
    (agreed _ _ (counts_of books) (state_counted b c.args.copy (put_state Scrapped) books) holds.stands.more.termed set, c.in_ok-number_text.ensures, tt))
