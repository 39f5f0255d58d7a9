use Rattle.shop_schema.proofs.Common.{and_then}
use Rattle.sql_rows.proofs.Chaining.{one_call}
use Rattle.shop_ledger.proofs.Doing.{first_and_last}
use Rattle.shop_ledger.proofs.counts.put_counts.Goals as goal

pub returns : goal.returns
returns g c =
    first_and_last c.in_ok-put_count.ensures
    (and_then (one_call c.in_ok-put_count-2.ensures) (and_then (one_call c.in_ok-put_count-3.ensures) (one_call c.in_ok-put_count-4.ensures)))
    c.put_count-5.ensures
    (λ one more _ last counts books holds given.
    let two = more.0 _ books (one counts books holds tt).0 tt in
    let three = more.1.0 _ books two.0 tt in
    let four = more.1.1 _ books three.0 tt in
    last _ books four.0 tt)
