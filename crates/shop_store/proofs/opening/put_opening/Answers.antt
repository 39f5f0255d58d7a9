use Rattle.shop_schema.proofs.Common.{and_then, some_calls}
use Rattle.sql_rows.proofs.Chaining.{one_call}
use Rattle.shop_ledger.proofs.CountsOf.{beside}
use Rattle.shop_ledger.proofs.Doing.{first_and_last}
use Rattle.shop_store.proofs.FirstCounts.{opening_agreed}
use Rattle.shop_store.proofs.OpeningTexts.{opening_added}
use Rattle.shop_store.proofs.opening.put_opening.Goals as goal

pub returns : goal.returns
returns g c = first_and_last (rw c.token_with.ensures at c.in_ok-put_token.ensures)
    (and_then (some_calls c.in_ok-run_all.ensures) (and_then (one_call c.in_ok-put_counts.ensures) (one_call c.in_ok-put_counts-2.ensures)))
    c.put_counts-3.ensures
    (λ begun said _ last shop keyed empty.
    let added = opening_added g.S.Store _ c.put_token.new.tx.conn.now c.run_all.new.tx.conn.now said.0 (beside _ _ (begun shop keyed empty)) in
    let one = said.1.0 _ _ added tt in
    let two = said.1.1 _ _ one.0 tt in
    opening_agreed _ (last _ _ two.0 tt).0)
