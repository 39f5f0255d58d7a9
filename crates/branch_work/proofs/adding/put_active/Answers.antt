use Rattle.shop_schema.proofs.Common.{counts_of}
use Rattle.sql_rows.proofs.Chaining.{one_call}
use Rattle.shop_ledger.proofs.CountsOf.{agreed, beside}
use Rattle.shop_ledger.proofs.Agreeing.{active_counted}
use Rattle.branch_work.proofs.Acted.{carried_out}
use Rattle.branch_work.proofs.adding.put_active.Goals as goal

pub returns : goal.returns
returns g c = λ command found. carried_out (one_call c.in_ok-set_active.ensures) (λ said rules books holds held agrees marked. (
  agreed _ _ (counts_of books) (active_counted c.args.branch c.args.customer (λ it. record it { active = c.args.active }) books)
      holds.stands.more.termed (said (counts_of books) books (beside _ books holds) held),
  rw c.get.ensures.value at c.in_ok-object_text.ensures,
  tt,
))
