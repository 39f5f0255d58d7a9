use Rattle.shop_schema.proofs.Common.{Ok, take, ⊤, DoesWithin, StoreFault, Sent, put_state}
use Rattle.shop_ledger.specs.Calls.{Stores}
use Rattle.branch_work.proofs.ConsignLemmas.{AreCounted, with_set}
use Rattle.branch_work.proofs.consigning.set_sent.Given as goal

abbrev pub invariant-loop-copy : goal.invariant-loop-copy
invariant-loop-copy g l =
    DoesWithin {X = ⊤} {E = StoreFault} g.S.Store l.fn.tx.conn l.tx.conn (Ok tt)
    (λ _. Stores (AreCounted l.branch) (with_set l.branch (put_state Sent) (take l.copy-index l.copies)))
