use Rattle.shop_schema.proofs.Common.{◌≡◌, ◌+◌, Ok, take, ⊤, DoesWithin, StoreFault}
use Rattle.shop_ledger.specs.Calls.{Stores}
use Rattle.branch_work.proofs.Writings.{with_copies}
use Rattle.branch_work.proofs.ConsignLemmas.{come_rows}
use Rattle.branch_work.proofs.consigning.put_come.Given as goal

abbrev pub invariant-loop-line : goal.invariant-loop-line
invariant-loop-line g l =
    (l.number ≡ l.fn.first + l.line-index)
    × DoesWithin {X = ⊤} {E = StoreFault} g.S.Store l.fn.tx.conn l.tx.conn (Ok tt)
    (λ _. Stores (λ _. ⊤) (with_copies (come_rows l.branch l.fn.first (take l.line-index l.come))))
