use Rattle.shop_schema.proofs.Common.{Ok, ⊤, DoesWithin, StoreFault}
use Rattle.shop_ledger.specs.Calls.{Stores}
use Rattle.consign_store.specs.Parts.{IsOnce}
use Rattle.consign_store.specs.Parcels.{with_checked_to}
use Rattle.consign_store.proofs.parcels.check_lines.Given as goal

abbrev pub invariant-loop-done : goal.invariant-loop-done
invariant-loop-done g l =
    DoesWithin {X = ⊤} {E = StoreFault} g.S.Store l.fn.tx.conn l.tx.conn (Ok tt)
    (λ _. Stores (IsOnce l.key.source l.key.addressee l.key.number) (with_checked_to l.key.source l.key.addressee l.key.number l.missing l.done))
