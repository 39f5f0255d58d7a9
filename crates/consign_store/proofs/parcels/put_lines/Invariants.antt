use Rattle.shop_schema.proofs.Common.{◌≡◌, ◌+◌, Ok, take, map, ⊤, DoesWithin, StoreFault}
use Rattle.shop_ledger.specs.Calls.{Stores}
use Rattle.consign_store.specs.Parcels.{HasNoLine, with_lines, sent_line}
use Rattle.consign_store.proofs.parcels.put_lines.Given as goal

abbrev pub invariant-loop-line : goal.invariant-loop-line
invariant-loop-line g l =
    (l.number ≡ l.line-index + 1)
    × DoesWithin {X = ⊤} {E = StoreFault} g.S.Store l.fn.tx.conn l.tx.conn (Ok tt)
    (λ _.
    Stores (HasNoLine l.key.source l.key.addressee l.key.number)
    (with_lines l.key.source l.key.addressee l.key.number (map sent_line (take l.line-index l.lines))))
