use Rattle.shop_schema.proofs.Common.{◌++◌, Ok, take, map, ⊤, DoesWithin, StoreFault}
use Rattle.shop_ledger.specs.Calls.{Stores}
use Rattle.shop_store.specs.Seen.{seen_copy_row}
use Rattle.branch_work.proofs.importing.put_copies.Given as goal

abbrev pub invariant-loop-row : goal.invariant-loop-row
invariant-loop-row g l =
    DoesWithin {X = ⊤} {E = StoreFault} g.S.Store l.fn.tx.conn l.tx.conn (Ok tt)
    (λ _. Stores (λ _. ⊤) (λ books. record books { copies = books.copies ++ map seen_copy_row (take l.row-index l.copies) }))
