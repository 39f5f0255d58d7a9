use Rattle.shop_schema.proofs.Common.{◌≡◌, Ok, take, map, ⊤, DoesWithin, StoreFault, shop_of}
use Rattle.shop_ledger.specs.Calls.{Finds}
use Rattle.branch_core.specs.Agreed.{seen_film_copy}
use Rattle.branch_finds.specs.Finds.{copy_shown}
use Rattle.branch_finds.proofs.finds.with_stock.Given as goal

abbrev pub invariant-loop-row : goal.invariant-loop-row
invariant-loop-row g l =
    DoesWithin {X = ⊤} {E = StoreFault} g.S.Store l.fn.tx.conn l.tx.conn (Ok tt)
    (λ _. Finds (λ books. map seen_film_copy l.copies.items ≡ map (copy_shown (shop_of l.branch books).rentals) (take l.row-index l.rows)))
