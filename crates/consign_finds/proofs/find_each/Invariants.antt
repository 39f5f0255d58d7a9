use Rattle.shop_schema.proofs.Common.{◌≡◌, Ok, take, map, ℕ, Bool, false, List, ⊤, DoesWithin, StoreFault, Mark, seen_parcel_line}
use Rattle.shop_ledger.specs.Calls.{Finds}
use Rattle.branch_core.specs.Marked.{listed_at}
use Rattle.consign_finds.proofs.find_each.Given as goal

abbrev pub invariant-loop-copy : goal.invariant-loop-copy
invariant-loop-copy g l =
    DoesWithin {X = ⊤} {E = StoreFault} g.S.Store l.fn.tx.conn l.tx.conn (Ok tt)
    (λ _.
    Finds (λ books.
    ◌≡◌ {A = Bool × Bool × Bool × List (ℕ × Mark)} (false, l.has_away, l.has_out, map seen_parcel_line l.lines.items)
    (listed_at l.branch (take l.copy-index l.copies) books)))
