use Rattle.shop_schema.proofs.Common.{◌≡◌, Ok, take, map, ⊤, DoesWithin, StoreFault}
use Rattle.shop_ledger.specs.Calls.{Finds}
use Rattle.branch_finds.specs.Finds.{Knows}
use Rattle.branch_finds.specs.Commands.{as_listed, found_row}
use Rattle.branch_finds.proofs.commands.find_films.Given as goal

abbrev pub invariant-loop-row : goal.invariant-loop-row
invariant-loop-row g l =
    DoesWithin {X = ⊤} {E = StoreFault} g.S.Store l.fn.tx.conn l.tx.conn (Ok tt)
    (λ _. Finds (Knows l.fn.films l.films (λ books. l.found.items ≡ map (found_row books.catalogue) (take l.row-index l.rows))))
    × (map as_listed l.found.items ≡ take l.row-index l.rows)
