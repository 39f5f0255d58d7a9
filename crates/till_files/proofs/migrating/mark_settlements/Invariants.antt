use Rattle.shop_schema.proofs.Common.{Ok, map, ⊤, DoesWithin, StoreFault}
use Rattle.till_book.specs.Seen.{seen_reply, seen_settlement}
use Rattle.till_files.proofs.Played.{MarksSome}
use Rattle.till_files.proofs.migrating.mark_settlements.Given as goal

abbrev pub invariant-loop-row : goal.invariant-loop-row
invariant-loop-row g l =
    DoesWithin {X = ⊤} {E = StoreFault} g.S.Store l.fn.tx.conn l.tx.conn (Ok tt)
    (λ _. MarksSome (map (λ row. row.request) l.entries) (map seen_reply l.replies) (map seen_settlement l.settled) l.row-index)
