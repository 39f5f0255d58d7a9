use Rattle.shop_schema.proofs.Common.{Ok, map, drop, ⊤, state, HasCleanDisk, StaysWithin, StoreFault}
use Rattle.shop_store.specs.Runs.{Runs}
use Rattle.shop_store.proofs.opening.run_all.Given as goal

abbrev pub invariant-loop-text : goal.invariant-loop-text
invariant-loop-text g l = record {
  within : StaysWithin {X = ⊤} {E = StoreFault} g.S.Store l.fn.tx.conn l.tx.conn (Ok tt);
  ran : HasCleanDisk (state g.S.Store l.tx.conn.now) → (new : _) → Runs g.S.Store (map (λ t. t.now) (drop l.text-index l.texts)) l.tx.conn.now new
      → Runs g.S.Store (map (λ t. t.now) l.texts) l.fn.tx.conn.now new;
}
