use Rattle.sql_rows.proofs.Common.{◌≡◌, map, drop, Schema, state, HasCleanDisk, Survives, KeepsCommit, Builds}
use Rattle.sql_rows.proofs.make.make_tables.Given as goal

abbrev pub invariant-loop-text : goal.invariant-loop-text
invariant-loop-text g l =
    let old = state g.S.Store l.fn.tx.conn.now in
    let now = state g.S.Store l.tx.conn.now in record {
      same : l.tx.conn.ghost_name ≡ l.fn.tx.conn.ghost_name;
      survives : Survives old now (λ _. ⊥);
      kept : HasCleanDisk now → KeepsCommit old now;
      built : HasCleanDisk now → (whole : Schema) → Builds whole old.now (map (λ t. t.now) l.texts)
          → Builds whole now.now (map (λ t. t.now) (drop l.text-index l.texts));
    }
