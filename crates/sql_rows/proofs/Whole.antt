-- How the calls within one transaction make one commit.
use Rattle.sql_rows.proofs.Common.{◌≡◌, true, sym, subst, ◌∙◌, arith, IsTrue, Ghosts, Trees, Held, state, State, HasCleanDisk, IsRolledBack, KeepsCommit}
use Rattle.sql_rows.proofs.Common.{Survives, survives_then, survives_begin}

-- a drop after a call that failed
pub dropped : (old mid end : State) → KeepsCommit old mid → IsRolledBack mid end
    → IsTrue end.is_open → (end.now ≡ old.committed) × (end.committed ≡ old.committed)
dropped old mid end kept back live = let was = kept.committed (back.was_open live) in let u = back.undone live in (u.0 ∙ was, u.1 ∙ was)

-- what a crash leaves where one transaction makes what a property says
pub crash_new : {S : Type 0} (g : Ghosts S) (old last end : Held S) (P : Trees → Type 0) → (HasCleanDisk (state g last) → P (state g last).now.trees)
    → Survives (state g (record old { in_transaction = true })) (state g last) (λ _. ⊥)
    → Survives (state g last) (state g end) (λ db. db ≡ (state g last).now.trees) → Survives (state g old) (state g end) P
crash_new g old last end P made inside ending =
    survives_then (state g old) (state g last) (state g end) _ _ P (λ _ db none. absurd none)
    (λ clean db is. subst P (sym is) (made (omega (arith, ending.clean)))) (survives_begin g old (state g last) _ inside) ending
