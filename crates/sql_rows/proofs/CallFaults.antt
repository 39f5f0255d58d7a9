-- Calls inside a transaction, one after another, that fail only as the disk meets faults.
use Rattle.sql_rows.proofs.Common.{◌≤◌, ◌⊎◌, inl, inr, Ok, Result, arith, ◌∙◌, MutBor, Ghosts, Trees, Held, state, State, HasCleanDisk, Survives, StaysWithin}
use Rattle.sql_rows.proofs.Common.{StoreFault}
use Rattle.sql_rows.specs.Causes.{IsReady, IsReadyInside, MetFaults, FailsByFaults}
use Rattle.sql_rows.proofs.QueryFaults.{err_then}

-- faults after some, and before some
pub met_behind : (a b c : State) → a.faults ≤ b.faults → MetFaults b c → MetFaults a c
met_behind a b c low met = omega arith

pub met_before : (a b c : State) → MetFaults a b → b.faults ≤ c.faults → MetFaults a c
met_before a b c met low = omega arith

-- a call may shut the connection only as the disk meets a fault
pub ready_or_met : {P : Trees → Type 0} (old new : State) → Survives old new P → HasCleanDisk new → IsReady old → IsReady new ⊎ MetFaults old new
ready_or_met old new survives clean ready = elim (survives.closes clean ready.is_open) [
  | inl live ↦ inl (record { is_open = live; unlimited = survives.limit ∙ ready.unlimited })
  | inr met ↦ inr met
]

-- a call that was answered leaves it ready
pub ready_behind : {S X E : Type 0} {g : Ghosts S} {a b : MutBor (Held S)} {x : X} → StaysWithin {X = X} {E = E} g a b (Ok x)
    → HasCleanDisk (state g b.now) → IsReadyInside (state g a.now) → IsReadyInside (state g b.now)
ready_behind stays clean ready = record {
  inside = stays.mode clean ready.inside;
  ready = record { is_open = (stays.lives clean ready.inside ready.ready.is_open).is_open; unlimited = stays.survives.limit ∙ ready.ready.unlimited };
}

-- after calls that were answered
pub fails_behind :
    {S X E Y : Type 0} {g : Ghosts S} {a b : MutBor (Held S)} {x : X} (c : MutBor (Held S)) (r : Result Y StoreFault) (Asked Next : State → Type 0)
    → StaysWithin {X = X} {E = E} g a b (Ok x)
    → (HasCleanDisk (state g b.now) → Asked (state g a.now) → Next (state g b.now))
    → Survives (state g b.now) (state g c.now) (λ _. ⊥) → FailsByFaults g b c r Next → FailsByFaults g a c r Asked
fails_behind {g = g} {a = a} {b = b} c r Asked Next one to moved two clean ready asked =
    let clean_b : HasCleanDisk (state g b.now) = omega (arith, clean, moved.clean) in
    err_then r _ _ (two clean (ready_behind one clean_b ready) (to clean_b asked))
    (λ e met failed. met_behind (state g a.now) (state g b.now) (state g c.now) one.survives.counts (met failed))
