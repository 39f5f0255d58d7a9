-- Calls in a row that look and change nothing.
use Rattle.shop_schema.proofs.Common.{◌≡◌, false, sym, subst, arith, IsTrue, Ghosts, Database, Held, state, State, HasCleanDisk, IsUnchanged, KeepsCommit}
use Rattle.shop_schema.proofs.Common.{Survives, unchanged_then, AreKeyed, survives_more, Books, shop_schema, Holds, StandsFor, IsHeld}
use Rattle.sqlite.proofs.InsideLemmas.{keeps_then}

-- tables that are as they were stand for the same books
pub holds_still : (old new : State) (books : Books) → IsUnchanged old new → Holds old books → Holds new books
holds_still old new books same holds =
    let now = sym same.0.now_is in
    record {
      schema_is = subst (λ (d : Database). d.schema ≡ shop_schema) now holds.schema_is;
      keyed = subst (λ (d : Database). AreKeyed shop_schema d.trees) now holds.keyed;
      stands = subst (λ (d : Database). StandsFor d.trees books) now holds.stands;
    }

-- the disk was clean before, since it is
pub was_clean : (old new : State) → Survives old new (λ _. ⊥) → HasCleanDisk new → HasCleanDisk old
was_clean old new survives clean = omega (arith, clean, survives.clean)

-- calls so far changed nothing, and this is known of the books
pub record Looked {S : Type 0} (g : Ghosts S) (old now : Held S) (Known : Books → Type 0) : Type 0 where
  pub survives : Survives (state g old) (state g now) (λ _. ⊥)
  pub mode : old.in_transaction ≡ false → now.in_transaction ≡ false
  pub kept : HasCleanDisk (state g now) → KeepsCommit (state g old) (state g now)
  pub same : HasCleanDisk (state g now) → IsTrue (state g old).is_open → IsUnchanged (state g old) (state g now)
  pub known : HasCleanDisk (state g now) → (books : Books) → Holds (state g old) books → IsHeld books → Known books

module _ {S : Type 0} (g : Ghosts S) where
  module _ (old mid new : Held S) (Known : Books → Type 0) (so_far : Looked g old mid Known) (survives : Survives (state g mid) (state g new) (λ _. ⊥)) where
    pub survives_next : Survives (state g old) (state g new) (λ _. ⊥)
    survives_next = survives_more (state g old) (state g mid) (state g new) so_far.survives survives

    pub kept_next : (HasCleanDisk (state g new) → KeepsCommit (state g mid) (state g new))
        → HasCleanDisk (state g new) → KeepsCommit (state g old) (state g new)
    kept_next kept clean =
        keeps_then (state g old) (state g mid) (state g new) (so_far.kept (was_clean (state g mid) (state g new) survives clean)) (kept clean)

    module _ (stays : HasCleanDisk (state g new) → IsUnchanged (state g mid) (state g new)) where
      was_open : HasCleanDisk (state g new) → IsTrue (state g old).is_open
      was_open clean = (so_far.kept (was_clean (state g mid) (state g new) survives clean)).was_open (stays clean).0.was_open

      so_far_same : HasCleanDisk (state g new) → IsUnchanged (state g old) (state g mid)
      so_far_same clean = so_far.same (was_clean (state g mid) (state g new) survives clean) (was_open clean)

      pub same_next : HasCleanDisk (state g new) → IsUnchanged (state g old) (state g new)
      same_next clean = unchanged_then (state g old) (state g mid) (state g new) (so_far_same clean) (stays clean)

      pub known_next : (Next : Books → Type 0)
          → (HasCleanDisk (state g new) → (books : Books) → Holds (state g mid) books → IsHeld books → Known books → Next books)
          → HasCleanDisk (state g new) → (books : Books) → Holds (state g old) books → IsHeld books → Next books
      known_next Next told clean books holds held =
          told clean books (holds_still (state g old) (state g mid) books (so_far_same clean) holds) held
          (so_far.known (was_clean (state g mid) (state g new) survives clean) books holds held)

      pub looked_next : (Next : Books → Type 0) → (mid.in_transaction ≡ false → new.in_transaction ≡ false)
          → (HasCleanDisk (state g new) → KeepsCommit (state g mid) (state g new))
          → (HasCleanDisk (state g new) → (books : Books) → Holds (state g mid) books → IsHeld books → Known books → Next books) → Looked g old new Next
      looked_next Next mode kept told = record {
        survives = survives_next;
        mode = λ off. mode (so_far.mode off);
        kept = kept_next kept;
        same = λ clean live. same_next clean;
        known = known_next Next told;
      }
