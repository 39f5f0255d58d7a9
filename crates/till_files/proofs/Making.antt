-- The database after the transaction that makes the tables.
use Rattle.shop_schema.proofs.Common.{◌≡◌, ◌∙◌, sym, ap, subst, false, true, Ghosts, Trees, Database, Held, state, State, HasCleanDisk, Survives}
use Rattle.shop_schema.proofs.Common.{survives_weaker, no_schema, survives_nothing, crash_new}
use Rattle.sqlite.specs.State.{Shows}
use Rattle.till_book.specs.Journal.{Journal, StandsFor, Holds}
use Rattle.till_book.specs.Steps.{Rests}
use Rattle.till_book.proofs.Resting.{Settled, holds_as}
use Rattle.till_files.specs.Files.{LeavesMade, empty_journal}
use Rattle.till_files.specs.Migrations.{HoldsFirst, Fills, LeavesFilled}

module _ {S : Type 0} (g : Ghosts S) (old mid end : Held S) where
  -- the transaction was committed
  pub rests_after : (journal : Journal) → Settled g → Holds (state g mid) journal
      → Shows (state g mid) (state g end) (state g mid).now (state g mid).now false → Rests (state g end) journal
  rests_after journal settled holds shows = record {
    now = λ _. holds_as (state g mid) (state g end) journal shows.now_is holds;
    committed = λ _. shows.committed_is ∙ sym shows.now_is;
    left = λ db may.
        subst (λ (trees : Trees). StandsFor trees journal)
        (sym (settled end.store db shows.is_open may ∙ ap (λ (d : Database). d.trees) shows.committed_is)) holds.stands;
  }

  -- whether or not the commit succeeds
  pub made_new : (HasCleanDisk (state g mid) → (state g old).now.schema ≡ no_schema → Holds (state g mid) empty_journal)
      → Survives (state g (record old { in_transaction = true })) (state g mid) (λ _. ⊥)
      → Survives (state g mid) (state g end) (λ db. db ≡ (state g mid).now.trees) → Survives (state g old) (state g end) (LeavesMade (state g old))
  made_new made inside ending = crash_new g old mid end (LeavesMade (state g old)) (λ clean none. (made clean none).stands) inside ending

-- the same of a migration
module _ {S : Type 0} (g : Ghosts S) (old mid end : Held S) where
  abbrev begun : Held S
  begun = record old { in_transaction = true }

  pub first_begun : (journal : Journal) → HoldsFirst (state g old) journal → HoldsFirst (state g begun) journal
  first_begun journal h = record { schema_is = h.schema_is; keyed = h.keyed; stands = h.stands }

  pub left_filled : (HasCleanDisk (state g mid) → Fills (state g begun) (state g mid)) → Survives (state g begun) (state g mid) (λ _. ⊥)
      → Survives (state g mid) (state g end) (λ db. db ≡ (state g mid).now.trees) → Survives (state g old) (state g end) (LeavesFilled (state g old))
  left_filled fills inside ending =
      crash_new g old mid end (LeavesFilled (state g old)) (λ clean journal holds. (fills clean journal (first_begun journal holds)).stands) inside ending

-- of a database that has tables nothing is made
pub leaves_untouched : (s : State) → Survives s s (LeavesMade s)
leaves_untouched s = survives_weaker s s (λ _. ⊥) (LeavesMade s) (λ _ db none. absurd none) (survives_nothing s)
