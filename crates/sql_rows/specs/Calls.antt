-- What calls inside a transaction leave, and what they say of the books that tables stand for.
use Rattle.std.specs.Prelude.{◌≡◌, false, true, IsTrue, Result, IfOk, OnOk}
use Rattle.std.specs.Borrow.{MutBor}
use Rattle.sqlite_trees.specs.Tree.{Trees}
use Rattle.sqlite_trees.specs.declared.store.Store.{Ghosts}
use Rattle.sqlite.specs.Schema.{Schema}
use Rattle.sqlite.specs.Held.{Held, state}
use Rattle.sqlite.specs.State.{State, HasCleanDisk, IsUnchanged, KeepsCommit, Shows, Survives}
use Rattle.sql_rows.specs.Books.{IsOf, IsKeyed}

module _ {S X E : Type 0} (g : Ghosts S) (old new : MutBor (Held S)) (result : Result X E) where
  -- a call inside a transaction stays at its connection, commits nothing, and goes on only in a transaction that is open
  pub record StaysInside : Type 0 where
    pub same_reference : new.ghost_name ≡ old.ghost_name
    pub survives : Survives (state g old.now) (state g new.now) (λ _. ⊥)
    pub kept : HasCleanDisk (state g new.now) → IsTrue (state g old.now).in_transaction → KeepsCommit (state g old.now) (state g new.now)
    pub lives : HasCleanDisk (state g new.now) → IsTrue (state g old.now).in_transaction
        → OnOk result (Shows (state g old.now) (state g new.now) (state g new.now).now (state g old.now).committed true)

  -- the same of calls that may be none, and so don't show that the transaction was open
  pub record StaysWithin : Type 0 where
    pub same_reference : new.ghost_name ≡ old.ghost_name
    pub survives : Survives (state g old.now) (state g new.now) (λ _. ⊥)
    pub kept : HasCleanDisk (state g new.now) → IsTrue (state g old.now).in_transaction → KeepsCommit (state g old.now) (state g new.now)
    pub mode : HasCleanDisk (state g new.now) → IsTrue (state g old.now).in_transaction → OnOk result ((state g new.now).in_transaction ≡ true)
    pub lives : HasCleanDisk (state g new.now) → IsTrue (state g old.now).in_transaction → IsTrue (state g old.now).is_open
        → OnOk result (Shows (state g old.now) (state g new.now) (state g new.now).now (state g old.now).committed true)

-- States in one clause what a call inside a transaction does. The call stays in the transaction and commits nothing. If the disk was honest and the call
-- succeeds, `Says` holds of its value and of the states before and after it.
pub record DoesInside {S X E : Type 0} (g : Ghosts S) (old new : MutBor (Held S)) (result : Result X E) (Says : X → State → State → Type 0) : Type 0 where
  pub inside : StaysInside g old new result
  pub says : HasCleanDisk (state g new.now) → IfOk result (λ it. Says it (state g old.now) (state g new.now))

-- the same of calls that may be none
pub record DoesWithin {S X E : Type 0} (g : Ghosts S) (old new : MutBor (Held S)) (result : Result X E) (Says : X → State → State → Type 0) : Type 0 where
  pub inside : StaysWithin g old new result
  pub says : HasCleanDisk (state g new.now) → IfOk result (λ it. Says it (state g old.now) (state g new.now))

-- a look outside a transaction leaves the database as it was, unless the store fails, which commits nothing
pub record StaysSame {S X E : Type 0} (g : Ghosts S) (old new : Held S) (result : Result X E) : Type 0 where
  pub survives : Survives (state g old) (state g new) (λ _. ⊥)
  pub mode : old.in_transaction ≡ false → new.in_transaction ≡ false
  pub kept : HasCleanDisk (state g new) → KeepsCommit (state g old) (state g new)
  pub same : HasCleanDisk (state g new) → OnOk result (IsUnchanged (state g old) (state g new))

-- the state has the tables of the schema, with rowids that rise, and they stand for the books
pub record Holds {B : Type 0} (schema : Schema) (Stands : Trees → B → Type 0) (s : State) (books : B) : Type 0 where
  pub schema_is : IsOf schema s
  pub keyed : IsKeyed schema s
  pub stands : Stands s.now.trees books

-- if the tables stand for books that fulfil `Given`, they stand for the same books after the call, and `Says` holds of them
abbrev pub Reads : {B : Type 0} → (schema : Schema) → (Stands : Trees → B → Type 0) → (Given : B → Type 0) → State → State → (B → Type 0) → Type 0
Reads {B} schema Stands Given old new Says = (books : B) → Holds schema Stands old books → Given books → Holds schema Stands new books × Says books

-- if the tables stand for books that fulfil `Given`, they stand for the changed books after the call
abbrev pub Writes : {B : Type 0} → (schema : Schema) → (Stands : Trees → B → Type 0) → State → State → (B → Type 0) → (B → B) → Type 0
Writes {B} schema Stands old new Given change = (books : B) → Holds schema Stands old books → Given books → Holds schema Stands new (change books)
