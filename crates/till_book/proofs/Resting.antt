-- The book after a transaction.
use Rattle.sql_rows.proofs.Common.{◌≡◌, ◌∙◌, refl, sym, ap, subst, arith, inl, inr, IsTrue, true, false, Result, Ok, Err, IfOk, MutBor, StaysInside, Ghosts}
use Rattle.sql_rows.proofs.Common.{Trees, Database, Held, state, State, HasCleanDisk, IsRolledBack, Shows, Survives, survives_then, survives_begin, AreKeyed}
use Rattle.std.specs.Prelude.{OnOk}
use Rattle.sql_rows.proofs.Whole.{crash_new, dropped}
use Rattle.till_book.specs.Tables.{book_schema}
use Rattle.till_book.specs.Journal.{Journal, StandsFor, Holds, Writes, Finds}
use Rattle.till_book.specs.Steps.{Rests, Stays, Comes, LeavesChanged}

pub holds_as : (s t : State) (journal : Journal) → t.now ≡ s.now → Holds s journal → Holds t journal
holds_as s t journal same h = record {
  schema_is = ap (λ (d : Database). d.schema) same ∙ h.schema_is;
  keyed = subst (λ (d : Database). AreKeyed book_schema d.trees) (sym same) h.keyed;
  stands = subst (λ (d : Database). StandsFor d.trees journal) (sym same) h.stands;
}

-- what a call leaves of a transaction that has just begun
pub begun_inside : {S X E : Type 0} (g : Ghosts S) (old : Held S) {tx after : MutBor (Held S)} {r : Result X E}
    → tx.now ≡ record old { in_transaction = true } → StaysInside g tx after r
    → StaysInside g (record tx { now = record old { in_transaction = true } }) after r
begun_inside g old is h = record { same_reference = h.same_reference; survives = rw is at h.survives; kept = rw is at h.kept; lives = rw is at h.lives }

abbrev pub Settled : {S : Type 0} → Ghosts S → Type 0
Settled {S} g = (s : S) (db : Trees) → IsTrue (g.view s).is_open → g.recovers s db → db ≡ (g.view s).committed

module _ {S : Type 0} (g : Ghosts S) (old mid end : Held S) (Given : Journal → Type 0) (change : Journal → Journal)
    (writes : Writes (state g (record old { in_transaction = true })) (state g mid) Given change)
    (live : HasCleanDisk (state g mid) → IsTrue (state g old).is_open) where
  done : HasCleanDisk (state g mid) → (journal : Journal) → Rests (state g old) journal → Given journal → Holds (state g mid) (change journal)
  done clean journal rests given =
      writes journal (holds_as (state g old) (state g (record old { in_transaction = true })) journal refl (rests.now (live clean))) given

  -- the commit succeeded
  pub comes : HasCleanDisk (state g mid) → Settled g → Shows (state g mid) (state g end) (state g mid).now (state g mid).now false
      → Comes Given change (state g old) (state g end)
  comes clean settled shows journal rests given =
      let holds = done clean journal rests given in
      record {
        now = λ _. holds_as (state g mid) (state g end) (change journal) shows.now_is holds;
        committed = λ _. shows.committed_is ∙ sym shows.now_is;
        left = λ db may.
            subst (λ (trees : Trees). StandsFor trees (change journal))
            (sym (settled end.store db shows.is_open may ∙ ap (λ (d : Database). d.trees) shows.committed_is)) holds.stands;
      }

-- what a commit leaves, whether or not it succeeds
pub leaves : {S : Type 0} (g : Ghosts S) (old mid end : Held S) (Given : Journal → Type 0) (change : Journal → Journal)
    → (HasCleanDisk (state g mid) → Writes (state g (record old { in_transaction = true })) (state g mid) Given change)
    → (HasCleanDisk (state g mid) → IsTrue (state g old).is_open)
    → Survives (state g (record old { in_transaction = true })) (state g mid) (λ _. ⊥)
    → Survives (state g mid) (state g end) (λ db. db ≡ (state g mid).now.trees)
    → Survives (state g old) (state g end) (LeavesChanged Given change (state g old))
leaves g old mid end Given change writes live inside ending =
    crash_new g old mid end (LeavesChanged Given change (state g old))
    (λ clean journal rests given. (done g old mid end Given change (writes clean) live clean journal rests given).stands) inside ending

-- nothing was committed
pub leaves_none : {S : Type 0} (g : Ghosts S) (old mid end : Held S) (P : Trees → Type 0)
    → Survives (state g (record old { in_transaction = true })) (state g mid) (λ _. ⊥)
    → Survives (state g mid) (state g end) (λ _. ⊥) → Survives (state g old) (state g end) P
leaves_none g old mid end P inside ending =
    survives_then (state g old) (state g mid) (state g end) _ _ P (λ _ db none. absurd none)
    (λ _ db none. absurd none) (survives_begin g old (state g mid) _ inside) ending

-- a change that was put in a transaction of its own, and committed
module _ {S X E : Type 0} (g : Ghosts S) (old end : Held S) (Given : Journal → Type 0) (change : Journal → Journal) {tx after : MutBor (Held S)} {x : X}
    (begun : tx.now ≡ record old { in_transaction = true }) (inside : StaysInside {E = E} g tx after (Ok x))
    (put : HasCleanDisk (state g after.now) → Writes (state g tx.now) (state g after.now) Given change)
    (ending : Survives (state g after.now) (state g end) (λ db. db ≡ (state g after.now).now.trees)) where
  from_begun : StaysInside {E = E} g (record tx { now = record old { in_transaction = true } }) after (Ok x)
  from_begun = begun_inside g old begun inside

  put_begun : HasCleanDisk (state g after.now) → Writes (state g (record old { in_transaction = true })) (state g after.now) Given change
  put_begun clean = rw begun at (put clean)

  pub committed : Settled g → (HasCleanDisk (state g end) → Shows (state g after.now) (state g end) (state g after.now).now (state g after.now).now false)
      → HasCleanDisk (state g end) → Comes Given change (state g old) (state g end)
  committed settled shows clean =
      let before : HasCleanDisk (state g after.now) = omega (arith, clean, ending.clean) in
      comes g old after.now end Given change (put_begun before) (λ k. (from_begun.lives k refl).was_open) before settled (shows clean)

  pub left_after : Survives (state g old) (state g end) (LeavesChanged Given change (state g old))
  left_after = leaves g old after.now end Given change put_begun (λ k. (from_begun.lives k refl).was_open) from_begun.survives ending

-- a look in a transaction of its own, which is rolled back, whatever the look returned
module _ {S X E : Type 0} (g : Ghosts S) (old end : Held S) {tx after : MutBor (Held S)} {r : Result X E}
    (begun : tx.now ≡ record old { in_transaction = true }) (inside : StaysInside g tx after r)
    (undone : HasCleanDisk (state g end) → IsRolledBack (state g after.now) (state g end)) (ending : Survives (state g after.now) (state g end) (λ _. ⊥)) where
  looked : StaysInside g (record tx { now = record old { in_transaction = true } }) after r
  looked = begun_inside g old begun inside

  pub stays_after : HasCleanDisk (state g end) → Stays (state g old) (state g end)
  stays_after clean journal rests =
      let before : HasCleanDisk (state g after.now) = omega (arith, clean, ending.clean) in
      let kept = looked.kept before refl in
      let survives : Survives (state g old) (state g end) (λ _. ⊥) = leaves_none g old after.now end (λ _. ⊥) looked.survives ending in
      let was : IsTrue (state g end).is_open → IsTrue (state g old).is_open = λ live. kept.was_open ((undone clean).was_open live) in
      let same : IsTrue (state g end).is_open → ((state g end).now ≡ (state g old).committed) × ((state g end).committed ≡ (state g old).committed) =
      λ live. dropped (state g (record old { in_transaction = true })) (state g after.now) (state g end) kept (undone clean) live in
      record {
        now = λ live. holds_as (state g old) (state g end) journal ((same live).0 ∙ rests.committed (was live)) (rests.now (was live));
        committed = λ live. (same live).1 ∙ sym (same live).0;
        left = λ db may. elim (survives.crash clean db may) [ inl before ↦ rests.left db before | inr none ↦ absurd none ];
      }

  pub finds_after : (Says : X → Journal → Type 0) → (HasCleanDisk (state g after.now) → IfOk r (λ it. Finds (Says it) (state g tx.now) (state g after.now)))
      → HasCleanDisk (state g end) → IfOk r (λ it. (journal : Journal) → Rests (state g old) journal → Rests (state g end) journal × Says it journal)
  finds_after Says finds clean =
      let before : HasCleanDisk (state g after.now) = omega (arith, clean, ending.clean) in
      told r (looked.lives before refl) (rw begun at (finds before))
    where
      told : (r : Result X E)
          → OnOk r (Shows (state g (record old { in_transaction = true })) (state g after.now) (state g after.now).now (state g old).committed true)
          → IfOk r (λ it. Finds (Says it) (state g (record old { in_transaction = true })) (state g after.now))
          → IfOk r (λ it. (journal : Journal) → Rests (state g old) journal → Rests (state g end) journal × Says it journal)
      told (Ok x) shows found = λ journal rests. (
        stays_after clean journal rests,
        (found journal (holds_as (state g old) (state g (record old { in_transaction = true })) journal refl (rests.now shows.was_open))).1,
      )
      told (Err e) shows found = tt
