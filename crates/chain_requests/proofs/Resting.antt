-- The state in which a transaction leaves a connection between two requests.
use Rattle.std.proofs.Common.{IfOk, IfErr}
use Rattle.shop_schema.proofs.Common.{IfOk-weaker, on_ok_then, survives_begin, survives_more, false≢true, ◌≡◌, ◌≢◌, ◌∙◌, inl, inr, refl, sym, ap, subst, arith}
use Rattle.shop_schema.proofs.Common.{ℕ, true, false, IsTrue, Ok, Err, Result, OnOk, MutBor, Ghosts, Trees, Database, survives_then, survives_weaker, Held}
use Rattle.shop_schema.proofs.Common.{state, State, HasCleanDisk, IsRolledBack, KeepsCommit, Survives, AreKeyed, crash_new, dropped, Limits, Request, Answer}
use Rattle.shop_schema.proofs.Common.{Books, Caller, StoreFault, Failed, seen_reply, IsHeld, shop_schema, StandsFor, Holds, Reads}
use Rattle.sqlite.specs.declared.error.Error.{Error}
use Rattle.sqlite.specs.Steps.{FailsToCommit}
use Rattle.sqlite.specs.State.{Shows}
use Rattle.sql_rows.specs.Calls.{DoesInside, StaysSame}
use Rattle.chain_caches.specs.Films.{AreRows, KnownFilms}
use Rattle.shop_ledger.specs.declared.answered.Answered.{Answered}
use Rattle.chain_requests.specs.Chains.{Rests, StaysAsFound}
use Rattle.branch_finds.specs.declared.work.Work.{Work}
use Rattle.branch_finds.specs.declared.work.Work.TheVariants as work
use Rattle.chain_requests.specs.declared.reports.Report.{Report}
use Rattle.chain_requests.specs.Reports.{shown_by, ShowsReport}
use Rattle.branch_work.specs.Works.{left_by, IsDone}
use Rattle.chain_requests.specs.Steps.{HasCome, DoesRequest, IsMade, IsUndone, LeavesAfter, LeavesEitherOf}

pub holds_as : (s t : State) (books : Books) → t.now ≡ s.now → Holds s books → Holds t books
holds_as s t books same h = record {
  schema_is = ap (λ (d : Database). d.schema) same ∙ h.schema_is;
  keyed = subst (λ (d : Database). AreKeyed shop_schema d.trees) (sym same) h.keyed;
  stands = subst (λ (d : Database). StandsFor d.trees books) (sym same) h.stands;
}

-- a call in a transaction that has just begun
pub begun_does : {S X E : Type 0} {g : Ghosts S} (old : Held S) {tx mid : MutBor (Held S)} {r : Result X E} {Says : X → State → State → Type 0}
    → tx.now ≡ record old { in_transaction = true }
    → DoesInside g tx mid r Says → DoesInside g (record tx { now = record old { in_transaction = true } }) mid r Says
begun_does {g = g} old {tx = tx} {mid = mid} {r = r} {Says = Says} is one = subst (λ h. DoesInside g (record tx { now = h }) mid r Says) is one

-- what the end of the call leaves and says, for the connection that came back
module _ {S : Type 0} (g : Ghosts S) (mid : Held S) {end : Held S} {of name : ℕ} (back : (new : Held S) × (name ≡ of → new ≡ end)) (same : of ≡ name) where
  pub left_back : {Leaves : Trees → Type 0} → Survives (state g mid) (state g end) Leaves → Survives (state g mid) (state g back.0) Leaves
  left_back {Leaves = Leaves} = subst (λ h. Survives (state g mid) (state g h) Leaves) (sym (back.1 (sym same)))

  pub said_back : (Says : State → State → Type 0) → (HasCleanDisk (state g end) → Says (state g mid) (state g end))
      → HasCleanDisk (state g back.0) → Says (state g mid) (state g back.0)
  said_back Says = subst (λ h. HasCleanDisk (state g h) → Says (state g mid) (state g h)) (sym (back.1 (sym same)))

-- it was committed
abbrev pub Commits : State → State → Type 0
Commits old new = Shows old new old.now old.now false

-- while a store is open, a crash leaves the last commit
abbrev pub Settled : {S : Type 0} → Ghosts S → Type 0
Settled {S} g = (s : S) (db : Trees) → IsTrue (g.view s).is_open → g.recovers s db → db ≡ (g.view s).committed

-- a crash leaves nothing new
pub leaves_less : (old new : State) (P : Trees → Type 0) → Survives old new (λ _. ⊥) → Survives old new P
leaves_less old new P survives = survives_weaker old new (λ _. ⊥) P (λ _ db none. absurd none) survives

-- and a call after it leaves nothing new
pub leaves_then : {P : Trees → Type 0} {old fin end : State} → Survives old fin P → Survives fin end (λ _. ⊥) → Survives old end P
leaves_then {P} {old} {fin} {end} one two = survives_then old fin end _ _ P (λ _ db it. it) (λ _ db none. absurd none) one two

-- ---- a transaction that was rolled back

-- from `old` to `new`, and what a call in it says
pub record Looks {X E : Type 0} (old new : State) (r : Result X E) (Says : X → Type 0) : Type 0 where
  pub rests : HasCleanDisk new → (books : Books) → Rests old books → Rests new books
  pub stays : HasCleanDisk new → StaysAsFound old new
  pub says : HasCleanDisk new → IfOk r (λ it. IsTrue old.is_open × Says it)
  pub crash : Survives old new (λ _. ⊥)

with_open : {X E : Type 0} (r : Result X E) (P : X → Type 0) (Open : Type 0) → OnOk r Open → IfOk r P → IfOk r (λ it. Open × P it)
with_open (Ok x) P Open was said = (was, said)
with_open (Err e) P Open was said = tt

module _ {S X E : Type 0} (g : Ghosts S) (old mid new : Held S) (r : Result X E) (Says : X → Type 0)
    (inside : Survives (state g (record old { in_transaction = true })) (state g mid) (λ _. ⊥))
    (kept : HasCleanDisk (state g mid) → KeepsCommit (state g (record old { in_transaction = true })) (state g mid))
    (says : HasCleanDisk (state g mid) → IfOk r (λ it. IsTrue (state g old).is_open × Says it))
    (ending : Survives (state g mid) (state g new) (λ _. ⊥)) (undone : HasCleanDisk (state g new) → IsRolledBack (state g mid) (state g new)) where
  clean_mid : HasCleanDisk (state g new) → HasCleanDisk (state g mid)
  clean_mid clean = omega (arith, clean, ending.clean)

  was_open : HasCleanDisk (state g new) → IsTrue (state g new).is_open → IsTrue (state g old).is_open
  was_open clean live = (kept (clean_mid clean)).was_open ((undone clean).was_open live)

  -- nothing was committed
  as_old : HasCleanDisk (state g new) → IsTrue (state g new).is_open
      → ((state g new).now ≡ (state g old).committed) × ((state g new).committed ≡ (state g old).committed)
  as_old clean = dropped (state g (record old { in_transaction = true })) (state g mid) (state g new) (kept (clean_mid clean)) (undone clean)

  leaves_old : Survives (state g old) (state g new) (λ _. ⊥)
  leaves_old = survives_more (state g old) (state g mid) (state g new) (survives_begin g old (state g mid) _ inside) ending

  rolled_back : Looks (state g old) (state g new) r Says
  rolled_back = record {
    rests = λ clean books rests. record {
      now =
          λ live. holds_as (state g old) (state g new) books ((as_old clean live).0 ∙ rests.committed (was_open clean live)) (rests.now (was_open clean live));
      committed = λ live. (as_old clean live).1 ∙ sym (as_old clean live).0;
      left = λ db may. elim (leaves_old.crash clean db may) [ inl first ↦ rests.left db first | inr none ↦ absurd none ];
    };
    stays = λ clean settled live. (was_open clean live, (as_old clean live).0 ∙ sym settled, (as_old clean live).1);
    says = λ clean. says (clean_mid clean);
    crash = leaves_old;
  }

-- one call in it
pub looks :
    {S X E : Type 0} {g : Ghosts S} (old : Held S) {end : Held S} {tx mid : MutBor (Held S)} {r : Result X E} {Says : X → State → State → Type 0} {name : ℕ}
    → DoesInside g tx mid r Says
    → tx.now ≡ record old { in_transaction = true } → tx.ghost_name ≡ name
    → (back : (new : Held S) × (name ≡ mid.ghost_name → new ≡ end)) → Survives (state g mid.now) (state g end) (λ _. ⊥)
    → (HasCleanDisk (state g end) → IsRolledBack (state g mid.now) (state g end))
    → Looks (state g old) (state g back.0) r (λ it. Says it (state g (record old { in_transaction = true })) (state g mid.now))
looks {g = g} old {mid = mid} {r = r} one is named back ending undone =
    let did = begun_does old is one in
    let same = one.inside.same_reference ∙ named in
    rolled_back g old mid.now back.0 r _ did.inside.survives (λ clean. did.inside.kept clean refl)
    (λ clean. with_open r _ _ (on_ok_then r (λ shows. shows.was_open) (did.inside.lives clean refl)) (did.says clean))
    (left_back g mid.now back same ending) (said_back g mid.now back same IsRolledBack undone)

-- what was found holds of the books on which the connection rested
pub looks_found : {X E : Type 0} {old first mid new : State} {r : Result X E} {Told : X → Books → Type 0}
    → first.now ≡ old.now → Looks old new r (λ it. Reads first mid (Told it)) → HasCleanDisk new
    → IfOk r (λ it. (books : Books) → Rests old books → IsHeld books → Told it books)
looks_found {old = old} {first = first} {r = r} same look clean =
    IfOk-weaker r _ _ (λ it found books rests held. (found.1 books (holds_as old first books same (rests.now found.0)) held).1) (look.says clean)

-- a look before the transaction, and nothing in it
pub looks_before : {S X E : Type 0} {g : Ghosts S} {old mid begun end : Held S} {r : Result X E} {of name : ℕ}
    → StaysSame g old mid r → begun ≡ record mid { in_transaction = true } → of ≡ name
    → (back : (new : Held S) × (name ≡ of → new ≡ end)) → Survives (state g begun) (state g end) (λ _. ⊥)
    → (HasCleanDisk (state g end) → IsRolledBack (state g begun) (state g end))
    → Looks (state g old) (state g back.0) r (λ _. HasCleanDisk (state g mid))
looks_before {S = S} {g = g} {old = old} {mid = mid} {begun = begun} {r = r} same is named back ending undone =
    subst (λ h. IsSoFrom h → Looks (state g old) (state g back.0) r (λ _. HasCleanDisk (state g mid)))
    (sym is) (λ it. rolled_back g old (record mid { in_transaction = true }) back.0 r _
    (record {
      clean = same.survives.clean;
      shield = same.survives.shield;
      counts = same.survives.counts;
      limit = same.survives.limit;
      closes = same.survives.closes;
      crash = same.survives.crash;
    })
    (λ clean. let kept = same.kept clean in record { was_open = kept.was_open; committed = kept.committed })
    (λ clean. on_ok_then r (λ shows. (shows.0.was_open, clean)) (same.same clean)) it.0 it.1)
    (left_back g begun back named ending, said_back g begun back named IsRolledBack undone)
  where
    IsSoFrom : Held S → Type 0
    IsSoFrom h = Survives (state g h) (state g back.0) (λ _. ⊥) × (HasCleanDisk (state g back.0) → IsRolledBack (state g h) (state g back.0))

-- ---- a transaction that was committed

module _ {S : Type 0} (g : Ghosts S) (old mid end : Held S) where
  pub rests_after : (books : Books) → Settled g → Holds (state g mid) books → Commits (state g mid) (state g end) → Rests (state g end) books
  rests_after books settled holds shows = record {
    now = λ _. holds_as (state g mid) (state g end) books shows.now_is holds;
    committed = λ _. shows.committed_is ∙ sym shows.now_is;
    left = λ db may.
        subst (λ (trees : Trees). StandsFor trees books)
        (sym (settled end.store db shows.is_open may ∙ ap (λ (d : Database). d.trees) shows.committed_is)) holds.stands;
  }

-- ---- a request

-- a crash leaves the books before the request or the books after it
pub either_of : (limits : Limits) (caller : Caller) (request : Request) {Given : Books → Type 0} {old end : State}
    → Survives old end (LeavesAfter limits caller request Given old) → HasCleanDisk end
    → LeavesEitherOf limits caller request Given old end
either_of limits caller request survives clean books rests held db may = elim (survives.crash clean db may) [
  | inl before ↦ inl (rests.left db before)
  | inr after ↦ inr (after books rests held)
]

-- nothing was done, so a crash leaves the books before it
pub undone_either : (limits : Limits) (caller : Caller) (request : Request) {Given : Books → Type 0} {old end : State} {fault : StoreFault}
    → ((books : Books) → Given books → IsHeld books) → IsUndone old end
    → (fault ≢ Failed → IsUndone old end) × LeavesEitherOf limits caller request Given old end
undone_either limits caller request held_in undone = (λ other. undone, λ books rests held db may. inl ((undone books rests (held_in books held)).left db may))

module _ (limits : Limits) (caller : Caller) (request : Request) {Given : Books → Type 0} {after : KnownFilms} where
  came : (old first mid : State) (it : Work Report) → first.now ≡ old.now → IsTrue old.is_open
      → DoesRequest limits caller request Given after it first mid → (books : Books) → Rests old books → Given books
      → HasCome shown_by limits caller request it mid books × AreRows after (left_by limits caller request books).catalogue.films
  came old first mid it same live works books rests = works books (holds_as old first books same (rests.now live))

  -- it was done by nothing
  pub made_nothing : {old first mid end : State} {it : Answered} → first.now ≡ old.now
      → IsTrue old.is_open × DoesRequest limits caller request Given after (work.Answered it) first mid → it.is_changed ≡ false
      → ((books : Books) → Rests old books → Rests end books) → IsMade limits caller request (seen_reply it.reply) Given after old end
  made_nothing {old} {first} {mid} {end} {it} same works unchanged back =
      let done = came old first mid (work.Answered it) same works.0 works.1 in
      record {
        reply = λ books rests held. (done books rests held).0.reply;
        books = λ books rests held. subst (λ (after : Books). Rests end after) (sym ((done books rests held).0.same unchanged)) (back books rests);
        films = λ books rests held. (done books rests held).1;
      }

  -- a reading was looked at in a transaction, which was rolled back, and then it was shown
  pub shows_made : {old first : State} (mid : State) {back end : State} (report : Report) {answer : Answer}
      → first.now ≡ old.now → IsTrue old.is_open × DoesRequest limits caller request Given after (work.Shows report) first mid
      → ((books : Books) → Rests old books → Rests back books) → IsUndone back end → ((books : Books) → Given books → IsHeld books)
      → ShowsReport report answer back → IsMade limits caller request answer Given after old end
  shows_made {old} {first} mid {back} {end} report same works returned stays held_in shown =
      let seen = came old first mid (work.Shows report) same works.0 works.1 in
      record {
        reply = λ books rests held. shown books (returned books rests) (held_in books held) ∙ sym (seen books rests held).0.0;
        books = λ books rests held.
            subst (λ (after : Books). Rests end after) (sym (seen books rests held).0.1) (stays books (returned books rests) (held_in books held));
        films = λ books rests held. (seen books rests held).1;
      }

  module _ {S E : Type 0} {g : Ghosts S} (old : Held S) {tx mid : MutBor (Held S)} {it : Answered} (is : tx.now ≡ record old { in_transaction = true })
      (one : DoesInside {E = E} g tx mid (Ok (work.Answered it)) (DoesRequest limits caller request Given after))
      (end : Held S) (ending : Survives (state g mid.now) (state g end) (λ db. db ≡ (state g mid.now).now.trees)) where
    done : HasCleanDisk (state g mid.now) → (books : Books) → Rests (state g old) books → Given books
        → IsDone limits caller request it (state g mid.now) books × AreRows after (left_by limits caller request books).catalogue.films
    done clean =
        let did = begun_does old is one in
        came (state g old) (state g (record old { in_transaction = true })) (state g mid.now)
        (work.Answered it) refl (did.inside.lives clean refl).was_open (did.says clean)

    -- it was committed
    pub made_commit : Settled g → (HasCleanDisk (state g end) → Commits (state g mid.now) (state g end))
        → HasCleanDisk (state g end) → IsMade limits caller request (seen_reply it.reply) Given after (state g old) (state g end)
    made_commit settled shows clean =
        let so = done (omega (arith, clean, ending.clean)) in
        record {
          reply = λ books rests held. (so books rests held).0.reply;
          books = λ books rests held. rests_after g old mid.now end (left_by limits caller request books) settled (so books rests held).0.holds (shows clean);
          films = λ books rests held. (so books rests held).1;
        }

    -- what the commit leaves, whether or not it reports success
    pub leaves_after : Survives (state g old) (state g end) (LeavesAfter limits caller request Given (state g old))
    leaves_after =
        crash_new g old mid.now end (LeavesAfter limits caller request Given (state g old))
        (λ clean books rests held. (done clean books rests held).0.holds.stands) (begun_does old is one).inside.survives ending

-- if a commit failed, but the store was still open at a later call, the commit had no effect
pub undone_after :
    {S X E : Type 0} {g : Ghosts S} (old fin end : Held S) {tx mid : MutBor (Held S)}
    {x : X} {Says : X → State → State → Type 0} {e : Error} {Leaves : Trees → Type 0}
    → tx.now ≡ record old { in_transaction = true }
    → DoesInside {E = E} g tx mid (Ok x) Says → Survives (state g mid.now) (state g fin) Leaves → Settled g
    → (HasCleanDisk (state g fin) → FailsToCommit (state g mid.now) (state g fin) e) → IsTrue (state g fin).is_open
    → (IsTrue (state g end).is_open → ((state g end).now ≡ (state g fin).committed) × ((state g end).committed ≡ (state g fin).committed))
    → Survives (state g fin) (state g end) (λ _. ⊥) → HasCleanDisk (state g end)
    → IsUndone (state g old) (state g end)
undone_after {g = g} old fin end {mid = mid} {e = e} is one committing settled fails open_fin same ending clean books rests held = by (fails clean_fin)
  where
    clean_fin : HasCleanDisk (state g fin)
    clean_fin = omega (arith, clean, ending.clean)

    clean_mid : HasCleanDisk (state g mid.now)
    clean_mid = omega (arith, clean_fin, committing.clean)

    by : FailsToCommit (state g mid.now) (state g fin) e → Rests (state g end) books
    by (inl failed) =
        let kept = (begun_does old is one).inside.kept clean_mid refl in
        let back = failed.3 in
        let live : IsTrue (state g old).is_open = kept.was_open (back.was_open open_fin) in
        let first : (state g fin).committed ≡ (state g old).now = (back.undone open_fin).1 ∙ kept.committed (back.was_open open_fin) ∙ rests.committed live in
        let holds = rests.now live in
        record {
          now = λ open_end. holds_as (state g old) (state g end) books ((same open_end).0 ∙ first) holds;
          committed = λ open_end. (same open_end).1 ∙ sym (same open_end).0;
          left = λ db may. elim (ending.crash clean db may) [
            | inl before ↦
                subst (λ (trees : Trees). StandsFor trees books)
                (sym (settled fin.store db open_fin before ∙ ap (λ (d : Database). d.trees) first)) holds.stands
            | inr none ↦ absurd none
          ];
        }
    by (inr late) = absurd (false≢true (sym late.1 ∙ ((begun_does old is one).inside.lives clean_mid refl).mode))

-- a statement about every error holds of the error that occurred
pub of_any_error : {A E : Type 0} (r : Result A E) (P : E → Type 0) → ((e : E) → P e) → IfErr r P
of_any_error (Ok x) P h = tt
of_any_error (Err e) P h = h e
