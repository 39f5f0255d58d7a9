-- Calls that fail only as the disk meets a fault, from a connection between two requests.
use Rattle.shop_schema.proofs.Common.{◌≡◌, ◌∙◌, ◌⊎◌, ℕ, inl, inr, refl, sym, ap, subst, arith, true, false, Bool, Ok, Err, Result, IfErr, IsErrAnd, MutBor}
use Rattle.shop_schema.proofs.Common.{Ghosts, Held, Trees, state, State, HasCleanDisk, Survives, Books, StoreFault, Memory, Size, Failed, IsHeld, Reads, IsShop}
use Rattle.sql_rows.specs.Calls.{DoesInside}
use Rattle.sql_rows.specs.Causes.{FailsAtRest, IsReady, IsReadyInside, MetFaults, FailsByFaults}
use Rattle.sql_rows.proofs.QueryFaults.{err_then}
use Rattle.sql_rows.proofs.CallFaults.{ready_or_met, met_behind, met_before}
use Rattle.shop_schema.specs.Asked.{HoldsBooks}
use Rattle.chain_requests.specs.Holding.{Chained}
use Rattle.chain_requests.specs.Chains.{Rests, IsAt}
use Rattle.chain_requests.specs.Decisions.{is_final}
use Rattle.chain_requests.specs.Wells.{RestsOnBooks, IsWell, StaysWell}
use Rattle.chain_requests.proofs.Resting.{holds_as, left_back}
use Rattle.chain_requests.proofs.Standing.{are_held}

-- ---- a fault that is passed on

pub passed_on : {Y : Type 0} {P : Type 0} (r : Result Y StoreFault) (e : StoreFault) → (e ≡ Failed → P) → IsErrAnd r (λ y. y ≡ e)
    → IfErr r (λ y. y ≡ Failed → P)
passed_on (Ok y) e met is = absurd is
passed_on (Err y) e met is = λ failed. met (sym is ∙ failed)

-- ---- a call in a transaction that is rolled back

-- a call that only reads leaves the books
pub finds_stay : {Says : Books → Type 0} (old new : State) → Reads old new Says → HoldsBooks old → HoldsBooks new
finds_stay old new said it = (it.0, (said it.0 it.1 it.2).0, it.2)

-- books on which the connection rests are there once a transaction has begun
pub books_begun : {S : Type 0} (g : Ghosts S) (old : Held S) → IsReady (state g old) → RestsOnBooks (state g old)
    → HoldsBooks (state g (record old { in_transaction = true }))
books_begun g old ready it =
    (it.0, holds_as (state g old) (state g (record old { in_transaction = true })) it.0 refl (it.1.now ready.is_open), it.2)

-- the call, and then the end of the transaction, which gives the connection back
pub fails_at_rest :
    {S X : Type 0} {g : Ghosts S} (old : Held S) {end : Held S} {tx mid : MutBor (Held S)} {r : Result X StoreFault} {Says : X → State → State → Type 0}
    {name : ℕ} (Asked Inside : State → Type 0)
    → (IsReady (state g old) → Asked (state g old) → Inside (state g (record old { in_transaction = true })))
    → DoesInside g tx mid r Says → FailsByFaults g tx mid r Inside → tx.now ≡ record old { in_transaction = true } → tx.ghost_name ≡ name
    → (back : (new : Held S) × (name ≡ mid.ghost_name → new ≡ end)) → Survives (state g mid.now) (state g end) (λ _. ⊥)
    → FailsAtRest g old back.0 r Asked
fails_at_rest {g = g} old {tx = tx} {mid = mid} {r = r} Asked Inside begins one fails is named back ending clean ready asked =
    let left : Survives (state g mid.now) (state g back.0) (λ _. ⊥) = left_back g mid.now back (one.inside.same_reference ∙ named) ending in
    let clean_mid : HasCleanDisk (state g mid.now) = omega (arith, clean, left.clean) in
    let inside = subst (λ h. FailsByFaults g (record tx { now = h }) mid r Inside) is fails in
    err_then r _ _
    (inside clean_mid (record { inside = refl; ready = record { is_open = ready.is_open; unlimited = ready.unlimited } }) (begins ready asked))
    (λ e met failed. met_before (state g old) (state g mid.now) (state g back.0) (met failed) left.counts)

-- ---- a call of a chain

-- a chain at books rests on books, and on a chain's tables
pub at_rest : {S : Type 0} (g : Ghosts S) (chain : Chained S) (books besides : Books) → IsAt g chain books besides → chain.is_failed ≡ false
    → RestsOnBooks (state g chain.conn)
at_rest g chain books besides at works = (books, at.rests works, are_held books at.sound at.values)

pub at_shop : {S : Type 0} (g : Ghosts S) (chain : Chained S) (books besides : Books) → IsAt g chain books besides → IsWell g chain
    → IsShop (state g chain.conn)
at_shop g chain books besides at well = ((at.rests well.works).now well.ready.is_open).schema_is

-- nothing is done
pub well_same : {S : Type 0} (g : Ghosts S) (chain : Chained S) → StaysWell g chain chain
well_same g chain = record { counts = omega arith; stays = λ clean books besides at well. inl well }

module _ {S : Type 0} (g : Ghosts S) (old new : Chained S) {Leaves : Trees → Type 0} (survives : Survives (state g old.conn) (state g new.conn) Leaves) where
  -- a call that was answered
  pub well_after : new.is_failed ≡ old.is_failed → StaysWell g old new
  well_after same = record {
    counts = survives.counts;
    stays = λ clean books besides at well. elim (ready_or_met (state g old.conn) (state g new.conn) survives clean well.ready) [
      | inl ready ↦ inl (record { works = same ∙ well.works; ready = ready })
      | inr met ↦ inr met
    ];
  }

  -- a call that was refused: the chain fails if the fault says so, which it does only as the disk meets one
  pub well_refused : (fault : StoreFault) → (old.is_failed ≡ false → new.is_failed ≡ is_final fault)
      → (HasCleanDisk (state g new.conn) → (books besides : Books) → IsAt g old books besides → IsWell g old → fault ≡ Failed
      → MetFaults (state g old.conn) (state g new.conn))
      → StaysWell g old new
  well_refused Memory is met = record {
    counts = survives.counts;
    stays = λ clean books besides at well. elim (ready_or_met (state g old.conn) (state g new.conn) survives clean well.ready) [
      | inl ready ↦ inl (record { works = is well.works; ready = ready })
      | inr met ↦ inr met
    ];
  }
  well_refused Size is met = record {
    counts = survives.counts;
    stays = λ clean books besides at well. elim (ready_or_met (state g old.conn) (state g new.conn) survives clean well.ready) [
      | inl ready ↦ inl (record { works = is well.works; ready = ready })
      | inr met ↦ inr met
    ];
  }
  well_refused Failed is met = record { counts = survives.counts; stays = λ clean books besides at well. inr (met clean books besides at well refl) }

-- one call after another
pub well_then : {S : Type 0} (g : Ghosts S) (old mid new : Chained S) → (HasCleanDisk (state g new.conn) → HasCleanDisk (state g mid.conn))
    → (HasCleanDisk (state g mid.conn) → (books besides : Books) → IsAt g old books besides → (after : Books) × (beside : Books) × IsAt g mid after beside)
    → StaysWell g old mid → StaysWell g mid new → StaysWell g old new
well_then g old mid new clean goes one two = record {
  counts = omega (arith, one.counts, two.counts);
  stays = λ now books besides at well. elim (one.stays (clean now) books besides at well) [
    | inl still ↦
        let after = goes (clean now) books besides at in
        elim (two.stays now after.0 after.1 after.2 still) [
          | inl last ↦ inl last
          | inr met ↦ inr (met_behind (state g old.conn) (state g mid.conn) (state g new.conn) one.counts met)
        ]
    | inr met ↦ inr (met_before (state g old.conn) (state g mid.conn) (state g new.conn) met two.counts)
  ];
}
