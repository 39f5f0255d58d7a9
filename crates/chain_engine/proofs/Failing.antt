-- A chain that has failed stays as it is, and a look at one that hasn't may be refused by the store.
use Rattle.shop_schema.proofs.Common.{◌≡◌, ◌∙◌, Bool, true, false, inl, inr, refl, sym, ap, subst, Result, Ok, Err, cases_Bool, Ghosts, Held, state}
use Rattle.shop_schema.proofs.Common.{State, Trees, Books, HasCleanDisk, Survives, StoreFault}
use Rattle.shop_schema.proofs.Common.{Memory, Size, Failed, problem_answer, is_store_failure, memory_failure, size_failure}
use Rattle.shop_schema.proofs.Common.{failed_failure, seen_refusal}
use Rattle.std.specs.Prelude.{◌||◌}
use Rattle.shop_types.specs.declared.refusal.Refusal.TheVariants.{StoreFailed}
use Rattle.chain_requests.specs.Holding.{Chained, holding}
use Rattle.sql_rows.specs.Causes.{IsReady, MetFaults}
use Rattle.chain_caches.specs.Films.{KnownFilms}
use Rattle.chain_requests.specs.Chains.{Takes, IsAt}
use Rattle.chain_requests.specs.Wells.{IsWell, StaysWell}
use Rattle.chain_requests.proofs.Wells.{well_refused}
use Rattle.chain_requests.specs.Steps.{IsUndone}
use Rattle.chain_requests.specs.Decisions.{IsStoreRefusal, refusal_for, is_final}
use Rattle.chain_requests.proofs.Requests.{kept}
use Rattle.chain_requests.proofs.Taking.{takes_still}
use Rattle.chain_engine.specs.Leaving.{LeavesNoMore}

-- if a look succeeds, the chain hasn't failed
pub is_live : {P : Type 0} {A E : Type 0} (was : Bool) (told : A) (fault : E) → (was ≡ true → P × (Ok told ≡ Err fault)) → was ≡ false
is_live was told fault failed = elim (cases_Bool was) [
  | inl is ↦ let no : Ok told ≡ Err fault = (failed is).1 in cc
  | inr live ↦ live
]

-- equal chains have failed or not alike
pub same_failed : {S : Type 0} {old self : Chained S} → old ≡ self → old.is_failed ≡ self.is_failed
same_failed {S} = ap (λ (x : Chained S). x.is_failed)

-- if a chain has failed and its connection is as before, a further fault leaves the chain as it was
pub stays_failed : {S : Type 0} (old : Chained S) (conn : Held S) (fault : StoreFault) → old.is_failed ≡ true → conn ≡ old.conn
    → record { limits = old.limits; is_failed = old.is_failed || is_final fault; films = old.films; callers = old.callers; conn = conn } ≡ old
stays_failed {S} old conn fault was same =
    let still : old.is_failed ≡ (old.is_failed || is_final fault) = was ∙ sym (rw was refl) in
    let first : old ≡ record { limits = old.limits; is_failed = old.is_failed || is_final fault; films = old.films; callers = old.callers; conn = old.conn } =
    subst (λ (b : Bool). old ≡ record { limits = old.limits; is_failed = b; films = old.films; callers = old.callers; conn = old.conn }) still refl in
    subst
    (λ (h : Held S). record { limits = old.limits; is_failed = old.is_failed || is_final fault; films = old.films; callers = old.callers; conn = h } ≡ old)
    (sym same) (sym first)

was_none : (b : Bool) → (b ≡ true → ⊥) → (b || false) ≡ false
was_none true isnt = absurd (isnt refl)
was_none false isnt = refl

is_either : (b : Bool) → (b || true) ≡ true
is_either true = refl
is_either false = refl

-- after a fault, a chain has failed exactly if the reply for this fault is the store's failure
pub fails_by : (was : Bool) (fault : StoreFault) → (was ≡ true → fault ≡ Failed)
    → (was || is_final fault) ≡ is_store_failure (problem_answer (seen_refusal (refusal_for fault)))
fails_by was Memory only = was_none was (λ is. let no : Memory ≡ Failed = only is in cc) ∙ sym memory_failure
fails_by was Size only = was_none was (λ is. let no : Size ≡ Failed = only is in cc) ∙ sym size_failure
fails_by was Failed only = is_either was ∙ sym failed_failure

-- a chain that has failed answers each request with the store's failure
refuses_failed : {S : Type 0} (g : Ghosts S) (chain : Chained S) → chain.is_failed ≡ true → Takes g chain chain (IsStoreRefusal StoreFailed)
refuses_failed g chain was =
    takes_still
    (λ books besides. inr (refl, subst (λ (b : Bool). holding chain books besides ≡ record (holding chain books besides) { is_failed = b }) was refl))

-- after a call that commits nothing, a crash finds no database that it couldn't have found before the call
pub leaves_no_more : {S : Type 0} (g : Ghosts S) (old self : Chained S) (conn new : Held S)
    → old ≡ self → Survives (state g old.conn) (state g conn) (λ _. ⊥) → new ≡ conn
    → LeavesNoMore (state g self.conn) (state g new)
leaves_no_more {S} g old self conn new is survives same = subst (λ (x : Chained S). LeavesNoMore (state g x.conn) (state g new)) is (λ clean db may.
    let moved : Survives (state g old.conn) (state g new) (λ _. ⊥) =
    subst (λ (h : Held S). Survives (state g old.conn) (state g h) (λ _. ⊥)) (sym same) survives in
    elim (moved.crash clean db may) [ inl before ↦ before | inr none ↦ absurd none ])

abbrev refusing : (A : Type 0) → StoreFault → Result A StoreFault
refusing A fault = Err fault

-- The store refuses a look, of a chain that had failed or of one that hadn't: what such a look leaves, and what it answers.
module _ {S A : Type 0} (g : Ghosts S) (old self new : Chained S) (conn : Held S) (fault : StoreFault) (is : old ≡ self)
    (told : new ≡ record { limits = old.limits; is_failed = old.is_failed || is_final fault; films = old.films; callers = old.callers; conn = conn })
    (refused : old.is_failed ≡ true → (conn ≡ old.conn) × (refusing A fault ≡ refusing A Failed)) where
  failed : old.is_failed ≡ true → (conn ≡ old.conn) × (fault ≡ Failed)
  failed was = let it = refused was in let final : fault ≡ Failed = cc in (it.0, final)

  old_refused : old.is_failed ≡ true → (new ≡ old) × (refusal_for fault ≡ StoreFailed)
  old_refused was = let it = failed was in (told ∙ stays_failed old conn fault was it.0, ap refusal_for it.1)

  pub stays_refused : self.is_failed ≡ true → (new ≡ self) × (refusal_for fault ≡ StoreFailed)
  stays_refused was = let it = old_refused (same_failed is ∙ was) in (it.0 ∙ is, it.1)

  pub refused_fails : new.is_failed ≡ is_store_failure (problem_answer (seen_refusal (refusal_for fault)))
  refused_fails = same_failed told ∙ fails_by old.is_failed fault (λ was. (failed was).1)

  pub look_refused : (HasCleanDisk (state g conn) → HasCleanDisk (state g old.conn))
      → (HasCleanDisk (state g conn) → IsUndone (state g old.conn) (state g conn))
      → Takes g self new (IsStoreRefusal (refusal_for fault))
  look_refused clean same = subst (λ (x : Chained S). Takes g x new (IsStoreRefusal (refusal_for fault))) is (elim (cases_Bool old.is_failed) [
    | inl was ↦
        let it = old_refused was in
        let first : Takes g old old (IsStoreRefusal (refusal_for fault)) = rw it.1 (refuses_failed g old was) in
        subst (λ (x : Chained S). Takes g old x (IsStoreRefusal (refusal_for fault))) (sym it.0) first
    | inr live ↦
        let next : Chained S = record { limits = old.limits; is_failed = is_final fault; films = old.films; callers = old.callers; conn = conn } in
        let so : next ≡ new = sym (rw live at told) in
        subst (λ (x : Chained S). Takes g old x (IsStoreRefusal (refusal_for fault))) so
        (kept g old next refl refl live fault (IsStoreRefusal (refusal_for fault)) (λ films are. are) refl clean same (λ before after refused. refused))
  ])

  pub refused_leaves : Survives (state g old.conn) (state g conn) (λ _. ⊥) → LeavesNoMore (state g self.conn) (state g new.conn)
  refused_leaves survives = leaves_no_more g old self conn new.conn is survives (ap (λ (x : Chained S). x.conn) told)

-- A look that the store refused: the chain stays well, or the disk met a fault in the look.
module _ {S : Type 0} (g : Ghosts S) (old self new : Chained S) (films : KnownFilms) (conn : Held S) (fault : StoreFault) (is : old ≡ self)
    (told : new ≡ record { limits = old.limits; is_failed = old.is_failed || is_final fault; films = films; callers = old.callers; conn = conn }) where
  pub refused_well : (Asked : State → Type 0) {Leaves : Trees → Type 0} → Survives (state g old.conn) (state g conn) Leaves
      → ((books besides : Books) → IsAt g old books besides → IsWell g old → Asked (state g old.conn))
      → (old.is_failed ≡ false → HasCleanDisk (state g conn) → IsReady (state g old.conn) → Asked (state g old.conn) → fault ≡ Failed
      → MetFaults (state g old.conn) (state g conn))
      → StaysWell g self new
  refused_well Asked survives asks met =
      let next : Chained S = record { limits = old.limits; is_failed = old.is_failed || is_final fault; films = films; callers = old.callers; conn = conn } in
      let first : StaysWell g old next =
      well_refused g old next survives fault (λ works. rw works refl)
      (λ clean books besides at well failed. met well.works clean well.ready (asks books besides at well) failed) in
      subst (λ (x : Chained S). StaysWell g self x) (sym told) (subst (λ (x : Chained S). StaysWell g x next) is first)
