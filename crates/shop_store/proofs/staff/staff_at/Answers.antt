use Rattle.shop_schema.proofs.Common.{◌≤◌, ℕ, sym, same_flag, same_number, rules, State, Selects, IsStaff, shop_schema, StoreFault, Failed}
use Rattle.sqlite_value.specs.Order as sql
use Rattle.sql_rows.specs.Causes.{IsReadyInside, MetFaults, FailsToRead}
use Rattle.sql_rows.proofs.QueryFaults.{err_then}
use Rattle.shop_schema.specs.Asked.{HoldsBooks}
use Rattle.shop_store.specs.Asked.{ShowsPost}
use Rattle.shop_types.specs.Verdicts.{post_of}
use Rattle.shop_store.specs.declared.staff.TheConstants.{SELECT_POST}
use Rattle.shop_store.proofs.Common.{◌≡◌, [], ◌∷◌, arith, refl, everything, understood, col, column, number_value, flag_value, does_first, staff, ReadsFirst}
use Rattle.shop_store.proofs.Common.{reads_first}
use Rattle.shop_store.proofs.SharedReads.{asked}
use Rattle.shop_store.proofs.FindFaults.{shared_met}
use Rattle.shop_store.proofs.staff.staff_at.Goals as goal

means : Selects shop_schema SELECT_POST.now (asked staff SELECT_POST.now (col 1 2 ∷ col 1 9 ∷ []))
unfolding understood everything
means = record { names = _; is = refl; plain = (refl, refl); unlisted = refl }

reads : ReadsFirst staff SELECT_POST.now post_of (λ row v. (column row 0 ≡ number_value v.0) × (column row 1 ≡ flag_value v.1))
unfolding understood everything
reads old new n rows slice h low =
    reads_first staff SELECT_POST.now (col 1 2 ∷ col 1 9 ∷ []) means
    (λ vs. column vs 1 ∷ column vs 8 ∷ []) (λ m r. refl) old new n rows h low
    post_of (λ row v. (column row 0 ≡ number_value v.0) × (column row 1 ≡ flag_value v.1))
    (λ books x v is. let place = sym (same_number x.branch v.0 is.0) in let left = same_flag v.1 x.gone (sym is.1) in (λ i. (place i, left i))) slice

met : {Fails : sql.Row → StoreFault → Type 0} (old new : State) (n : ℕ) → 1 ≤ n
    → ((row : sql.Row) (fault : StoreFault) → Fails row fault → fault ≡ Failed → ¬ ShowsPost row) → IsReadyInside old → HoldsBooks old
    → (fault : StoreFault) → FailsToRead Fails SELECT_POST.now (number_value n ∷ []) old new fault → fault ≡ Failed → MetFaults old new
unfolding understood everything
met old new n low =
    shared_met staff SELECT_POST.now (col 1 2 ∷ col 1 9 ∷ []) means (λ vs. column vs 1 ∷ column vs 8 ∷ []) (λ m r. refl) (refl, refl, refl) (λ m. refl)
    IsStaff (λ books held. held.values.catalogue.staff.1) ShowsPost old new n low (λ books x fits. (x.branch, x.gone, fits.0, refl))

pub returns-clause-does : goal.returns-clause-does
returns-clause-does g c =
    does_first _ _ c.query_first.ensures.inside (rw (c.to_sql.ensures, c.get.ensures.value) at c.query_first.ensures.shown)
    (λ rows these.
    let read = reads _ _ c.args.staff rows rows these (omega arith) refl in
    (read.0, λ row it some says. read.1 row (it.branch, it.gone) some (search rules)))

pub returns-clause-fails : goal.returns-clause-fails
returns-clause-fails g c clean ready holds =
    err_then c.query_first.result _ _ (rw (c.to_sql.ensures, c.get.ensures.value) at (c.query_first.ensures.told clean))
    (met _ _ c.args.staff (omega arith) (λ row fault says failed. search rules) ready holds)
