use Rattle.shop_schema.proofs.Common.{◌≤◌, ℕ, sym, same_flag, rules, State, number_value, Selects, IsFilm, shop_schema, StoreFault, Failed}
use Rattle.sqlite_value.specs.Order as sql
use Rattle.sql_rows.specs.Causes.{IsReadyInside, MetFaults, FailsToRead}
use Rattle.sql_rows.proofs.QueryFaults.{err_then}
use Rattle.shop_schema.specs.Asked.{HoldsBooks, ShowsFlag}
use Rattle.shop_store.specs.SharedSeen.{withdrawn_of}
use Rattle.shop_store.specs.declared.films.TheConstants.{SELECT_WITHDRAWN}
use Rattle.shop_store.proofs.Common.{◌≡◌, [], ◌∷◌, arith, refl, everything, understood, col, column, flag_value, does_first, films, ReadsFirst, reads_first}
use Rattle.shop_store.proofs.SharedReads.{asked}
use Rattle.shop_store.proofs.FindFaults.{shared_met}
use Rattle.shop_store.proofs.films.film_withdrawn.Goals as goal

means : Selects shop_schema SELECT_WITHDRAWN.now (asked films SELECT_WITHDRAWN.now (col 1 12 ∷ []))
unfolding understood everything
means = record { names = _; is = refl; plain = (refl, refl); unlisted = refl }

reads : ReadsFirst films SELECT_WITHDRAWN.now withdrawn_of (λ row v. column row 0 ≡ flag_value v)
unfolding understood everything
reads old new n rows slice h low =
    reads_first films SELECT_WITHDRAWN.now (col 1 12 ∷ []) means
    (λ vs. column vs 11 ∷ []) (λ m r. refl) old new n rows h low
    withdrawn_of (λ row v. column row 0 ≡ flag_value v) (λ books x v is. same_flag v x.withdrawn (sym is)) slice

met : {Fails : sql.Row → StoreFault → Type 0} (old new : State) (n : ℕ) → 1 ≤ n
    → ((row : sql.Row) (fault : StoreFault) → Fails row fault → fault ≡ Failed → ¬ ShowsFlag row) → IsReadyInside old → HoldsBooks old
    → (fault : StoreFault) → FailsToRead Fails SELECT_WITHDRAWN.now (number_value n ∷ []) old new fault → fault ≡ Failed → MetFaults old new
unfolding understood everything
met old new n low =
    shared_met films SELECT_WITHDRAWN.now (col 1 12 ∷ []) means (λ vs. column vs 11 ∷ []) (λ m r. refl) (refl, refl, refl) (λ m. refl)
    IsFilm (λ books held. held.values.catalogue.films.1) ShowsFlag old new n low (λ books x fits. (x.withdrawn, refl))

pub returns-clause-does : goal.returns-clause-does
returns-clause-does g c =
    does_first _ _ c.query_first.ensures.inside (rw (c.to_sql.ensures, c.get.ensures.value) at c.query_first.ensures.shown)
    (λ rows these.
    let read = reads _ _ c.args.film rows rows these (omega arith) refl in
    (read.0, λ row it some says. read.1 row it some (search rules)))

pub returns-clause-fails : goal.returns-clause-fails
returns-clause-fails g c clean ready holds =
    err_then c.query_first.result _ _ (rw (c.to_sql.ensures, c.get.ensures.value) at (c.query_first.ensures.told clean))
    (met _ _ c.args.film (omega arith) (λ row fault says failed. search rules) ready holds)
