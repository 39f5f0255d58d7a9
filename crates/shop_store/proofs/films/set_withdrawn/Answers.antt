use Rattle.shop_store.proofs.PutTexts.{kept_or_null}
use Rattle.shop_store.specs.declared.films.TheConstants.{UPDATE_WITHDRAWN}
use Rattle.shop_store.proofs.Common.{true, flag_value, [], ◌∷◌, ℕ, arith, refl, everything, understood, does_so, films, SetsByNumber, sets_by_number}
use Rattle.shop_store.proofs.films.set_withdrawn.Goals as goal

sets : (n : ℕ) → SetsByNumber films UPDATE_WITHDRAWN.now (11 ∷ []) (flag_value true ∷ []) (λ it. record it { withdrawn = true }) n
unfolding understood everything
sets n =
    sets_by_number films _ (11 ∷ []) (flag_value true ∷ []) (λ it. record it { withdrawn = true }) n
    (record { is = refl; plain = (refl, refl) }) (λ books it. refl) (λ books it. kept_or_null it.1.minutes)
    (λ r. refl) (λ r. refl) (λ r. refl) (λ r. refl) (λ w row. refl)

pub returns : goal.returns
returns g c =
    does_so c.execute.ensures.inside (rw (c.to_sql.ensures, c.get.ensures.value, c.to_sql-2.ensures) at c.execute.ensures.ran)
    (λ _ ran. sets c.args.film _ _ ran.0 (omega arith) ran.1)
