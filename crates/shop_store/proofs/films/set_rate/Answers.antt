use Rattle.shop_store.proofs.PutTexts.{kept_or_null}
use Rattle.shop_store.specs.declared.films.TheConstants.{UPDATE_RATE}
use Rattle.shop_store.proofs.Common.{number_value, [], ◌∷◌, ℕ, arith, refl, everything, understood, does_so, films, SetsByNumber, sets_by_number}
use Rattle.shop_store.proofs.films.set_rate.Goals as goal

sets : (rate : ℕ) (n : ℕ) → SetsByNumber films UPDATE_RATE.now (6 ∷ []) (number_value rate ∷ []) (λ it. record it { rate = rate }) n
unfolding understood everything
sets rate n =
    sets_by_number films _ (6 ∷ []) (number_value rate ∷ []) (λ it. record it { rate = rate }) n
    (record { is = refl; plain = (refl, refl) }) (λ books it. refl) (λ books it. kept_or_null it.1.minutes)
    (λ r. refl) (λ r. refl) (λ r. refl) (λ r. refl) (λ w row. refl)

pub returns : goal.returns
returns g c =
    does_so c.execute.ensures.inside
    (rw (c.to_sql.ensures, c.get.ensures.value, c.to_sql-2.ensures, c.from.ensures, c.get-2.ensures.value) at c.execute.ensures.ran)
    (λ _ ran. sets c.args.rate c.args.film _ _ ran.0 (omega arith) ran.1)
