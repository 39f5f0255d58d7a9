use Rattle.shop_store.specs.declared.staff.TheConstants.{UPDATE_GONE}
use Rattle.shop_store.proofs.Common.{true, flag_value, [], ◌∷◌, ℕ, arith, refl, everything, understood, does_so, staff, SetsByNumber, sets_by_number}
use Rattle.shop_store.proofs.staff.set_gone.Goals as goal

sets : (n : ℕ) → SetsByNumber staff UPDATE_GONE.now (8 ∷ []) (flag_value true ∷ []) (λ it. record it { gone = true }) n
unfolding understood everything
sets n =
    sets_by_number staff _ (8 ∷ []) (flag_value true ∷ []) (λ it. record it { gone = true }) n
    (record { is = refl; plain = (refl, refl) }) (λ books it. refl) (λ books it. refl)
    (λ r. refl) (λ r. refl) (λ r. refl) (λ r. refl) (λ w row. refl)

pub returns : goal.returns
returns g c =
    does_so c.execute.ensures.inside c.execute.ensures.ran
    (λ _ ran. sets c.args.staff _ _ ran.0 (omega arith) (rw (c.to_sql.ensures, c.get.ensures.value, c.to_sql-2.ensures) at ran.1))
