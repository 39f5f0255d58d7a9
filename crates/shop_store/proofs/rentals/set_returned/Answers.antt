use Rattle.shop_schema.proofs.Common.{Some, Moment, IsHeld}
use Rattle.shop_store.specs.declared.rentals.TheConstants.{UPDATE_RETURNED}
use Rattle.shop_store.proofs.Common.{moment_value, [], ◌∷◌, ℕ, refl, everything, understood, does_so, rentals, SetsWhere, sets_held}
use Rattle.shop_store.proofs.rentals.set_returned.Goals as goal

sets : (moment : Moment) (b n : ℕ)
    → SetsWhere rentals UPDATE_RETURNED.now (5 ∷ []) (moment_value moment ∷ []) (λ it. record it { returned = Some moment }) b n IsHeld
unfolding understood everything
sets moment b n =
    sets_held rentals _ (5 ∷ []) (moment_value moment ∷ []) (λ it. record it { returned = Some moment }) b n
    (record { is = refl; plain = (refl, refl) }) (λ row. refl)
    (λ r. refl) (λ r. refl) (λ r. refl) (λ r. refl) (λ w row. refl)

pub returns : goal.returns
returns g c = does_so c.execute.ensures.inside c.execute.ensures.ran (λ _ ran.
    sets c.args.moment c.args.branch c.args.number _ _ ran.0
    (rw (c.to_sql.ensures, c.get.ensures.value, c.to_sql-2.ensures, c.get-2.ensures.value, c.to_sql-3.ensures, c.as_str.ensures, c.of-returned.ensures)
    at ran.1))
