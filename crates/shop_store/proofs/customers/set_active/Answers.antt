use Rattle.shop_schema.proofs.Common.{IsHeld}
use Rattle.shop_store.specs.declared.customers.TheConstants.{UPDATE_ACTIVE}
use Rattle.shop_store.proofs.Common.{Bool, flag_value, [], ◌∷◌, ℕ, refl, everything, understood, does_so, customers, SetsWhere, sets_held}
use Rattle.shop_store.proofs.customers.set_active.Goals as goal

sets : (active : Bool) (b n : ℕ) → SetsWhere customers UPDATE_ACTIVE.now (8 ∷ []) (flag_value active ∷ []) (λ it. record it { active = active }) b n IsHeld
unfolding understood everything
sets active b n =
    sets_held customers _ (8 ∷ []) (flag_value active ∷ []) (λ it. record it { active = active }) b n (record { is = refl; plain = (refl, refl) }) (λ row. refl)
    (λ r. refl) (λ r. refl) (λ r. refl) (λ r. refl) (λ w row. refl)

pub returns : goal.returns
returns g c =
    does_so c.execute.ensures.inside
    (rw (c.to_sql.ensures, c.get.ensures.value, c.to_sql-2.ensures, c.get-2.ensures.value, c.to_sql-3.ensures) at c.execute.ensures.ran)
    (λ _ ran. sets c.args.active c.args.branch c.args.number _ _ ran.0 ran.1)
