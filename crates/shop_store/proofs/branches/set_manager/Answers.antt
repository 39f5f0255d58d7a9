use Rattle.shop_schema.proofs.Common.{◌&&◌, true, Some, ap, kept_or_null, owned_by, head}
use Rattle.shop_store.specs.declared.branches.TheConstants.{UPDATE_MANAGER}
use Rattle.shop_store.proofs.Common.{moment_value, number_value, [], ◌∷◌, ℕ, arith, refl, everything, understood, does_so, branches, SetsByNumber}
use Rattle.shop_store.proofs.Common.{sets_by_number}
use Rattle.shop_store.proofs.branches.set_manager.Goals as goal

sets : (manager : ℕ) (n : ℕ) → SetsByNumber branches UPDATE_MANAGER.now (6 ∷ []) (number_value manager ∷ []) (λ it. record it { manager = Some manager }) n
unfolding understood everything
sets manager n =
    sets_by_number branches _ (6 ∷ []) (number_value manager ∷ []) (λ it. record it { manager = Some manager }) n (record { is = refl; plain = (refl, refl) })
    (λ books it. refl) (λ books it. ap (λ b. b && true) (kept_or_null moment_value (λ moment. refl) (head (owned_by it.0 books.lasts))))
    (λ r. refl) (λ r. refl) (λ r. refl) (λ r. refl) (λ w row. refl)

pub returns : goal.returns
returns g c =
    does_so c.execute.ensures.inside (rw (c.to_sql.ensures, c.get.ensures.value, c.to_sql-2.ensures, c.get-2.ensures.value) at c.execute.ensures.ran)
    (λ _ ran. sets c.args.staff c.args.branch _ _ ran.0 (omega arith) ran.1)
