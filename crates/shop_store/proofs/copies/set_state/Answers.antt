use Rattle.shop_schema.proofs.Common.{CopyState, PicksOne, put_state, is_row, seen_state}
use Rattle.shop_store.specs.declared.copies.TheConstants.{UPDATE_STATE}
use Rattle.shop_store.proofs.Common.{state_value, [], ◌∷◌, ℕ, refl, everything, understood, does_so, copies, SetsWhere, sets_one}
use Rattle.shop_store.proofs.copies.set_state.Goals as goal

sets : (to : CopyState) (b n : ℕ)
    → SetsWhere copies UPDATE_STATE.now (3 ∷ []) (state_value to ∷ []) (put_state to) b n (λ books. PicksOne (is_row b n) books.copies)
unfolding understood everything
sets to b n =
    sets_one copies _ (3 ∷ []) (state_value to ∷ []) (put_state to) b n (record { is = refl; plain = (refl, refl) }) (λ row. refl)
    (λ r. refl) (λ r. refl) (λ r. refl) (λ r. refl) (λ w row. refl)

pub returns : goal.returns
returns g c =
    does_so c.execute.ensures.inside
    (rw (c.to_sql.ensures, c.get.ensures.value, c.to_sql-2.ensures, c.get-2.ensures.value, c.to_sql-3.ensures, c.state_code.ensures) at c.execute.ensures.ran)
    (λ _ ran. sets (seen_state c.args.new) c.args.branch c.args.number _ _ ran.0 ran.1)
