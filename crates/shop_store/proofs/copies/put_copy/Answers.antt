use Rattle.shop_store.specs.declared.copies.TheConstants.{INSERT_COPY}
use Rattle.shop_store.proofs.Common.{refl, everything, understood, does_so, copies, PutsRow, puts_row}
use Rattle.shop_store.proofs.copies.put_copy.Goals as goal

puts : PutsRow copies INSERT_COPY.now
unfolding understood everything
puts = puts_row copies _ (record { is = refl; plain = (refl, refl) }) (λ x. refl) (λ x. refl) (λ x id. refl)

pub returns : goal.returns
returns g c = does_so c.execute.ensures.inside (rw c.values.ensures at c.execute.ensures.ran) (λ _ ran. puts _ _ _ ran.0 ran.1)
