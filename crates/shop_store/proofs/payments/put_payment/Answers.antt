use Rattle.shop_store.specs.declared.payments.TheConstants.{INSERT_PAYMENT}
use Rattle.shop_store.proofs.Common.{refl, everything, understood, does_so, payments, PutsRow, puts_row}
use Rattle.shop_store.proofs.payments.put_payment.Goals as goal

puts : PutsRow payments INSERT_PAYMENT.now
unfolding understood everything
puts = puts_row payments _ (record { is = refl; plain = (refl, refl) }) (λ x. refl) (λ x. refl) (λ x id. refl)

pub returns : goal.returns
returns g c = does_so c.execute.ensures.inside c.execute.ensures.ran (λ _ ran. puts _ _ _ ran.0 (rw c.values.ensures at ran.1))
