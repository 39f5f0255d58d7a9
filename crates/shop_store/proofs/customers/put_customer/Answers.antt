use Rattle.shop_store.specs.declared.customers.TheConstants.{INSERT_CUSTOMER}
use Rattle.shop_store.proofs.Common.{refl, everything, understood, does_so, customers, PutsRow, puts_row}
use Rattle.shop_store.proofs.customers.put_customer.Goals as goal

puts : PutsRow customers INSERT_CUSTOMER.now
unfolding understood everything
puts = puts_row customers _ (record { is = refl; plain = (refl, refl) }) (λ x. refl) (λ x. refl) (λ x id. refl)

pub returns : goal.returns
returns g c = does_so c.execute.ensures.inside (rw c.values.ensures at c.execute.ensures.ran) (λ _ ran. puts _ _ _ ran.0 ran.1)
