use Rattle.shop_store.specs.declared.rentals.TheConstants.{INSERT_RENTAL}
use Rattle.shop_store.specs.Seen.{opened_row}
use Rattle.shop_store.proofs.Common.{refl, everything, understood, does_so, rentals, PutsRow, puts_row}
use Rattle.shop_store.proofs.rentals.put_rental.Goals as goal

puts : PutsRow rentals INSERT_RENTAL.now
unfolding understood everything
puts = puts_row rentals _ (record { is = refl; plain = (refl, refl) }) (λ x. refl) (λ x. refl) (λ x id. refl)

pub returns : goal.returns
returns g c = does_so c.execute.ensures.inside c.execute.ensures.ran (λ _ ran. puts _ _ (opened_row c.args.row.now) ran.0 (rw c.values.ensures at ran.1))
