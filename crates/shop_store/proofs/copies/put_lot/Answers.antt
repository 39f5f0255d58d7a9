use Rattle.shop_store.specs.declared.copies.TheConstants.{INSERT_LOT}
use Rattle.shop_store.proofs.Common.{refl, everything, understood, does_so, lots, PutsLast, puts_last}
use Rattle.shop_store.proofs.copies.put_lot.Goals as goal

puts : PutsLast lots INSERT_LOT.now
unfolding understood everything
puts = puts_last lots _ (record { is = refl; plain = (refl, refl) }) (λ x. refl) (λ x. refl) (λ x. refl) (λ x id. refl)

pub returns : goal.returns
returns g c =
    does_so c.execute.ensures.inside (rw (c.to_sql.ensures, c.get.ensures.value, c.to_sql-2.ensures, c.as_str.ensures.value) at c.execute.ensures.ran)
    (λ _ ran. puts _ _ (record { owner = c.args.branch; it = c.args.lot.now }) ran.0 ran.1)
