use Rattle.shop_schema.proofs.SharedTables.{countries}
use Rattle.shop_store.specs.declared.puts.TheConstants.{INSERT_COUNTRY}
use Rattle.shop_store.proofs.Common.{refl, everything, understood, does_so, PutsNext, puts_next}
use Rattle.shop_store.proofs.puts.put_country.Goals as goal

puts : PutsNext countries INSERT_COUNTRY.now
unfolding understood everything
puts = puts_next countries _ (record { is = refl; plain = (refl, refl) }) (λ n x. refl) (λ n x. refl) (λ n x. refl) (λ n x id. refl)

pub returns : goal.returns
returns g c =
    does_so c.execute.ensures.inside c.execute.ensures.ran
    (λ _ ran. puts _ _ c.args.number c.args.name.now ran.0 (rw (c.to_sql.ensures, c.get.ensures.value, c.to_sql-2.ensures) at ran.1))
