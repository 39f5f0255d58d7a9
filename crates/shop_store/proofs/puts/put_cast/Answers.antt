use Rattle.shop_schema.proofs.SharedTables.{casts}
use Rattle.shop_store.specs.declared.puts.TheConstants.{INSERT_CAST}
use Rattle.shop_store.proofs.Common.{refl, everything, understood, does_so, PutsLast, puts_last}
use Rattle.shop_store.proofs.puts.put_cast.Goals as goal

puts : PutsLast casts INSERT_CAST.now
unfolding understood everything
puts = puts_last casts _ (record { is = refl; plain = (refl, refl) }) (λ x. refl) (λ x. refl) (λ x. refl) (λ x id. refl)

pub returns : goal.returns
returns g c =
    does_so c.execute.ensures.inside c.execute.ensures.ran (λ _ ran.
    puts _ _ (record { film = c.args.film; actor = c.args.actor }) ran.0
    (rw (c.to_sql.ensures, c.get.ensures.value, c.to_sql-2.ensures, c.get-2.ensures.value) at ran.1))
