use Rattle.shop_schema.proofs.SharedTables.{films}
use Rattle.shop_store.proofs.PutTexts.{kept_or_null}
use Rattle.shop_store.specs.declared.puts.TheConstants.{INSERT_FILM}
use Rattle.shop_store.proofs.Common.{refl, everything, understood, does_so, PutsNext, puts_next}
use Rattle.shop_store.proofs.puts.put_film.Goals as goal

puts : PutsNext films INSERT_FILM.now
unfolding understood everything
puts = puts_next films _ (record { is = refl; plain = (refl, refl) }) (λ n x. refl) (λ n x. refl) (λ n x. kept_or_null x.minutes) (λ n x id. refl)

pub returns : goal.returns
returns g c = does_so c.execute.ensures.inside c.execute.ensures.ran (λ _ ran. puts _ _ _ _ ran.0 (rw c.values.ensures at ran.1))
