use Rattle.shop_store.specs.declared.terms.TheConstants.{INSERT_TERMS}
use Rattle.shop_store.proofs.Common.{refl, everything, understood, does_so, terms, PutsRow, puts_row}
use Rattle.shop_store.proofs.terms.put_terms.Goals as goal

puts : PutsRow terms INSERT_TERMS.now
unfolding understood everything
puts = puts_row terms _ (record { is = refl; plain = (refl, refl) }) (λ x. refl) (λ x. refl) (λ x id. refl)

pub returns : goal.returns
returns g c = does_so c.execute.ensures.inside c.execute.ensures.ran (λ _ ran. puts _ _ _ ran.0 (rw c.values.ensures at ran.1))
