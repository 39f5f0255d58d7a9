use Rattle.shop_store.specs.declared.rows.TheConstants.{SELECT_COUNTRY_NAMED}
use Rattle.shop_store.proofs.Common.{refl, everything, understood, countries, ReadsName, reads_name, tells}
use Rattle.shop_store.proofs.rows.is_country.Goals as goal

reads : ReadsName countries SELECT_COUNTRY_NAMED.now
unfolding understood everything
reads = reads_name countries _ (record { names = _; is = refl; plain = (refl, refl); unlisted = refl }) (λ books it. refl) (λ n r. refl)

pub returns : goal.returns
returns g c = tells _ _ (rw c.to_sql.ensures at c.shows_row.ensures.does) (reads _ _ c.args.name.now)
