use Rattle.shop_store.specs.declared.rows.TheConstants.{SELECT_CITY}
use Rattle.shop_store.proofs.Common.{[], ◌∷◌, arith, refl, everything, understood, col, column, cities, ReadsWhether, reads_whether, tells}
use Rattle.shop_store.proofs.rows.has_city.Goals as goal

reads : ReadsWhether cities SELECT_CITY.now
unfolding understood everything
reads = reads_whether cities _ (col 1 1 ∷ []) (record { names = _; is = refl; plain = (refl, refl); unlisted = refl }) (λ vs. column vs 0 ∷ []) (λ m r. refl)

pub returns : goal.returns
returns g c = tells _ _ (rw (c.to_sql.ensures, c.get.ensures.value) at c.shows_row.ensures.does) (λ rows shown. reads _ _ c.args.city rows shown (omega arith))
