use Rattle.shop_store.specs.declared.rows.TheConstants.{SELECT_COUNTRY}
use Rattle.shop_store.proofs.Common.{[], ◌∷◌, arith, refl, everything, understood, col, column, countries, ReadsWhether, reads_whether, tells}
use Rattle.shop_store.proofs.rows.has_country.Goals as goal

reads : ReadsWhether countries SELECT_COUNTRY.now
unfolding understood everything
reads = reads_whether countries _ (col 1 1 ∷ []) (record { names = _; is = refl; plain = (refl, refl); unlisted = refl }) (λ vs. column vs 0 ∷ []) (λ m r. refl)

pub returns : goal.returns
returns g c =
    tells _ _ (rw (c.to_sql.ensures, c.get.ensures.value) at c.shows_row.ensures.does) (λ rows shown. reads _ _ c.args.country rows shown (omega arith))
