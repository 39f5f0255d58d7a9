use Rattle.shop_store.specs.declared.rows.TheConstants.{SELECT_CATEGORY}
use Rattle.shop_store.proofs.Common.{[], ◌∷◌, arith, refl, everything, understood, col, column, categories, ReadsWhether, reads_whether, tells}
use Rattle.shop_store.proofs.rows.has_category.Goals as goal

reads : ReadsWhether categories SELECT_CATEGORY.now
unfolding understood everything
reads =
    reads_whether categories _ (col 1 1 ∷ []) (record { names = _; is = refl; plain = (refl, refl); unlisted = refl }) (λ vs. column vs 0 ∷ []) (λ m r. refl)

pub returns : goal.returns
returns g c =
    tells _ _ (rw (c.to_sql.ensures, c.get.ensures.value) at c.shows_row.ensures.does) (λ rows shown. reads _ _ c.args.category rows shown (omega arith))
