use Rattle.shop_store.specs.declared.rows.TheConstants.{SELECT_LANGUAGE}
use Rattle.shop_store.proofs.Common.{[], ◌∷◌, arith, refl, everything, understood, col, column, languages, ReadsWhether, reads_whether, tells}
use Rattle.shop_store.proofs.rows.has_language.Goals as goal

reads : ReadsWhether languages SELECT_LANGUAGE.now
unfolding understood everything
reads = reads_whether languages _ (col 1 1 ∷ []) (record { names = _; is = refl; plain = (refl, refl); unlisted = refl }) (λ vs. column vs 0 ∷ []) (λ m r. refl)

pub returns : goal.returns
returns g c =
    tells _ _ (rw (c.to_sql.ensures, c.get.ensures.value) at c.shows_row.ensures.does) (λ rows shown. reads _ _ c.args.language rows shown (omega arith))
