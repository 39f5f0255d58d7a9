use Rattle.shop_store.specs.declared.rows.TheConstants.{SELECT_ACTOR}
use Rattle.shop_store.proofs.Common.{[], ◌∷◌, arith, refl, everything, understood, col, column, actors, ReadsWhether, reads_whether, tells}
use Rattle.shop_store.proofs.rows.has_actor.Goals as goal

reads : ReadsWhether actors SELECT_ACTOR.now
unfolding understood everything
reads = reads_whether actors _ (col 1 1 ∷ []) (record { names = _; is = refl; plain = (refl, refl); unlisted = refl }) (λ vs. column vs 0 ∷ []) (λ m r. refl)

pub returns : goal.returns
returns g c = tells _ _ (rw (c.to_sql.ensures, c.get.ensures.value) at c.shows_row.ensures.does) (λ rows shown. reads _ _ c.args.actor rows shown (omega arith))
