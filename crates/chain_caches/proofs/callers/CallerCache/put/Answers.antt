use Rattle.shop_types.proofs.Common.{◌≡◌, false, inl, inr, sym, subst, refl, seen_caller}
use Rattle.shop_model.specs.Resends.{is_nobody}
use Rattle.chain_caches.specs.Callers.{AreCallers, KnownCallers}
use Rattle.chain_caches.proofs.CallerSteps.{one_more}
use Rattle.chain_caches.proofs.callers.CallerCache.put.Goals as goal

pub returns-in-Office : goal.returns-in-Office
returns-in-Office c = λ catalogue known is.
    let somebody : is_nobody (seen_caller c.args.caller.now) ≡ false = elim c.in-Office.is [ inl office ↦ rw office refl | inr branch ↦ rw branch.1 refl ] in
    elim c.keep.ensures [
      | inl same ↦ subst (λ (es : KnownCallers). AreCallers es catalogue) (sym same) known
      | inr more ↦
          subst (λ (es : KnownCallers). AreCallers es catalogue) (sym more)
          (one_more c.args.self.now c.args.token.now c.args.caller.now catalogue known (is, somebody))
    ]
