use Rattle.shop_types.proofs.Common.{◌≡◌, ◌∙◌, ℕ, List, Contains, sym, ap, subst, Contains-get_or}
use Rattle.shop_types.specs.declared.request.Caller.{Caller as Known}
use Rattle.shop_types.specs.declared.request.Caller.TheVariants as known
use Rattle.chain_caches.proofs.CallerSteps.{branch_there}
use Rattle.chain_caches.proofs.callers.CallerCache.has_branch.Goals as goal

pub returns-then-get : goal.returns-then-get
returns-then-get c = λ catalogue callers _.
    let b = c.args.branch in
    let it = c.loop-caller-item.result in
    let items = c.deref-caller-items.result.now in
    let are : items ≡ c.args.self.now = c.deref-caller-items.ensures.value ∙ c.self.view_is in
    let in_items : Contains items it =
    subst (Contains items) (sym c.loop-caller-item.is) (Contains-get_or items c.loop-caller.caller-index it c.loop-caller-test.true) in
    let same : c.in-Branch.known ≡ b = sym c.get.ensures.value ∙ c.if-get.true ∙ c.get-in-Branch.ensures.value in
    let is : it ≡ (it.0, known.Branch b) = ap (λ (who : Known). (it.0, who)) (c.in-Branch.is ∙ ap known.Branch same) in
    branch_there c.args.self.now it.0 b catalogue callers
    (subst (Contains c.args.self.now) is (subst (λ (es : List (List ℕ × Known)). Contains es it) are in_items))
