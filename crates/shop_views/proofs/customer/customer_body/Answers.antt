use Rattle.shop_types.proofs.Common.{◌∙◌, [], ◌∷◌, codes, decimal, IfOk-weaker, flag_text, quoted, object}
use Rattle.shop_views.proofs.customer.customer_body.Goals as goal

pub returns : goal.returns
returns c =
    IfOk-weaker c.object_text.result _ _
    (λ s is made. is ∙ (λ i. object (
    (codes "active", flag_text c.args.customer.now.active)
    ∷ (codes "address", quoted (c.as_str.ensures.value i))
    ∷ (codes "city", decimal (c.get.ensures.value i))
    ∷ (codes "created", quoted (made i))
    ∷ (codes "customer", decimal (c.get-2.ensures.value i))
    ∷ (codes "first", quoted (c.as_str-2.ensures.value i))
    ∷ (codes "last", quoted (c.as_str-3.ensures.value i))
    ∷ (codes "phone", quoted (c.as_str-4.ensures.value i))
    ∷ (codes "postal", quoted (c.as_str-5.ensures.value i))
    ∷ [])))
    c.object_text.ensures
