use Rattle.shop_types.proofs.Common.{◌∙◌, ap, bytes_eq, Text, seen_branch, seen_staff}
use Rattle.catalogue_core.proofs.decision.act_refusal.Goals as goal

pub returns-in-Price : goal.returns-in-Price
returns-in-Price c = λ catalogue office shares.
    let found = rw c.in-Price.is at shares in
    rw c.in-Price.is (c.price_refusal.ensures catalogue c.in-Price.film c.in-Price.rate found)

pub returns-in-Branch : goal.returns-in-Branch
returns-in-Branch c = λ catalogue office shares.
    let found = rw c.in-Branch.is at shares in
    let token = c.in-Branch.branch.token in
    rw c.in-Branch.is
    (c.branch_refusal.ensures catalogue (seen_branch c.in-Branch.branch) (c.eq.ensures ∙ ap (λ (it : Text). bytes_eq token it) office) found.token found.city)

pub returns-in-Staff : goal.returns-in-Staff
returns-in-Staff c = λ catalogue office shares.
    let found = rw c.in-Staff.is at shares in
    rw c.in-Staff.is (c.staff_refusal.ensures catalogue (seen_staff c.in-Staff.field-0) found.branch found.city)
