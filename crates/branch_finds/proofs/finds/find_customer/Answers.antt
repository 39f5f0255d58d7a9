use Rattle.shop_schema.proofs.Common.{within_none, within_of}
use Rattle.branch_finds.proofs.finds.find_customer.Goals as goal

pub returns-in-Some : goal.returns-in-Some
returns-in-Some g c = rw c.in-Some.is (record { inside = within_of c.active_at.ensures.does.inside; says = c.active_at.ensures.does.says })

pub returns-in-None : goal.returns-in-None
returns-in-None g c = rw c.in-None.is (record { inside = within_none; says = λ clean books holds held. (holds, tt) })
