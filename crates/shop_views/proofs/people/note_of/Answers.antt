use Rattle.std.proofs.Common.{refl}
use Rattle.shop_views.proofs.people.note_of.Goals as goal

pub returns-then-active : goal.returns-then-active
returns-then-active c = rw c.if-active.true refl

pub returns-else-active : goal.returns-else-active
returns-else-active c = rw c.if-active.false refl
