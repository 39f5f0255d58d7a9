use Rattle.std.proofs.Common.{Option, inl, inr, subst}
use Rattle.shop_model.specs.Calendar.{Moment}
use Rattle.till_cashier.specs.Today.{IsNear}
use Rattle.till_cashier.proofs.today.dated.Goals as goal

pub returns-then-is_near : goal.returns-then-is_near
returns-then-is_near g c = (
  c.in_ok-it.it.till,
  c.in_ok-it.it.wall,
  c.in_ok-it.ensures.till,
  c.in_ok-it.ensures.wall,
  inl (subst (λ (last : Option Moment). IsNear last c.in_ok-it.it.till) c.last_moment.ensures (c.is_near.ensures c.if-is_near.true)),
)

pub returns-then-is_said : goal.returns-then-is_said
returns-then-is_said g c = (
  c.in_ok-it.it.till,
  c.in_ok-it.it.wall,
  c.in_ok-it.ensures.till,
  c.in_ok-it.ensures.wall,
  inr (c.is_said.ensures c.if-is_said.true),
)
