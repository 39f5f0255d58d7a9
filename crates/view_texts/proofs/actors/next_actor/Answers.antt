use Rattle.shop_schema.proofs.Common.{sym, ◌∙◌, IfOk-weaker}
use Rattle.view_texts.proofs.ActorLines.{other_actor}
use Rattle.view_texts.proofs.actors.next_actor.Goals as goal

pub returns-in_ok-actor_at-2 : goal.returns-in_ok-actor_at-2
returns-in_ok-actor_at-2 c =
    IfOk-weaker c.with_row-else-eq.result _ _
    (λ it seen line actors shown.
    other_actor c.args.page.now c.add_actor.new.page c.args.row.now line actors c.in_ok-row_number_at.field-0 c.in-Some.actor c.in_ok-actor_at-2.field-0 it
    c.in_ok-row_number_at.ensures.ok shown (sym c.eq.ensures ∙ c.if-eq.false) c.in_ok-add_actor.ensures
    (c.in_ok-actor_at-2.ensures line shown) (seen line shown) c.args.actor
    c.in-Some.is) c.with_row-else-eq.ensures
