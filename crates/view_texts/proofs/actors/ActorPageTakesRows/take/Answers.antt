use Rattle.view_texts.proofs.ActorLines.{actor_taken}
use Rattle.view_texts.proofs.actors.ActorPageTakesRows.take.Goals as goal

pub returns-clause-taken : goal.returns-clause-taken
returns-clause-taken c first given so_far =
    actor_taken c.args.self.now.page c.next_actor.new.page c.args.self.now.actor c.take-actor.result
    c.in_ok-next_actor.field-0 given c.args.row.now c.take-actor.ensures.value c.in_ok-next_actor.ensures so_far
