use Rattle.view_texts.proofs.ActorLines.{actor_is}
use Rattle.view_texts.proofs.actors.actor_at.Goals as goal

pub returns : goal.returns
returns c =
    actor_is c.args.row.now _ _ _ _ c.in_ok-row_number_at.ensures.ok c.in_ok-person_name_at.ensures.0 c.in_ok-person_name_at.ensures.1 c.new.ensures.items
