use Rattle.shop_schema.proofs.Common.{ap, Text}
use Rattle.view_texts.specs.Actors.{seen_part}
use Rattle.view_texts.proofs.ActorLines.{whole_seen}
use Rattle.view_texts.proofs.actors.whole_actor.Goals as goal

pub returns : goal.returns
returns c = ap (λ (films : Text). record (seen_part c.args.actor).0 { films = films }) (whole_seen c.args.actor _ c.in_ok-all_groups.ensures)
