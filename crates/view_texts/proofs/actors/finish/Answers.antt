use Rattle.shop_schema.proofs.Common.{map, option_map, IfOk-weaker}
use Rattle.shop_model.specs.Views.{listed_actor}
use Rattle.view_texts.specs.Actors.{seen_part, closed}
use Rattle.view_texts.proofs.ActorLines.{last_actor, no_last_actor}
use Rattle.view_texts.proofs.actors.finish.Goals as goal

pub returns-in_ok-add_actor-in-Some : goal.returns-in_ok-add_actor-in-Some
returns-in_ok-add_actor-in-Some c =
    IfOk-weaker c.finish.result _ _
    (λ s told actors on. let all = closed (actors, option_map seen_part c.args.taker.actor) in
    told (map listed_actor all) (last_actor _ _ actors c.in-Some.actor c.in_ok-add_actor-in-Some.ensures on c.args.taker.actor c.in-Some.is)) c.finish.ensures

pub returns-in-None : goal.returns-in-None
returns-in-None c =
    IfOk-weaker c.finish-in-None.result _ _
    (λ s told actors on. let all = closed (actors, option_map seen_part c.args.taker.actor) in
    told (map listed_actor all) (no_last_actor _ actors on c.args.taker.actor c.in-None.is)) c.finish-in-None.ensures
