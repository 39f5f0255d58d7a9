use Rattle.shop_schema.proofs.Common.{◌∙◌, ap, [], None, Option, map, array}
use Rattle.shop_model.specs.Views.{listed_actor}
use Rattle.view_texts.specs.Actors.{actor_lines, ActorPart, closed, runs}
use Rattle.view_texts.proofs.Casts.{apart_of}
use Rattle.view_texts.proofs.ActorJoin.{actors_ask}
use Rattle.view_texts.proofs.ActorOrder.{shows_actors}
use Rattle.view_texts.proofs.ActorRuns.{all_actors}
use Rattle.view_texts.proofs.ActorLines.{nothing_taken}
use Rattle.view_texts.proofs.actors.actor_info.Goals as goal

pub each_row-requires : goal.each_row-requires
each_row-requires g c = actors_ask

pub returns-clause-text : goal.returns-clause-text
returns-clause-text g c clean books holds held =
    let catalogue = books.catalogue in
    let told = c.in_ok-each_row.ensures.took clean in
    let rows = shows_actors _ _ told.0 books holds.schema_is told.1 holds.stands (apart_of catalogue.casts held.single.casts) held.names in
    let done = told.2 (nothing_taken _ c.new.ensures) (actor_lines catalogue) rows in
    let actors = (runs (actor_lines catalogue)).0 in
    c.in_ok-finish.ensures actors done.0 ∙ ap (λ (o : Option ActorPart). array (map listed_actor (closed (actors, o)))) done.1
    ∙ ap (λ all. array (map listed_actor all)) (all_actors catalogue 1 catalogue.actors ([], None) tt)
