use Rattle.shop_schema.proofs.Common.{map, option_map, IfOk-weaker}
use Rattle.shop_model.specs.Views.{listed_film}
use Rattle.view_texts.specs.Films.{seen_part, closed}
use Rattle.view_texts.proofs.FilmLines.{last_film, no_last_film}
use Rattle.view_texts.proofs.films.finish.Goals as goal

pub returns-in_ok-add_row-in-Some : goal.returns-in_ok-add_row-in-Some
returns-in_ok-add_row-in-Some c =
    IfOk-weaker c.finish.result _ _
    (λ s told films on. let all = closed (films, option_map seen_part c.args.taker.film) in
    told (map listed_film all) (last_film _ _ films c.in-Some.film c.in_ok-add_row-in-Some.ensures on c.args.taker.film c.in-Some.is)) c.finish.ensures

pub returns-in-None : goal.returns-in-None
returns-in-None c =
    IfOk-weaker c.finish-in-None.result _ _
    (λ s told films on. let all = closed (films, option_map seen_part c.args.taker.film) in
    told (map listed_film all) (no_last_film _ films on c.args.taker.film c.in-None.is)) c.finish-in-None.ensures
