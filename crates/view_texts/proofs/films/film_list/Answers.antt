use Rattle.shop_schema.proofs.Common.{◌∙◌, ap, [], None, Option, map, array}
use Rattle.shop_model.specs.Views.{listed_film}
use Rattle.view_texts.specs.Shown.{film_lines}
use Rattle.view_texts.specs.Films.{FilmPart, closed, runs}
use Rattle.view_texts.proofs.Casts.{apart_of, there_of}
use Rattle.view_texts.proofs.FilmJoin.{films_ask}
use Rattle.view_texts.proofs.FilmJoin.{shows_films}
use Rattle.view_texts.proofs.FilmRuns.{all_films}
use Rattle.view_texts.proofs.FilmLines.{nothing_taken}
use Rattle.view_texts.proofs.films.film_list.Goals as goal

pub each_row-requires : goal.each_row-requires
each_row-requires g c = films_ask

pub returns-clause-text : goal.returns-clause-text
returns-clause-text g c clean books holds held =
    let catalogue = books.catalogue in
    let told = c.in_ok-each_row.ensures.took clean in
    let rows =
    shows_films _ _ told.0 books holds.schema_is told.1 holds.stands
    (apart_of catalogue.casts held.single.casts) (there_of catalogue catalogue.casts held.names.cast_actors) in
    let done = told.2 (nothing_taken _ c.new.ensures) catalogue (film_lines catalogue) rows in
    let films = (runs catalogue (film_lines catalogue)).0 in
    c.in_ok-finish.ensures films done.0 ∙ ap (λ (o : Option FilmPart). array (map listed_film (closed (films, o)))) done.1
    ∙ ap (λ all. array (map listed_film all)) (all_films catalogue 1 catalogue.films ([], None) tt)
