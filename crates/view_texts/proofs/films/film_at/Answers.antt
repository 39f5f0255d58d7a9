use Rattle.view_texts.proofs.FilmLines.{film_is}
use Rattle.view_texts.proofs.films.film_at.Goals as goal

pub returns-clause-film : goal.returns-clause-film
returns-clause-film c =
    film_is c.args.row.now _ _ _ _ _ _ _ c.in_ok-row_number_at.ensures.ok c.in_ok-text_at.ensures.ok
    c.in_ok-text_at-2.ensures.ok c.in_ok-name_at.ensures c.in_ok-bounded_at.ensures.ok c.in_ok-minutes_at.ensures
    c.in_ok-rating_at.ensures
