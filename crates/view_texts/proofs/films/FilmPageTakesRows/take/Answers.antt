use Rattle.view_texts.proofs.FilmLines.{film_taken}
use Rattle.view_texts.proofs.films.FilmPageTakesRows.take.Goals as goal

pub returns-clause-taken : goal.returns-clause-taken
returns-clause-taken c first given so_far =
    film_taken c.args.self.now.page c.next_film.new.page c.args.self.now.film c.take-film.result
    c.in_ok-next_film.field-0 given c.args.row.now c.take-film.ensures.value c.in_ok-next_film.ensures so_far
