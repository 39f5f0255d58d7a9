use Rattle.shop_types.proofs.Common.{◌∙◌, IfOk-weaker, Film, seen_film}
use Rattle.shop_views.specs.FilmBodies.{film_value}
use Rattle.shop_views.proofs.TextLemmas.{text_of_value}
use Rattle.shop_views.proofs.FilmLemmas.{film_body}
use Rattle.shop_views.proofs.film.film_text.Goals as goal

pub returns : goal.returns
returns c =
    let film : Film = record (seen_film c.args.film.now) { withdrawn = c.args.withdrawn } in
    let body = film_body c.args.number film in
    let text = text_of_value c.to_string.result _ (film_value c.args.number film) c.in_ok-film_value.ensures body.0 c.to_string.ensures.text in
    IfOk-weaker c.to_string.result _ _ (λ s is. is ∙ body.1) text
