use Rattle.shop_schema.proofs.Common.{sym, ◌∙◌, IfOk-weaker}
use Rattle.view_texts.proofs.FilmLines.{other_film}
use Rattle.view_texts.proofs.films.next_film.Goals as goal

pub returns-in_ok-film_at-2 : goal.returns-in_ok-film_at-2
returns-in_ok-film_at-2 c =
    IfOk-weaker c.with_actor-else-eq.result _ _
    (λ it seen catalogue line films shown.
    other_film catalogue c.args.page.now c.add_row.new.self c.args.row.now line
    films c.in_ok-row_number_at.field-0 c.in-Some.film c.in_ok-film_at-2.field-0 it
    c.in_ok-row_number_at.ensures.ok shown (sym c.eq.ensures ∙ c.if-eq.false) c.in_ok-add_row.ensures
    (c.in_ok-film_at-2.ensures.film catalogue line shown) c.in_ok-film_at-2.ensures.none (seen catalogue line shown) c.args.film
    c.in-Some.is) c.with_actor-else-eq.ensures
