use Rattle.shop_schema.proofs.Common.{◌∙◌, refl, sym, ap, List, Option, option_map, option_to_list, Film, NoFilm, Decision, given, FilmIs, answer_of}
use Rattle.shop_schema.proofs.Common.{accepted_answer}
use Rattle.shop_model.specs.Answers.{Answer}
use Rattle.shop_store.specs.SharedSeen.{seen_film_row}
use Rattle.shop_store.specs.declared.films.FilmRow.{FilmRow}
use Rattle.sql_rows.proofs.Chaining.{done_inside}
use Rattle.branch_reports.proofs.Decisions.{accepted_told, refused_told}
use Rattle.branch_finds.proofs.looks.look_film.Goals as goal

abbrev listed : Option FilmRow → List Film
listed o = option_to_list (option_map seen_film_row o)

pub returns-in_ok-film_text-in-Ok-Some-clause-does : goal.returns-in_ok-film_text-in-Ok-Some-clause-does
returns-in_ok-film_text-in-Ok-Some-clause-does g c = done_inside c.in-Ok-Some.ensures.does (λ row books holds held.
    let found = row books holds held in (
      found.0,
      c.accepted.ensures ∙ ap accepted_answer c.in_ok-film_text-in-Ok-Some.ensures
          ∙ ap (λ (rows : List Film). answer_of (given NoFilm (FilmIs c.args.number) rows)) (ap listed (sym c.in-Ok-Some.field-0-is) ∙ found.1),
    ))

pub returns-in-Ok-None-clause-does : goal.returns-in-Ok-None-clause-does
returns-in-Ok-None-clause-does g c = done_inside c.in-Ok-None.ensures.does (λ row books holds held.
    let found = row books holds held in
    let answer : List Film → Answer = λ rows. answer_of (given NoFilm (FilmIs c.args.number) rows) in
    (found.0, c.refused.ensures ∙ ap answer (ap listed (sym c.in-Ok-None.field-0-is) ∙ found.1)))

pub returns-in_ok-film_text-in-Ok-Some-clause-decided : goal.returns-in_ok-film_text-in-Ok-Some-clause-decided
returns-in_ok-film_text-in-Ok-Some-clause-decided g c = accepted_told _ _ c.accepted.ensures

pub returns-in-Ok-None-clause-decided : goal.returns-in-Ok-None-clause-decided
returns-in-Ok-None-clause-decided g c = refused_told _ (Decision NoFilm) c.refused.ensures refl
