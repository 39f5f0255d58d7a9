use Rattle.shop_schema.proofs.Common.{◌∙◌, sym, ap, Some, option_map, done, within_none}
use Rattle.sql_rows.proofs.Chaining.{one_call}
use Rattle.chain_caches.specs.Films.{known_of}
use Rattle.shop_store.specs.declared.films.FilmRow.{FilmRow}
use Rattle.shop_store.specs.SharedSeen.{seen_film_row}
use Rattle.branch_finds.proofs.Lookings.{head_of}
use Rattle.branch_finds.proofs.known.find_film.Goals as goal

pub returns-in-Some : goal.returns-in-Some
returns-in-Some g c = record {
  inside = within_none;
  says = λ clean books holds held. (holds, λ rows. (c.in-Some.ensures.row books.catalogue.films rows, c.in-Some.ensures.kept books.catalogue.films rows));
}

pub returns-in_default-2 : goal.returns-in_default-2
returns-in_default-2 g c = done (one_call c.in_ok-row.ensures.does) (λ said books holds held.
    let row = said books holds held in (
      row.0,
      λ rows. (
        ap (option_map (λ (it : FilmRow). known_of (seen_film_row it))) (sym c.in_default-2.is) ∙ head_of seen_film_row known_of _ _ row.1,
        c.known.ensures.kept books.catalogue.films rows,
      ),
    ))

pub returns : goal.returns
returns g c = done (one_call c.in_ok-row.ensures.does) (λ said books holds held.
    let row = said books holds held in
    let told =
    ap Some c.known_in-film.ensures ∙ ap (option_map (λ (it : FilmRow). known_of (seen_film_row it))) (sym c.in-Some-2.is)
    ∙ head_of seen_film_row known_of _ _ row.1 in
    (row.0, λ rows. (told, c.put.ensures books.catalogue.films (c.known.ensures.kept books.catalogue.films rows) told)))
