-- Films from neighbouring rows that belong together.
use Rattle.std.specs.Prelude.{◌≡◌, ◌==◌, ℕ, if◌then◌else◌, List, [], ◌∷◌, ◌++◌, codes, map, Option, Some, None, option_map}
use Rattle.std.specs.List.{join_by}
use Rattle.sqlite_value.specs.Order as sql
use Rattle.shop_model.specs.Values as model
use Rattle.shop_model.specs.Values.{Actor, Film}
use Rattle.shop_model.specs.Shop.{Catalogue}
use Rattle.shop_model.specs.Views.{FilmRow, full_name, category_name, listed_film}
use Rattle.shop_views.specs.Names.{name_text}
use Rattle.shop_views.specs.Films.{film_with}
use Rattle.shop_views.specs.Page.{HasTexts}
use Rattle.shop_views.specs.declared.films.ListedFilm as rows
use Rattle.view_texts.specs.Shown.{FilmLine, shown_film}
use Rattle.view_texts.specs.declared.films.FilmPage.{FilmPage}

abbrev pub actor_name : ℕ × Actor → model.Text
actor_name it = full_name it.1.first it.1.last

abbrev pub names_of : Option (ℕ × Actor) → List model.Text
names_of None = []
names_of (Some it) = actor_name it ∷ []

-- a film and the names of its actors so far
abbrev pub FilmPart : Type 0
FilmPart = FilmRow × List model.Text

-- the film, with no actors yet
abbrev pub film_alone : Catalogue → ℕ × Film → FilmRow
film_alone catalogue it = record {
  number = it.0;
  title = it.1.title;
  description = it.1.description;
  category = category_name catalogue it.1.category;
  price = it.1.rate;
  minutes = it.1.minutes;
  rating = it.1.rating;
  actors = [];
}

abbrev pub whole : FilmPart → FilmRow
whole part = record part.0 { actors = join_by (λ (name : model.Text). name) (codes ", ") part.1 }

abbrev pub seen_part : rows.ListedFilm → FilmPart
seen_part row = (film_with [] row, map name_text row.actors.items)

-- the complete films, and the film that may get more rows
abbrev pub Grouped : Type 0
Grouped = List FilmRow × Option FilmPart

abbrev pub closed : Grouped → List FilmRow
closed (films, None) = films
closed (films, Some part) = films ++ whole part ∷ []

abbrev pub take_line : Catalogue → Grouped → FilmLine → Grouped
take_line catalogue (films, None) line = (films, Some (film_alone catalogue line.0, names_of line.1))
take_line catalogue (films, Some part) line =
    if line.0.0 == part.0.number then (films, Some (part.0, part.1 ++ names_of line.1))
    else (films ++ whole part ∷ [], Some (film_alone catalogue line.0, names_of line.1))

abbrev pub run_from : Catalogue → Grouped → List FilmLine → Grouped
run_from catalogue so_far [] = so_far
run_from catalogue so_far (line ∷ lines) = run_from catalogue (take_line catalogue so_far line) lines

abbrev pub runs : Catalogue → List FilmLine → Grouped
runs catalogue = run_from catalogue ([], None)

-- the page has the complete films of the rows, and `film` is the last film so far
abbrev pub HasFilms : FilmPage → FilmPage → List sql.Row → Type 0
HasFilms start it given =
    (catalogue : Catalogue) (lines : List FilmLine) → given ≡ map (shown_film catalogue) lines
    → HasTexts it.page (map listed_film (runs catalogue lines).0) × (option_map seen_part it.film ≡ (runs catalogue lines).1)
