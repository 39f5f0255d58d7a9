-- Actors from neighbouring rows that belong together. Among an actor's rows, neighbouring rows are of one category.
use Rattle.std.specs.Prelude.{◌≡◌, ◌==◌, ℕ, if◌then◌else◌, List, [], ◌∷◌, ◌++◌, codes, map, flat_map, Option, Some, None, option_map}
use Rattle.std.specs.List.{join_by}
use Rattle.sqlite.specs.declared.types.Value.TheVariants.{Text}
use Rattle.sqlite.specs.Values.{or_null}
use Rattle.sqlite_value.specs.Order as sql
use Rattle.sql_rows.specs.Rows.{number_value}
use Rattle.shop_model.specs.Rows.{numbered}
use Rattle.shop_model.specs.Values as model
use Rattle.shop_model.specs.Values.{Actor, Film}
use Rattle.shop_model.specs.Shop.{Catalogue}
use Rattle.shop_model.specs.Views.{ActorRow, films_of, categories_by_name, listed_actor}
use Rattle.shop_views.specs.Page.{HasTexts}
use Rattle.shop_views.specs.declared.actors.FilmGroup.{FilmGroup}
use Rattle.view_texts.specs.declared.actors.ActorPage.{ActorPage}
use Rattle.view_texts.specs.declared.actors.CategoryFilm.{CategoryFilm}
use Rattle.view_texts.specs.declared.actors.OpenGroup.{OpenGroup}
use Rattle.view_texts.specs.declared.actors.FilmGroups.{FilmGroups}
use Rattle.view_texts.specs.declared.actors.StartedActor.{StartedActor}

-- ---- the rows

-- a film with its category: first the category, then the film
abbrev pub FilmIn : Type 0
FilmIn = (ℕ × model.Text) × (ℕ × Film)

-- an actor with one film, or with none
abbrev pub ActorLine : Type 0
ActorLine = (ℕ × Actor) × Option FilmIn

abbrev pub shown_actor : ActorLine → sql.Row
shown_actor line =
    number_value line.0.0 ∷ Text line.0.1.first ∷ Text line.0.1.last
    ∷ or_null (λ (it : FilmIn). number_value it.0.0) line.1 ∷ or_null (λ (it : FilmIn). Text it.0.1) line.1
    ∷ or_null (λ (it : FilmIn). Text it.1.1.title) line.1 ∷ []

-- the films of each category, in the order of the categories' names
abbrev pub films_by_category : Catalogue → ℕ → List FilmIn
films_by_category catalogue actor =
    flat_map (λ (c : ℕ × model.Text). map (λ (film : ℕ × Film). (c, film)) (films_of catalogue actor c.0)) (categories_by_name catalogue)

-- one line for each film, and one line for an actor without films
abbrev pub lines_with : ℕ × Actor → List FilmIn → List ActorLine
lines_with actor [] = (actor, None) ∷ []
lines_with actor (it ∷ its) = map (λ film. (actor, Some film)) (it ∷ its)

abbrev pub actor_lines : Catalogue → List ActorLine
actor_lines catalogue = flat_map (λ (actor : ℕ × Actor). lines_with actor (films_by_category catalogue actor.0)) (numbered catalogue.actors)

-- ---- films of one category

-- the category's name, and titles
abbrev pub Group : Type 0
Group = model.Text × List model.Text

abbrev pub text_of : Group → model.Text
text_of group = group.0 ++ codes ": " ++ join_by (λ (title : model.Text). title) (codes ", ") group.1

-- the category's number and name, and the title
abbrev pub ToldFilm : Type 0
ToldFilm = ℕ × model.Text × model.Text

abbrev pub told_film : FilmIn → ToldFilm
told_film it = (it.0.0, it.0.1, it.1.1.title)

-- the complete categories, and the category that may get more rows, with its number
abbrev pub Groups : Type 0
Groups = List Group × Option (ℕ × Group)

abbrev pub every_group : Groups → List Group
every_group (groups, None) = groups
every_group (groups, Some open_one) = groups ++ open_one.1 ∷ []

abbrev pub take_film : Groups → ToldFilm → Groups
take_film (groups, None) film = (groups, Some (film.0, (film.1, film.2 ∷ [])))
take_film (groups, Some open_one) film =
    if film.0 == open_one.0 then (groups, Some (open_one.0, (open_one.1.0, open_one.1.1 ++ film.2 ∷ [])))
    else (groups ++ open_one.1 ∷ [], Some (film.0, (film.1, film.2 ∷ [])))

abbrev pub take_any : Groups → Option ToldFilm → Groups
take_any groups None = groups
take_any groups (Some film) = take_film groups film

abbrev pub seen_group : FilmGroup → Group
seen_group it = (it.category, it.titles.items)

abbrev pub seen_open : OpenGroup → ℕ × Group
seen_open it = (it.number, seen_group it.films)

abbrev pub seen_groups : FilmGroups → Groups
seen_groups it = (map seen_group it.complete.items, option_map seen_open it.last)

abbrev pub seen_told : CategoryFilm → ToldFilm
seen_told it = (it.number, it.category, it.title)

-- ---- actors

-- an actor with the films so far
abbrev pub ActorPart : Type 0
ActorPart = ActorRow × Groups

-- the actor, with no films yet
abbrev pub actor_alone : ℕ × Actor → ActorRow
actor_alone it = record { number = it.0; first = it.1.first; last = it.1.last; films = [] }

abbrev pub whole : ActorPart → ActorRow
whole part = record part.0 { films = join_by text_of (codes "; ") (every_group part.1) }

abbrev pub seen_part : StartedActor → ActorPart
seen_part it = (record { number = it.number; first = it.name.first; last = it.name.last; films = [] }, seen_groups it.groups)

-- the complete actors, and the actor who may get more rows
abbrev pub Grouped : Type 0
Grouped = List ActorRow × Option ActorPart

abbrev pub closed : Grouped → List ActorRow
closed (actors, None) = actors
closed (actors, Some part) = actors ++ whole part ∷ []

abbrev pub take_line : Grouped → ActorLine → Grouped
take_line (actors, None) line = (actors, Some (actor_alone line.0, take_any ([], None) (option_map told_film line.1)))
take_line (actors, Some part) line =
    if line.0.0 == part.0.number then (actors, Some (part.0, take_any part.1 (option_map told_film line.1)))
    else (actors ++ whole part ∷ [], Some (actor_alone line.0, take_any ([], None) (option_map told_film line.1)))

abbrev pub run_from : Grouped → List ActorLine → Grouped
run_from so_far [] = so_far
run_from so_far (line ∷ lines) = run_from (take_line so_far line) lines

abbrev pub runs : List ActorLine → Grouped
runs = run_from ([], None)

-- the page has the complete actors of the rows, and `actor` is the last actor so far
abbrev pub HasActors : ActorPage → ActorPage → List sql.Row → Type 0
HasActors start it given =
    (lines : List ActorLine) → given ≡ map shown_actor lines
    → HasTexts it.page (map listed_actor (runs lines).0) × (option_map seen_part it.actor ≡ (runs lines).1)
