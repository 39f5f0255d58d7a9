-- What the rows of the views' joins show of the books, and what the lists show of the rows.
use Rattle.std.specs.Prelude.{◌≡◌, ℕ, Bool, List, [], ◌∷◌, ◌++◌, map, filter, flat_map, Option, Some, None}
use Rattle.sqlite.specs.declared.types.Value.{Value}
use Rattle.sqlite.specs.declared.types.Value.TheVariants.{Null, Int, Real, Text, Blob}
use Rattle.sqlite.specs.Values.{or_null}
use Rattle.sqlite_value.specs.Order as sql
use Rattle.sql_rows.specs.Rows.{number_value, flag_value}
use Rattle.shop_model.specs.Rows.{Row, at, numbered}
use Rattle.shop_model.specs.Values as model
use Rattle.shop_model.specs.Values.{Person, City, Actor, Film, Staff, Customer}
use Rattle.shop_model.specs.Shop.{Catalogue}
use Rattle.shop_model.specs.Views.{PersonRow, person_row, is_cast}
use Rattle.shop_views.specs.declared.names.PersonName.{PersonName}

-- the name of a row that may be missing
abbrev pub name_or_null : List model.Text → Value
name_or_null [] = Null
name_or_null (name ∷ _) = Text name

-- the text of a column; empty if the column is NULL
abbrev pub text_or_empty : Value → model.Text
text_or_empty Null = []
text_or_empty (Int n) = []
text_or_empty (Real x) = []
text_or_empty (Text t) = t
text_or_empty (Blob b) = []

-- ---- people

-- the names in the two columns, or none if the first column is NULL
abbrev pub IsNameIn : Value → Value → Option PersonName → Type 0
IsNameIn first last None = first ≡ Null
IsNameIn first last (Some name) = (first ≡ Text name.first) × (last ≡ Text name.last)

-- a person's number and person, with the names of city and country
abbrev pub shown_person : Catalogue → ℕ → Person → sql.Row
shown_person catalogue n person =
    number_value n ∷ Text person.first ∷ Text person.last ∷ Text person.address ∷ Text person.postal ∷ Text person.phone
    ∷ name_or_null (map (λ (it : City). it.name) (at person.city catalogue.cities))
    ∷ name_or_null (flat_map (λ (it : City). at it.country catalogue.countries) (at person.city catalogue.cities)) ∷ []

abbrev pub shown_customer : Catalogue → Row Customer → sql.Row
shown_customer catalogue row = shown_person catalogue row.number row.it.person ++ flag_value row.it.active ∷ []

abbrev pub shown_staff : Catalogue → ℕ × Staff → sql.Row
shown_staff catalogue it = shown_person catalogue it.0 it.1.person

-- a row of the list of customers, for a customer of the branch
abbrev pub listed_customer : ℕ → Catalogue → Row Customer → PersonRow × Bool
listed_customer branch catalogue row = (person_row catalogue branch row.number row.it.person, row.it.active)

-- a row of the list of staff, for a member of the branch's staff
abbrev pub listed_staff : ℕ → Catalogue → ℕ × Staff → PersonRow
listed_staff branch catalogue it = person_row catalogue branch it.0 it.1.person

-- ---- films with their actors

-- a film with one of its actors, or with none
abbrev pub FilmLine : Type 0
FilmLine = (ℕ × Film) × Option (ℕ × Actor)

abbrev pub shown_film : Catalogue → FilmLine → sql.Row
shown_film catalogue line =
    number_value line.0.0 ∷ Text line.0.1.title ∷ Text line.0.1.description
    ∷ name_or_null (at line.0.1.category catalogue.categories) ∷ number_value line.0.1.rate
    ∷ or_null number_value line.0.1.minutes ∷ Text line.0.1.rating
    ∷ or_null (λ (it : ℕ × Actor). Text it.1.first) line.1 ∷ or_null (λ (it : ℕ × Actor). Text it.1.last) line.1 ∷ []

abbrev pub actors_of : Catalogue → ℕ → List (ℕ × Actor)
actors_of catalogue film = filter (λ (it : ℕ × Actor). is_cast catalogue film it.0) (numbered catalogue.actors)

-- one line for each actor, and one line for a film without actors
abbrev pub lines_of : ℕ × Film → List (ℕ × Actor) → List FilmLine
lines_of film [] = (film, None) ∷ []
lines_of film (it ∷ its) = map (λ actor. (film, Some actor)) (it ∷ its)

abbrev pub film_lines : Catalogue → List FilmLine
film_lines catalogue = flat_map (λ (film : ℕ × Film). lines_of film (actors_of catalogue film.0)) (numbered catalogue.films)
