-- Defines what is found of shared rows, in the values of the model.
use Rattle.std.specs.Prelude.{◌≡◌, ℕ, Bool, List, [], ◌∷◌, length, Option, Some, None}
use Rattle.sqlite_value.specs.Order as sql
use Rattle.sqlite_value.specs.Order.{column}
use Rattle.sql_rows.specs.Rows.{number_value}
use Rattle.shop_model.specs.Values.{Film, Branch}
use Rattle.shop_model.specs.Shop.{Catalogue}
use Rattle.shop_model.specs.Books.{Caller, Counter, Nobody}
use Rattle.shop_types.specs.Seen.{seen_film}
use Rattle.shop_store.specs.declared.films.FilmRow.{FilmRow}
use Rattle.shop_store.specs.declared.lasts.TheConstants.{SELECT_LAST_COUNTRY, SELECT_LAST_LANGUAGE, SELECT_LAST_CATEGORY, SELECT_LAST_CITY, SELECT_LAST_ACTOR}
use Rattle.shop_store.specs.declared.lasts.TheConstants.{SELECT_LAST_FILM, SELECT_LAST_BRANCH, SELECT_LAST_STAFF}
use Rattle.shop_store.specs.declared.lasts.SharedTable.{SharedTable}
use Rattle.shop_store.specs.declared.lasts.SharedTable.TheVariants as table

-- the branch as a caller, or nobody
abbrev pub branch_caller : Option ℕ → Caller
branch_caller None = Nobody
branch_caller (Some branch) = Counter branch

abbrev pub withdrawn_of : Film → Bool
withdrawn_of film = film.withdrawn

-- a film that was found, withdrawn or not
abbrev pub seen_film_row : FilmRow → Film
seen_film_row row = record (seen_film row.film) { withdrawn = row.withdrawn }

abbrev pub manager_of : Branch → Option ℕ
manager_of branch = branch.manager

-- the number in the first row that a query shows, or 0 if it shows none
abbrev pub IsFirstNumber : List sql.Row → ℕ → Type 0
IsFirstNumber [] n = n ≡ 0
IsFirstNumber (row ∷ rows) n = column row 0 ≡ number_value n

-- how many rows the table has, which are numbered from 1 without a gap
abbrev pub how_many : SharedTable → Catalogue → ℕ
how_many table.Country it = length it.countries
how_many table.Language it = length it.languages
how_many table.Category it = length it.categories
how_many table.City it = length it.cities
how_many table.Actor it = length it.actors
how_many table.Film it = length it.films
how_many table.Branch it = length it.branches
how_many table.Staff it = length it.staff

-- the statement that shows the number of the table's last row
abbrev pub last_text : SharedTable → List ℕ
last_text table.Country = SELECT_LAST_COUNTRY.now
last_text table.Language = SELECT_LAST_LANGUAGE.now
last_text table.Category = SELECT_LAST_CATEGORY.now
last_text table.City = SELECT_LAST_CITY.now
last_text table.Actor = SELECT_LAST_ACTOR.now
last_text table.Film = SELECT_LAST_FILM.now
last_text table.Branch = SELECT_LAST_BRANCH.now
last_text table.Staff = SELECT_LAST_STAFF.now
