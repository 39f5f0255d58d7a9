-- The list of films and the list of actors, as JSON values.
use Rattle.std.specs.Prelude.{◌≡◌, ℕ, false, refl, Option, None, Some, ◌++◌, codes}
use Rattle.std.specs.List.{join_by}
use Rattle.serde_json.specs.Data.{Data, null, number, unsigned, string, object, member, no_members}
use Rattle.serde_json.specs.Written.{has_float}
use Rattle.shop_model.specs.Values.{Text}
use Rattle.shop_model.specs.Views as views
use Rattle.shop_types.specs.Films.{rating_text}
use Rattle.shop_views.specs.Names.{name_text}
use Rattle.shop_views.specs.Texts.{json_text}
use Rattle.shop_views.specs.declared.films.ListedFilm.{ListedFilm}
use Rattle.shop_views.specs.declared.actors.FilmGroup.{FilmGroup}
use Rattle.shop_views.specs.declared.actors.ActorRow.{ActorRow}

-- a film with this text of its actors
abbrev pub film_with : Text → ListedFilm → views.FilmRow
film_with actors row = record {
  number = row.number;
  title = row.title;
  description = row.description;
  category = row.category;
  price = row.rate;
  minutes = row.minutes;
  rating = rating_text row.rating;
  actors = actors;
}

abbrev pub seen_film : ListedFilm → views.FilmRow
seen_film row = film_with (join_by name_text (codes ", ") row.actors.items) row

abbrev pub minutes_data : Option ℕ → Data
minutes_data None = null
minutes_data (Some n) = number (unsigned n)

abbrev pub film_data : views.FilmRow → Data
film_data it = object
    (member (codes "actors") (string it.actors)
    (member (codes "category") (string it.category)
    (member (codes "description") (string it.description)
    (member (codes "film") (number (unsigned it.number))
    (member (codes "length") (minutes_data it.minutes)
    (member (codes "price") (number (unsigned it.price))
    (member (codes "rating") (string it.rating)
    (member (codes "title") (string it.title) no_members))))))))

-- the value's text is the definitions' text, and the value has no float: a length is a number or null
pub film_written : (it : views.FilmRow) → json_text (film_data it) ≡ views.listed_film it
film_written it = by_minutes it.minutes
  where
    by_minutes : (minutes : Option ℕ) → json_text (film_data (record it { minutes = minutes })) ≡ views.listed_film (record it { minutes = minutes })
    by_minutes None = refl
    by_minutes (Some n) = refl

pub film_no_float : (it : views.FilmRow) → has_float (film_data it) ≡ false
film_no_float it = by_minutes it.minutes
  where
    by_minutes : (minutes : Option ℕ) → has_float (film_data (record it { minutes = minutes })) ≡ false
    by_minutes None = refl
    by_minutes (Some n) = refl

-- the films of a category, as "Category: Title, Title"
abbrev pub films_text : FilmGroup → Text
films_text films = films.category ++ codes ": " ++ join_by (λ (title : Text). title) (codes ", ") films.titles.items

abbrev pub seen_actor : ActorRow → views.ActorRow
seen_actor row = record {
  number = row.number;
  first = row.name.first;
  last = row.name.last;
  films = join_by films_text (codes "; ") row.groups.items;
}

abbrev pub actor_data : views.ActorRow → Data
actor_data it = object
    (member (codes "actor") (number (unsigned it.number))
    (member (codes "film_info") (string it.films)
    (member (codes "first") (string it.first)
    (member (codes "last") (string it.last) no_members))))
