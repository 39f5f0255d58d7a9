-- How a row of the films' join is read and taken.
use Rattle.shop_schema.proofs.Common.{◌≡◌, ◌==◌, ℕ, false, cond, List, [], ◌∷◌, ◌++◌, map, Option, Some, None, option_map, refl, sym, ap, subst, ◌∙◌}
use Rattle.shop_schema.proofs.Common.{map-append, or_null, column, number_value, same_or_null, same_number, at, Catalogue, FilmRow, category_name, at_one}
use Rattle.shop_schema.proofs.Common.{rating_text, Rating}
use Rattle.shop_model.specs.Views.{listed_film}
use Rattle.sqlite.specs.declared.types.Value.TheVariants.{Text}
use Rattle.sqlite_value.specs.Order as sql
use Rattle.shop_model.specs.Values as model
use Rattle.shop_views.specs.Names.{name_text}
use Rattle.shop_views.specs.Films.{film_with, seen_film}
use Rattle.shop_views.specs.Page.{Page, HasTexts}
use Rattle.shop_views.specs.declared.films.ListedFilm as rows
use Rattle.shop_store.proofs.SharedReads.{number_is_some}
use Rattle.view_texts.specs.Shown.{text_or_empty, FilmLine, shown_film}
use Rattle.view_texts.specs.Films.{names_of, film_alone, FilmPart, whole, seen_part, Grouped, closed, take_line, runs}
use Rattle.sql_rows.proofs.EachLemmas.{split_last}
use Rattle.view_texts.proofs.PersonLines.{name_read, same_words}
use Rattle.view_texts.proofs.FilmRuns.{run_push, whole_seen}

-- a film with these values, and without actors
abbrev film_of : ℕ → model.Text → model.Text → model.Text → ℕ → Option ℕ → Rating → FilmRow
film_of number title description category rate minutes rating = record {
  number = number;
  title = title;
  description = description;
  category = category;
  price = rate;
  minutes = minutes;
  rating = rating_text rating;
  actors = [];
}

pub film_is : (row : sql.Row) (number : ℕ) (title description category : model.Text) (rate : ℕ) (minutes : Option ℕ) (rating : Rating)
    → column row 0 ≡ number_value number → column row 1 ≡ Text title
    → column row 2 ≡ Text description → category ≡ text_or_empty (column row 3) → column row 4 ≡ number_value rate
    → column row 5 ≡ or_null number_value minutes → column row 6 ≡ Text (rating_text rating)
    → (catalogue : Catalogue) (line : FilmLine) → row ≡ shown_film catalogue line
    → film_of number title description category rate minutes rating ≡ film_alone catalogue line.0
film_is row number title description category rate minutes rating at0 at1 at2 at3 at4 at5 at6 catalogue line is =
    let numbers : number ≡ line.0.0 = same_number _ _ (sym at0 ∙ ap (λ r. column r 0) is) in
    let titles : title ≡ line.0.1.title = same_words _ _ (sym at1 ∙ ap (λ r. column r 1) is) in
    let descriptions : description ≡ line.0.1.description = same_words _ _ (sym at2 ∙ ap (λ r. column r 2) is) in
    let categories : category ≡ category_name catalogue line.0.1.category =
    at3 ∙ ap (λ r. text_or_empty (column r 3)) is ∙ name_read (at line.0.1.category catalogue.categories) (at_one line.0.1.category catalogue.categories) in
    let prices : rate ≡ line.0.1.rate = same_number _ _ (sym at4 ∙ ap (λ r. column r 4) is) in
    let lengths : minutes ≡ line.0.1.minutes = same_or_null number_value number_is_some same_number _ _ (sym at5 ∙ ap (λ r. column r 5) is) in
    let ratings : rating_text rating ≡ line.0.1.rating = same_words _ _ (sym at6 ∙ ap (λ r. column r 6) is) in
    (λ i. record {
      number = numbers i;
      title = titles i;
      description = descriptions i;
      category = categories i;
      price = prices i;
      minutes = lengths i;
      rating = ratings i;
      actors = [];
    })

-- ---- the actor of a row

-- ---- the next film

-- the effect of a line: the film under way, and the films on the page, after the line was taken
abbrev pub Takes : Catalogue → Page → Page → Option rows.ListedFilm → rows.ListedFilm → FilmLine → List FilmRow → Type 0
Takes catalogue old new held it line films =
    HasTexts old (map listed_film films)
    → HasTexts new (map listed_film (take_line catalogue (films, option_map seen_part held) line).0)
    × (◌≡◌ {A = Option FilmPart} (Some (seen_part it)) (take_line catalogue (films, option_map seen_part held) line).1)

-- a film with its first line
fresh_part : (catalogue : Catalogue) (line : FilmLine) (fresh it : rows.ListedFilm) → film_with [] fresh ≡ film_alone catalogue line.0 → fresh.actors.items ≡ []
    → seen_part it ≡ ((seen_part fresh).0, (seen_part fresh).1 ++ names_of line.1) → seen_part it ≡ (film_alone catalogue line.0, names_of line.1)
fresh_part catalogue line fresh it alone none seen = seen ∙ (λ i. (alone i, map name_text (none i) ++ names_of line.1))

pushed_film : (films : List FilmRow) (film : rows.ListedFilm)
    → map listed_film films ++ listed_film (seen_film film) ∷ [] ≡ map listed_film (films ++ whole (seen_part film) ∷ [])
pushed_film films film =
    ap (λ row. map listed_film films ++ listed_film row ∷ []) (whole_seen film) ∙ sym (map-append listed_film films (whole (seen_part film) ∷ []))

-- a row of another film: the film before goes on the page
pub other_film :
    (catalogue : Catalogue) (old new : Page) (row : sql.Row) (line : FilmLine) (films : List FilmRow) (number : ℕ) (film fresh it : rows.ListedFilm)
    → column row 0 ≡ number_value number → row ≡ shown_film catalogue line → (number == film.number) ≡ false
    → ((texts : List model.Text) → HasTexts old texts → HasTexts new (texts ++ listed_film (seen_film film) ∷ []))
    → film_with [] fresh ≡ film_alone catalogue line.0 → fresh.actors.items ≡ [] → seen_part it ≡ ((seen_part fresh).0, (seen_part fresh).1 ++ names_of line.1)
    → (held : Option rows.ListedFilm) → held ≡ Some film → Takes catalogue old new held it line films
other_film catalogue old new row line films number film fresh it numbered shown other added alone none seen held is =
    let place : number ≡ line.0.0 = same_number _ _ (sym numbered ∙ ap (λ r. column r 0) shown) in
    let apart : (line.0.0 == film.number) ≡ false = subst (λ n. (n == film.number) ≡ false) place other in
    let taken : take_line catalogue (films, Some (seen_part film)) line
    ≡ (films ++ whole (seen_part film) ∷ [], Some (film_alone catalogue line.0, names_of line.1)) =
    ap (λ b.
    cond {A = Grouped} b (films, Some ((seen_part film).0, (seen_part film).1 ++ names_of line.1))
    (films ++ whole (seen_part film) ∷ [], Some (film_alone catalogue line.0, names_of line.1)))
    apart in
    subst (λ (o : Option rows.ListedFilm). Takes catalogue old new o it line films) (sym is)
    (λ on. (
      subst (HasTexts new) (pushed_film films film ∙ ap (λ (s : Grouped). map listed_film s.0) (sym taken)) (added (map listed_film films) on),
      ap Some (fresh_part catalogue line fresh it alone none seen) ∙ ap (λ (s : Grouped). s.1) (sym taken),
    ))

-- ---- the last film

-- the page has all films, once the last film is on the page
pub last_film : (old new : Page) (films : List FilmRow) (film : rows.ListedFilm)
    → ((texts : List model.Text) → HasTexts old texts → HasTexts new (texts ++ listed_film (seen_film film) ∷ []))
    → HasTexts old (map listed_film films) → (held : Option rows.ListedFilm) → held ≡ Some film
    → HasTexts new (map listed_film (closed (films, option_map seen_part held)))
last_film old new films film added on held is =
    subst (λ (o : Option rows.ListedFilm). HasTexts new (map listed_film (closed (films, option_map seen_part o))))
    (sym is) (subst (HasTexts new) (pushed_film films film) (added (map listed_film films) on))

pub no_last_film : (page : Page) (films : List FilmRow) → HasTexts page (map listed_film films)
    → (held : Option rows.ListedFilm) → held ≡ None → HasTexts page (map listed_film (closed (films, option_map seen_part held)))
no_last_film page films on held is =
    subst (λ (o : Option rows.ListedFilm). HasTexts page (map listed_film (closed (films, option_map seen_part o)))) (sym is) on

-- ---- one row more

pub film_taken : (old new : Page) (held taken : Option rows.ListedFilm) (it : rows.ListedFilm) (given : List sql.Row) (row : sql.Row) → taken ≡ held
    → ((catalogue : Catalogue) (line : FilmLine) (films : List FilmRow) → row ≡ shown_film catalogue line → Takes catalogue old new taken it line films)
    → ((catalogue : Catalogue) (lines : List FilmLine) → given ≡ map (shown_film catalogue) lines
    → HasTexts old (map listed_film (runs catalogue lines).0) × (option_map seen_part held ≡ (runs catalogue lines).1))
    → (catalogue : Catalogue) (lines : List FilmLine) → given ++ row ∷ [] ≡ map (shown_film catalogue) lines
    → HasTexts new (map listed_film (runs catalogue lines).0) × (◌≡◌ {A = Option FilmPart} (Some (seen_part it)) (runs catalogue lines).1)
film_taken old new held taken it given row same next so_far catalogue lines e =
    let parts = split_last (shown_film catalogue) given row lines e in
    let before = so_far catalogue parts.0 parts.2 in
    let after = next catalogue parts.1 (runs catalogue parts.0).0 parts.3 before.0 in
    let state : ◌≡◌ {A = Grouped} ((runs catalogue parts.0).0, option_map seen_part taken) (runs catalogue parts.0) =
    (λ i. ((runs catalogue parts.0).0, (ap (option_map seen_part) same ∙ before.1) i)) in
    let run : take_line catalogue ((runs catalogue parts.0).0, option_map seen_part taken) parts.1 ≡ runs catalogue lines =
    ap (λ (s : Grouped). take_line catalogue s parts.1) state ∙ sym (run_push catalogue ([], None) parts.0 parts.1) ∙ ap (runs catalogue) (sym parts.4) in
    (subst (λ (s : Grouped). HasTexts new (map listed_film s.0)) run after.0, after.1 ∙ ap (λ (s : Grouped). s.1) run)

pub nothing_taken : (page : Page) → HasTexts page [] → (catalogue : Catalogue) (lines : List FilmLine) → [] ≡ map (shown_film catalogue) lines
    → HasTexts page (map listed_film (runs catalogue lines).0) × (◌≡◌ {A = Option FilmPart} None (runs catalogue lines).1)
nothing_taken page new catalogue [] e = (new, refl)
nothing_taken page new catalogue (line ∷ lines) e = absurd cc
