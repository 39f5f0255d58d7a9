-- The lines of actors, in the order of their join.
use Rattle.shop_schema.proofs.Common.{◌≡◌, ◌==◌, ◌&&◌, ◌<◌, ◌+◌, ℕ, false, filter, List, [], ◌∷◌, map, Option, Some, None, refl, sym, ap, ◌∙◌, arith, is_eq}
use Rattle.shop_schema.proofs.Common.{is_lt, inl, inr, Less, Equal, Greater, Ordering, ◌⊎◌, flat_map, AllByRecursion, nat_cmp, ordering_then, ordering_reverse}
use Rattle.shop_schema.proofs.Common.{slice_cmp, tied_itself, nat_cmp_total, nat_list_cmp_total, or_null, State, value_cmp, value_cmp-Text, then-Equal}
use Rattle.shop_schema.proofs.Common.{IsAscending, Output, output_cmp, map-map, map-flat_map, IsPermutation-same, ascending-map, ascending_weaker}
use Rattle.shop_schema.proofs.Common.{ascending-append, ascending-filter, all-map, all-flat_map, all_weaker, number_value, answers, number_cmp, joined_rows}
use Rattle.shop_schema.proofs.Common.{Climbs, numbered, numbered_from, NamesRowsOf, Actor, Film, Catalogue, Books, is_cast, films_of, categories_by_name}
use Rattle.shop_schema.proofs.Common.{shop_schema, IsShop, StandsFor, actor_columns}
use Rattle.sqlite.specs.declared.types.Value.TheVariants.{Text}
use Rattle.sqlite.specs.State.{Shown}
use Rattle.sqlite_value.specs.Order as sql
use Rattle.sqlite_sql.proofs.QueryLemmas.{output_cmp_total}
use Rattle.shop_model.specs.Values as model
use Rattle.shop_store.proofs.LastNumbers.{above_from, numbered_rise}
use Rattle.view_texts.specs.Actors.{FilmIn, ActorLine, shown_actor, films_by_category, lines_with, actor_lines}
use Rattle.view_texts.proofs.Orders.{less, equal}
use Rattle.view_texts.proofs.Casts.{AreApart}
use Rattle.view_texts.proofs.ByText.{by_text, Rises, sorted_up}
use Rattle.view_texts.proofs.ActorJoin.{actors_query, actors_mean, actor_shows, actor_order, with_cast}
use Rattle.view_texts.proofs.ActorJoin.{actor_output, films_there, actor_brings}
use Rattle.view_texts.specs.declared.actors.TheConstants.{SELECT_ACTORS}

abbrev name_of : ℕ × model.Text → model.Text
name_of c = c.1

abbrev title_of : ℕ × Film → model.Text
title_of film = film.1.title

-- a film of an earlier category, or an earlier film of the same category
abbrev Comes : FilmIn → FilmIn → Type 0
Comes x y = (by_text name_of x.0 y.0 ≡ Less) ⊎ ((x.0 ≡ y.0) × (by_text title_of x.1 y.1 ≡ Less))

abbrev Later : ActorLine → ActorLine → Type 0
Later a b = (a.0.0 < b.0.0) ⊎ ((a.0.0 ≡ b.0.0) × (x : FilmIn) × (y : FilmIn) × (a.1 ≡ Some x) × (b.1 ≡ Some y) × Comes x y)

-- ---- the order of two rows

-- what decides between two rows of one actor
abbrev film_order : Option FilmIn → Option FilmIn → Ordering
film_order o p =
    ordering_then (value_cmp (or_null (λ (it : FilmIn). Text it.0.1) o) (or_null (λ (it : FilmIn). Text it.0.1) p))
    (ordering_then (value_cmp (or_null (λ (it : FilmIn). number_value it.0.0) o) (or_null (λ (it : FilmIn). number_value it.0.0) p))
    (ordering_then (value_cmp (or_null (λ (it : FilmIn). Text it.1.1.title) o) (or_null (λ (it : FilmIn). Text it.1.1.title) p))
    (ordering_then (value_cmp (or_null (λ (it : FilmIn). number_value it.1.0) o) (or_null (λ (it : FilmIn). number_value it.1.0) p)) Equal)))

first_decides : (o p r : Ordering) → ordering_then o p ≡ Less → ordering_then o (ordering_then p r) ≡ Less
first_decides Less p r h = refl
first_decides Equal p r h = ap (λ q. ordering_then q r) h
first_decides Greater p r h = absurd cc

films_less : (x y : FilmIn) → Comes x y → film_order (Some x) (Some y) ≡ Less
films_less x y comes =
    (λ i.
    ordering_then (value_cmp-Text x.0.1 y.0.1 i)
    (ordering_then (number_cmp x.0.0 y.0.0 i) (ordering_then (value_cmp-Text x.1.1.title y.1.1.title i) (then-Equal (number_cmp x.1.0 y.1.0 i) i))))
    ∙ go comes
  where
    go : Comes x y → ordering_then (slice_cmp nat_cmp x.0.1 y.0.1) (ordering_then (nat_cmp x.0.0 y.0.0) (by_text title_of x.1 y.1)) ≡ Less
    go (inl h) = first_decides (slice_cmp nat_cmp x.0.1 y.0.1) (nat_cmp x.0.0 y.0.0) (by_text title_of x.1 y.1) h
    go (inr h) =
        let names : slice_cmp nat_cmp x.0.1 y.0.1 ≡ Equal =
        ap (λ (c : ℕ × model.Text). slice_cmp nat_cmp x.0.1 c.1) (sym h.0) ∙ tied_itself nat_list_cmp_total x.0.1 in
        let numbers : nat_cmp x.0.0 y.0.0 ≡ Equal = ap (λ (c : ℕ × model.Text). nat_cmp x.0.0 c.0) (sym h.0) ∙ tied_itself nat_cmp_total x.0.0 in
        (λ i. ordering_then (names i) (ordering_then (numbers i) (by_text title_of x.1 y.1))) ∙ h.1

compares : (a b : ActorLine) → output_cmp actors_query (actor_output a) (actor_output b) ≡ ordering_then (nat_cmp a.0.0 b.0.0) (film_order a.1 b.1)
compares a b = ap (λ o. ordering_then o (film_order a.1 b.1)) (number_cmp a.0.0 b.0.0)

in_order : (a b : ActorLine) → Later a b → output_cmp actors_query (actor_output a) (actor_output b) ≡ Less
in_order a b (inl h) = compares a b ∙ ap (λ o. ordering_then o (film_order a.1 b.1)) (less a.0.0 b.0.0 h)
in_order a b (inr h) = compares a b ∙ (λ i. ordering_then (equal a.0.0 b.0.0 h.0 i) (film_order (h.3 i) (h.4 i))) ∙ films_less h.1 h.2 h.5

climbs : (a b : ActorLine) → Later a b
    → (is_eq (output_cmp actors_query (actor_output a) (actor_output b)) ≡ false) × (is_lt (output_cmp actors_query (actor_output b) (actor_output a)) ≡ false)
climbs a b later =
    let ours = in_order a b later in (
      ap is_eq ours,
      ap is_lt ((output_cmp_total actors_query).antisymm (actor_output b) (actor_output a) ∙ ap ordering_reverse ours),
    )

-- ---- all lines rise

groups_up : (films : ℕ × model.Text → List (ℕ × Film)) → ((c : ℕ × model.Text) → IsAscending (λ f g. by_text title_of f g ≡ Less) (films c))
    → (cs : List (ℕ × model.Text)) → IsAscending (λ c d. by_text name_of c d ≡ Less) cs
    → IsAscending Comes (flat_map (λ (c : ℕ × model.Text). map (λ (film : ℕ × Film). (c, film)) (films c)) cs)
groups_up films each [] up = tt
groups_up films each (c ∷ cs) up =
    let behind : (d : ℕ × model.Text) → ℕ × Film → FilmIn = λ d film. (d, film) in
    ascending-append Comes (map (behind c) (films c)) (flat_map (λ d. map (behind d) (films d)) cs)
    (ascending-map Comes (behind c) (films c)
    (ascending_weaker (λ f g. by_text title_of f g ≡ Less) (λ f g. Comes (behind c f) (behind c g)) (λ f g h. inr (refl, h)) (films c) (each c)))
    (groups_up films each cs up.1)
    (all-map (λ x. AllByRecursion (Comes x) (flat_map (λ d. map (behind d) (films d)) cs)) (behind c)
    (λ f. all-flat_map (Comes (behind c f)) (λ d. map (behind d) (films d)) cs
    (all_weaker (λ d. by_text name_of c d ≡ Less) (λ d. AllByRecursion (Comes (behind c f)) (map (behind d) (films d)))
    (λ d h. all-map (Comes (behind c f)) (behind d) (λ g. inl h) (films d)) cs up.0))
    (films c))

films_up : (catalogue : Catalogue) (actor : ℕ) → IsAscending Comes (films_by_category catalogue actor)
films_up catalogue actor =
    groups_up (λ c. films_of catalogue actor c.0)
    (λ c. let chosen = filter (λ (it : ℕ × Film). it.1.category == c.0 && is_cast catalogue it.0 actor) (numbered catalogue.films) in
    ascending_weaker (Rises title_of) (λ f g. by_text title_of f g ≡ Less) (λ f g h. h.0) (films_of catalogue actor c.0)
    (sorted_up title_of chosen
    (ascending-filter (λ (a b : ℕ × Film). a.0 < b.0) (λ (it : ℕ × Film). it.1.category == c.0 && is_cast catalogue it.0 actor)
    (numbered catalogue.films) (numbered_rise 1 catalogue.films))))
    (categories_by_name catalogue)
    (ascending_weaker (Rises name_of) (λ c d. by_text name_of c d ≡ Less) (λ c d h. h.0) (categories_by_name catalogue)
    (sorted_up name_of (numbered catalogue.categories) (numbered_rise 1 catalogue.categories)))

lines_up : (actor : ℕ × Actor) (l : List FilmIn) → IsAscending Comes l → IsAscending Later (lines_with actor l)
lines_up actor [] up = (tt, tt)
lines_up actor (it ∷ l) up =
    ascending-map Later (λ film. (actor, Some film)) (it ∷ l) (ascending_weaker Comes _ (λ x y h. inr (refl, x, y, refl, refl, h)) (it ∷ l) up)

of_actor : (actor : ℕ × Actor) (l : List FilmIn) (P : ActorLine → Type 0) → ((film : Option FilmIn) → P (actor, film)) → AllByRecursion P (lines_with actor l)
of_actor actor [] P h = (h None, tt)
of_actor actor (it ∷ l) P h = all-map P (λ film. (actor, Some film)) (λ film. h (Some film)) (it ∷ l)

actors_up : (catalogue : Catalogue) (k : ℕ) (actors : List Actor)
    → IsAscending Later (flat_map (λ (actor : ℕ × Actor). lines_with actor (films_by_category catalogue actor.0)) (numbered_from k actors))
actors_up catalogue k [] = tt
actors_up catalogue k (actor ∷ actors) =
    let films = films_by_category catalogue k in
    ascending-append Later (lines_with (k, actor) films) _ (lines_up (k, actor) films (films_up catalogue k)) (actors_up catalogue (k + 1) actors)
    (of_actor (k, actor) films _ (λ film.
    all-flat_map (λ line. Later ((k, actor), film) line)
    (λ (it : ℕ × Actor). lines_with it (films_by_category catalogue it.0)) (numbered_from (k + 1) actors)
    (all_weaker (λ (it : ℕ × Actor). k < it.0) _ (λ it h. of_actor it (films_by_category catalogue it.0) _ (λ other. inl h))
    (numbered_from (k + 1) actors) (above_from (k + 1) actors k (omega arith)))))

-- ---- the rows

pub shows_actors : (old new : State) (rows : List sql.Row) (books : Books) → IsShop old → Shown SELECT_ACTORS.now [] old new rows
    → StandsFor old.now.trees books → AreApart books.catalogue.casts → NamesRowsOf books.catalogue books.catalogue
    → rows ≡ map shown_actor (actor_lines books.catalogue)
shows_actors old new rows books shop h s apart names =
    let catalogue = books.catalogue in
    let db = old.now.trees in
    let up : Climbs actors_query (map actor_output (actor_lines catalogue)) =
    ascending-map _ actor_output (actor_lines catalogue) (ascending_weaker Later _ climbs (actor_lines catalogue) (actors_up catalogue 1 catalogue.actors)) in
    joined_rows 12 with_cast [] actor_shows actor_order [] db 3 actor_columns (numbered catalogue.actors) s.actors refl (λ r. refl)
    (λ actor. map actor_output (lines_with actor (films_by_category catalogue actor.0)))
    (λ actor. actor_brings catalogue names.film_categories db s.categories s.casts s.films apart (films_there catalogue catalogue.casts names.cast_films) actor)
    rows (answers shop_schema SELECT_ACTORS.now actors_query [] old new shop actors_mean rows h)
    (map actor_output (actor_lines catalogue)) (IsPermutation-same _ _
    (sym (map-flat_map actor_output (λ (actor : ℕ × Actor). lines_with actor (films_by_category catalogue actor.0)) (numbered catalogue.actors))))
    up
    ∙ map-map (λ (o : Output). o.1) actor_output (actor_lines catalogue)
