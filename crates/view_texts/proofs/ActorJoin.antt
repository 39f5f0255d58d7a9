-- The actors' join: what its text means, and what it shows of the books.
use Rattle.shop_schema.proofs.Common.{◌≡◌, ◌==◌, ◌&&◌, ◌||◌, ◌+◌, ℕ, List, [], ◌∷◌, ◌++◌, map, filter, true, false, Bool, Some, None, refl, sym, ap, subst, ◌∙◌}
use Rattle.shop_schema.proofs.Common.{arith, append-nil, IsPermutation, flat_map, list_all, list_any, AllByRecursion, and_comm, IsPermutation-sym}
use Rattle.shop_schema.proofs.Common.{IsPermutation-trans, IsPermutation-map, length_permutation, and_parts, not-true, Null, or_null, column, Trees, end}
use Rattle.shop_schema.proofs.Common.{Output, overlay, map-map, filter-map, filter_same, all-filter, all_weaker, all_from_test, ascending-map, ascending_weaker}
use Rattle.shop_schema.proofs.Common.{IsPermutation-same, IsPermutation-flat_map, IsPermutation-flat_map_each, HasRows, columns_of, number_value, one_tested}
use Rattle.shop_schema.proofs.Common.{number_tested, or_blank, shown_of, equals, left_bag, at, lacks, numbered, numbered_from, has_row, Actor, Film, Cast}
use Rattle.shop_schema.proofs.Common.{Catalogue, is_cast, category_name, films_of, is_before_text, named_columns, actor_columns, film_columns, cast_columns}
use Rattle.shop_schema.proofs.Common.{ascending, Key, Binary, Term, col, Query, Join, inner, left, IsQuery, Selects, is_query, shop_schema, joined_query}
use Rattle.shop_schema.proofs.Common.{are_equal}
use Rattle.sqlite.specs.declared.types.Value.TheVariants.{Text}
use Rattle.sqlite_value.specs.Order as sql
use Rattle.shop_model.specs.Values as model
use Rattle.shop_model.proofs.LinkLemmas.{all_at}
use Rattle.sqlite_tied.proofs.RuleLemmas.{and_true}
use Rattle.view_texts.specs.Actors.{FilmIn, ActorLine, shown_actor, films_by_category, lines_with}
use Rattle.shop_schema.proofs.Numbers.{left_null}
use Rattle.view_texts.proofs.Lefts.{by_known}
use Rattle.view_texts.proofs.Casts.{casts_of, played_by, cast_bag, there_one, any_cast, differ_in, AreApart}
use Rattle.view_texts.proofs.ByText.{sorted_bag}
use Rattle.view_texts.proofs.Parted.{part, parted}
use Rattle.sqlite_tied.specs.Compute.{everything}
use Rattle.sqlite.specs.Listing.{understood}
use Rattle.view_texts.specs.declared.actors.TheConstants.{SELECT_ACTORS}
use Rattle.shop_schema.specs.Trees.{category_tree, film_actor_tree, film_tree}

-- ---- what its text means

-- what is joined to a film, to a cast, and to an actor
abbrev pub with_category : Join
with_category = left category_tree (are_equal (col 4 1) (col 3 5) ∷ []) end

abbrev pub with_film : Join
with_film = left film_tree (are_equal (col 3 1) (col 2 1) ∷ []) with_category

abbrev pub with_cast : Join
with_cast = left film_actor_tree (are_equal (col 2 2) (col 1 1) ∷ []) with_film

abbrev pub actor_shows : List Term
actor_shows = col 1 1 ∷ col 1 2 ∷ col 1 3 ∷ col 4 1 ∷ col 4 2 ∷ col 3 2 ∷ []

abbrev pub actor_order : List (Term × Key)
actor_order =
    (col 1 1, ascending Binary) ∷ (col 4 2, ascending Binary) ∷ (col 4 1, ascending Binary) ∷ (col 3 2, ascending Binary) ∷ (col 3 1, ascending Binary) ∷ []

abbrev pub actors_query : Query
actors_query = joined_query (inner 12 with_cast) [] actor_shows actor_order

pub actors_mean : Selects shop_schema SELECT_ACTORS.now actors_query
unfolding understood everything
actors_mean = record { names = _; is = refl; plain = (refl, refl); unlisted = refl }

pub actors_ask : IsQuery SELECT_ACTORS.now
unfolding everything
actors_ask = is_query SELECT_ACTORS.now (record { parsed = _; is = refl; selects = refl; untimed = refl })

abbrev pub actor_output : ActorLine → Output
actor_output line = (
  number_value line.0.0 ∷ or_null (λ (it : FilmIn). Text it.0.1) line.1
      ∷ or_null (λ (it : FilmIn). number_value it.0.0) line.1 ∷ or_null (λ (it : FilmIn). Text it.1.1.title) line.1
      ∷ or_null (λ (it : FilmIn). number_value it.1.0) line.1 ∷ [],
  shown_actor line,
)

-- ---- casts, by the actor

-- a cast in which film and actor have changed places
abbrev flipped : Cast → Cast
flipped c = record { film = c.actor; actor = c.film }

flipped_apart : (casts : List Cast) → AreApart casts → AreApart (map flipped casts)
flipped_apart casts apart =
    ascending-map (λ (a b : Cast). (a.film == b.film && a.actor == b.actor) ≡ false) flipped casts
    (ascending_weaker (λ (a b : Cast). (a.film == b.film && a.actor == b.actor) ≡ false) (λ (a b : Cast). (a.actor == b.actor && a.film == b.film) ≡ false)
    (λ a b h. and_comm (a.actor == b.actor) (a.film == b.film) ∙ h) casts apart)

any_flipped : (actor film : ℕ) (casts : List Cast)
    → list_any (λ (c : Cast). c.film == actor && c.actor == film) (map flipped casts) ≡ list_any (λ (c : Cast). c.film == film && c.actor == actor) casts
any_flipped actor film [] = refl
any_flipped actor film (c ∷ casts) = (λ i. and_comm (c.actor == actor) (c.film == film) i || any_flipped actor film casts i)

-- films that casts name are there
abbrev pub HasFilms : Catalogue → List Cast → Type 0
HasFilms catalogue = AllByRecursion (λ (c : Cast). lacks catalogue.films c.film ≡ false)

pub films_there : (catalogue : Catalogue) (casts : List Cast)
    → list_all (λ (it : Cast). has_row catalogue.films it.film) casts ≡ true → HasFilms catalogue casts
films_there catalogue casts h =
    all_weaker (λ (it : Cast). has_row catalogue.films it.film ≡ true)
    (λ (it : Cast). lacks catalogue.films it.film ≡ false) (λ it. not-true (lacks catalogue.films it.film)) casts
    (all_from_test (λ (it : Cast). has_row catalogue.films it.film) casts h)

-- ---- what one actor brings

module _ (catalogue : Catalogue) (in_category : list_all (λ (it : Film). has_row catalogue.categories it.category) catalogue.films ≡ true) where
  abbrev behind : ℕ × Film → FilmIn
  behind film = ((film.1.category, category_name catalogue film.1.category), film)

  named : (k : ℕ) (name : model.Text) → at k catalogue.categories ≡ name ∷ [] → category_name catalogue k ≡ name
  named k name is = ap (flat_map (λ (t : model.Text). t)) is ∙ append-nil name

  category_there : (n : ℕ) (x : Film) → at n catalogue.films ≡ x ∷ [] → lacks catalogue.categories x.category ≡ false
  category_there n x is =
      not-true (lacks catalogue.categories x.category)
      (sym (and_true (has_row catalogue.categories x.category)) ∙ ap (list_all (λ (it : Film). has_row catalogue.categories it.category)) (sym is)
      ∙ all_at (λ (it : Film). has_row catalogue.categories it.category) n catalogue.films in_category)

  -- the films of an actor, found by the actor's casts and found by categories
  abbrev films_with : ℕ → List (ℕ × Film)
  films_with actor = filter (λ (it : ℕ × Film). is_cast catalogue it.0 actor) (numbered catalogue.films)

  names_rows : (k : ℕ) (films : List Film) → list_all (λ (it : Film). has_row catalogue.categories it.category) films ≡ true
      → AllByRecursion (λ (it : ℕ × Film).
      ◌≡◌ {A = List FilmIn} (map (λ (name : model.Text). ((it.1.category, name), it)) (at it.1.category catalogue.categories)) (behind it ∷ []))
      (numbered_from k films)
  names_rows k [] all = tt
  names_rows k (film ∷ films) all =
      let parts = and_parts (has_row catalogue.categories film.category) (list_all (λ (it : Film). has_row catalogue.categories it.category) films) all in
      let one = there_one catalogue.categories film.category (not-true (lacks catalogue.categories film.category) parts.0) in (
        ap (map (λ (name : model.Text). ((film.category, name), (k, film)))) one.1
            ∙ ap (λ (name : model.Text). ((film.category, name), (k, film)) ∷ []) (sym (named film.category one.0 one.1)),
        names_rows (k + 1) films parts.1,
      )

  by_category : (actor : ℕ) → IsPermutation (map behind (films_with actor)) (films_by_category catalogue actor)
  by_category actor =
      let cast : ℕ × Film → Bool = λ it. is_cast catalogue it.0 actor in
      let key : ℕ × Film → ℕ = λ it. it.1.category in
      let sorted : ℕ × model.Text → List FilmIn = λ c. map (λ (film : ℕ × Film). (c, film)) (films_of catalogue actor c.0) in
      IsPermutation-trans _ _ _ (parted catalogue.categories key behind cast (numbered catalogue.films) (names_rows 1 catalogue.films in_category))
      (IsPermutation-trans _ _ _
      (IsPermutation-flat_map_each (part catalogue.categories key behind cast (numbered catalogue.films)) sorted
      (λ c.
      IsPermutation-map (λ (film : ℕ × Film). (c, film)) _ _
      (IsPermutation-sym _ _
      (sorted_bag (λ (a b : ℕ × Film). is_before_text a.1.title b.1.title)
      (filter (λ (it : ℕ × Film). it.1.category == c.0 && is_cast catalogue it.0 actor) (numbered catalogue.films)))))
      (numbered catalogue.categories))
      (IsPermutation-flat_map sorted _ _
      (IsPermutation-sym _ _ (sorted_bag (λ (a b : ℕ × model.Text). is_before_text a.1 b.1) (numbered catalogue.categories)))))

  abbrev casts_with : ℕ → List Cast
  casts_with actor = filter (λ (c : Cast). c.actor == actor) catalogue.casts

  played : (actor : ℕ) → AreApart catalogue.casts → IsPermutation (played_by catalogue.films (map flipped (casts_with actor))) (films_with actor)
  played actor apart =
      let turned_casts = map flipped catalogue.casts in
      let same : casts_of actor turned_casts ≡ map flipped (casts_with actor) = filter-map (λ (c : Cast). c.film == actor) flipped catalogue.casts in
      subst (λ l. IsPermutation (played_by catalogue.films l) (films_with actor)) same
      (subst (IsPermutation (played_by catalogue.films (casts_of actor turned_casts)))
      (filter_same _ _ (λ it. sym (any_cast actor it.0 turned_casts) ∙ any_flipped actor it.0 catalogue.casts) (numbered catalogue.films))
      (cast_bag catalogue.films (casts_of actor turned_casts) (differ_in actor turned_casts (flipped_apart catalogue.casts apart))))

  module _ (db : Trees) (categories : HasRows 2 (db 7) (map named_columns (numbered catalogue.categories)))
      (casts : HasRows 2 (db 16) (map cast_columns catalogue.casts))
      (films : HasRows 12 (db 14) (map film_columns (numbered catalogue.films)))
      (apart : AreApart catalogue.casts) (there : HasFilms catalogue catalogue.casts) (actor : ℕ × Actor) where
    abbrev its : sql.Row
    its = Null ∷ actor_columns actor

    abbrev after_film : sql.Row → sql.Row → List Output
    after_film r2 r3 = shown_of actors_query (overlay db []) with_category ([] ∷ its ∷ r2 ∷ r3 ∷ [])

    abbrev after_cast : sql.Row → List Output
    after_cast r2 = shown_of actors_query (overlay db []) with_film ([] ∷ its ∷ r2 ∷ [])

    abbrev out : FilmIn → Output
    out film = actor_output (actor, Some film)

    film_there : (c2 : sql.Row) (film : ℕ × Film) → lacks catalogue.categories film.1.category ≡ false
        → after_film (Null ∷ c2) (Null ∷ film_columns film) ≡ out (behind film) ∷ []
    film_there c2 film has =
        let one = there_one catalogue.categories film.1.category has in
        by_known 2 named_columns (db 7) catalogue.categories categories (λ it. refl) (λ r. refl)
        (λ r4. shown_of actors_query (overlay db []) end ([] ∷ its ∷ (Null ∷ c2) ∷ (Null ∷ film_columns film) ∷ r4 ∷ []))
        (λ r. refl) film.1.category one.0 one.1
        ∙ ap (λ (name : model.Text). out ((film.1.category, name), film) ∷ []) (sym (named film.1.category one.0 one.1))

    cast_there : (c : Cast) (x : Film) → at c.film catalogue.films ≡ x ∷ [] → after_cast (Null ∷ cast_columns c) ≡ out (behind (c.film, x)) ∷ []
    cast_there c x is =
        by_known 12 film_columns (db 14) catalogue.films films (λ it. refl) (λ r. refl) (λ r3. after_film (Null ∷ cast_columns c) r3) (λ r. refl) c.film x is
        ∙ ap (λ (l : List Output). l ++ []) (film_there (cast_columns c) (c.film, x) (category_there c.film x is))

    no_cast : after_cast (Null ∷ columns_of 2 []) ≡ actor_output (actor, None) ∷ []
    no_cast =
        left_null 12 film_columns (db 14) catalogue.films films (λ it. refl) (λ r. refl) (λ r3. after_film (Null ∷ columns_of 2 []) r3) (λ r. refl)
        ∙ ap (λ (l : List Output). l ++ [])
        (left_null 2 named_columns (db 7) catalogue.categories categories (λ it. refl) (λ r. refl)
        (λ r4. shown_of actors_query (overlay db []) end ([] ∷ its ∷ (Null ∷ columns_of 2 []) ∷ (Null ∷ columns_of 12 []) ∷ r4 ∷ [])) (λ r. refl))

    casts_there : (mine : List Cast) → HasFilms catalogue mine
        → flat_map (λ c2. after_cast (Null ∷ c2)) (map cast_columns mine) ≡ map (λ film. out (behind film)) (played_by catalogue.films (map flipped mine))
    casts_there [] has = refl
    casts_there (c ∷ mine) has =
        let one = there_one catalogue.films c.film has.0 in
        (λ i. cast_there c one.0 one.1 i ++ casts_there mine has.1 i)
        ∙ ap (λ l. map (λ film. out (behind film)) (map (λ y. (c.film, y)) l ++ played_by catalogue.films (map flipped mine))) (sym one.1)

    blank_or : (l : List Cast) (target : List FilmIn) → HasFilms catalogue l → IsPermutation (map behind (played_by catalogue.films (map flipped l))) target
        → IsPermutation (flat_map (λ c2. after_cast (Null ∷ c2)) (or_blank 2 (map cast_columns l))) (map actor_output (lines_with actor target))
    blank_or [] [] has same = IsPermutation-same _ _ (append-nil _ ∙ no_cast)
    blank_or [] (it ∷ target) has same = absurd (omega (arith, length_permutation _ _ same))
    blank_or (c ∷ l) [] has same =
        let one = there_one catalogue.films c.film has.0 in
        absurd (omega (
          arith,
          length_permutation _ _
              (subst (λ k. IsPermutation (map behind (map (λ y. (c.film, y)) k ++ played_by catalogue.films (map flipped l))) []) one.1 same),
        ))
    blank_or (c ∷ l) (it ∷ target) has same =
        let shown : IsPermutation (map out (map behind (played_by catalogue.films (map flipped (c ∷ l))))) (map out (it ∷ target)) =
        IsPermutation-map out _ _ same in
        let first = map-map out behind (played_by catalogue.films (map flipped (c ∷ l))) ∙ sym (casts_there (c ∷ l) has) in
        let last = sym (map-map actor_output (λ film. (actor, Some film)) (it ∷ target)) in
        subst (λ k. IsPermutation k (map actor_output (map (λ film. (actor, Some film)) (it ∷ target)))) first
        (subst (IsPermutation (map out (map behind (played_by catalogue.films (map flipped (c ∷ l)))))) last shown)

    pub actor_brings :
        IsPermutation (shown_of actors_query (overlay db []) with_cast ([] ∷ its ∷ []))
        (map actor_output (lines_with actor (films_by_category catalogue actor.0)))
    actor_brings =
        let mine = casts_with actor.0 in
        IsPermutation-trans _ _ _
        (left_bag 2 cast_columns (db 16) catalogue.casts casts (λ r. equals (column r 2) (number_value actor.0) && true)
        (λ vs. equals (column vs 1) (number_value actor.0) && true) (λ (c : Cast). c.actor == actor.0)
        (λ r. refl) (λ c. one_tested _ (number_tested c.actor actor.0)) after_cast (λ r. refl))
        (blank_or mine (films_by_category catalogue actor.0)
        (all-filter (λ (c : Cast). lacks catalogue.films c.film ≡ false) (λ (c : Cast). c.actor == actor.0) catalogue.casts there)
        (IsPermutation-trans _ _ _ (IsPermutation-map behind _ _ (played actor.0 apart)) (by_category actor.0)))
