-- The films' join: what its text means, and what it shows of the books.
use Rattle.shop_schema.proofs.Common.{◌≡◌, ◌==◌, ◌&&◌, ◌<◌, ◌+◌, ℕ, List, [], ◌∷◌, ◌++◌, map, true, false, Option, Some, None, refl, sym, ap, subst, ◌∙◌, arith}
use Rattle.shop_schema.proofs.Common.{is_eq, is_lt, append-nil, inl, inr, IsPermutation, Equal, ◌⊎◌, flat_map, AllByRecursion, nat_cmp, ordering_then}
use Rattle.shop_schema.proofs.Common.{IsPermutation-trans, IsPermutation-map, length_permutation, Value, Null, or_null, column, value_cmp, Trees, IsAscending}
use Rattle.shop_schema.proofs.Common.{end, Output, output_cmp, State, overlay, map-map, filter_same, map-flat_map, IsPermutation-same, ascending-map}
use Rattle.shop_schema.proofs.Common.{ascending_weaker, ascending-append, ascending-filter, all-filter, all-map, all-flat_map, all_weaker, HasRows, columns_of}
use Rattle.shop_schema.proofs.Common.{number_value, answers, number_cmp, one_tested, number_tested, or_blank, shown_of, equals, left_bag, joined_rows, Climbs}
use Rattle.shop_schema.proofs.Common.{at, lacks, numbered, numbered_from, Actor, Film, Cast, Catalogue, Books, is_cast, shop_schema, IsShop, StandsFor}
use Rattle.shop_schema.proofs.Common.{named_columns, actor_columns, film_columns, cast_columns, ascending, Key, Binary, Term, col, Query, Join, inner, left}
use Rattle.shop_schema.proofs.Common.{IsQuery, Selects, is_query, joined_query, are_equal}
use Rattle.sqlite.specs.declared.types.Value.TheVariants.{Text}
use Rattle.sqlite_value.specs.Order as sql
use Rattle.sqlite.specs.State.{Shown}
use Rattle.shop_store.proofs.LastNumbers.{above_from, numbered_rise}
use Rattle.view_texts.specs.Shown.{name_or_null, FilmLine, shown_film, actors_of, lines_of, film_lines}
use Rattle.view_texts.proofs.Lefts.{by_known, by_number}
use Rattle.view_texts.proofs.Orders.{less, greater, equal}
use Rattle.shop_schema.proofs.Numbers.{left_null}
use Rattle.view_texts.proofs.Casts.{casts_of, played_by, cast_bag, there_one, any_cast, differ_in, AreApart, AreThere}
use Rattle.view_texts.specs.declared.films.TheConstants.{SELECT_FILMS}
use Rattle.sqlite_tied.specs.Compute.{everything}
use Rattle.sqlite.specs.Listing.{understood}
use Rattle.shop_schema.specs.Trees.{actor_tree, category_tree, film_actor_tree}

-- ---- what its text means

-- what is joined to a cast, to a category, and to a film
abbrev pub with_actor : Join
with_actor = left actor_tree (are_equal (col 4 1) (col 3 2) ∷ []) end

abbrev pub with_cast : Join
with_cast = left film_actor_tree (are_equal (col 3 1) (col 1 1) ∷ []) with_actor

abbrev pub with_category : Join
with_category = left category_tree (are_equal (col 2 1) (col 1 5) ∷ []) with_cast

abbrev pub film_shows : List Term
film_shows = col 1 1 ∷ col 1 2 ∷ col 1 3 ∷ col 2 2 ∷ col 1 7 ∷ col 1 9 ∷ col 1 10 ∷ col 4 2 ∷ col 4 3 ∷ []

abbrev pub film_order : List (Term × Key)
film_order = (col 1 1, ascending Binary) ∷ (col 3 2, ascending Binary) ∷ []

abbrev pub films_query : Query
films_query = joined_query (inner 14 with_category) [] film_shows film_order

pub films_mean : Selects shop_schema SELECT_FILMS.now films_query
unfolding understood everything
films_mean = record { names = _; is = refl; plain = (refl, refl); unlisted = refl }

pub films_ask : IsQuery SELECT_FILMS.now
unfolding everything
films_ask = is_query SELECT_FILMS.now (record { parsed = _; is = refl; selects = refl; untimed = refl })

abbrev pub film_output : Catalogue → FilmLine → Output
film_output catalogue line = (number_value line.0.0 ∷ or_null (λ (it : ℕ × Actor). number_value it.0) line.1 ∷ [], shown_film catalogue line)

module _ (catalogue : Catalogue) (db : Trees) (categories : HasRows 2 (db 7) (map named_columns (numbered catalogue.categories)))
    (casts : HasRows 2 (db 16) (map cast_columns catalogue.casts))
    (actors : HasRows 3 (db 12) (map actor_columns (numbered catalogue.actors)))
    (apart : AreApart catalogue.casts) (there : AreThere catalogue catalogue.casts) (film : ℕ × Film) where
  abbrev its : sql.Row
  its = Null ∷ film_columns film

  abbrev row_with : Value → Value → Value → sql.Row
  row_with category first last =
      number_value film.0 ∷ Text film.1.title ∷ Text film.1.description ∷ category ∷ number_value film.1.rate
      ∷ or_null number_value film.1.minutes ∷ Text film.1.rating ∷ first ∷ last ∷ []

  abbrev out : Value → Option (ℕ × Actor) → Output
  out category actor = (
    number_value film.0 ∷ or_null (λ (it : ℕ × Actor). number_value it.0) actor ∷ [],
    row_with category (or_null (λ (it : ℕ × Actor). Text it.1.first) actor) (or_null (λ (it : ℕ × Actor). Text it.1.last) actor),
  )

  -- the outputs of some actors; one output if there is no actor
  abbrev outs : Value → List (ℕ × Actor) → List Output
  outs category [] = out category None ∷ []
  outs category (it ∷ its) = map (λ actor. out category (Some actor)) (it ∷ its)

  module _ (c2 : sql.Row) where
    abbrev after_cast : sql.Row → List Output
    after_cast r3 = shown_of films_query (overlay db []) with_actor ([] ∷ its ∷ (Null ∷ c2) ∷ r3 ∷ [])

    cast_there : (c : Cast) (x : Actor) → at c.actor catalogue.actors ≡ x ∷ [] → after_cast (Null ∷ cast_columns c) ≡ out (column c2 1) (Some (c.actor, x)) ∷ []
    cast_there c =
        by_known 3 actor_columns (db 12) catalogue.actors actors (λ it. refl) (λ r. refl)
        (λ r4. shown_of films_query (overlay db []) end ([] ∷ its ∷ (Null ∷ c2) ∷ (Null ∷ cast_columns c) ∷ r4 ∷ [])) (λ r. refl) c.actor

    no_cast : after_cast (Null ∷ columns_of 2 []) ≡ out (column c2 1) None ∷ []
    no_cast =
        left_null 3 actor_columns (db 12) catalogue.actors actors (λ it. refl) (λ r. refl)
        (λ r4. shown_of films_query (overlay db []) end ([] ∷ its ∷ (Null ∷ c2) ∷ (Null ∷ columns_of 2 []) ∷ r4 ∷ [])) (λ r. refl)

    casts_there : (mine : List Cast) → AreThere catalogue mine
        → flat_map (λ c3. after_cast (Null ∷ c3)) (map cast_columns mine) ≡ map (λ actor. out (column c2 1) (Some actor)) (played_by catalogue.actors mine)
    casts_there [] there = refl
    casts_there (c ∷ mine) there =
        let one = there_one catalogue.actors c.actor there.0 in
        (λ i. cast_there c one.0 one.1 i ++ casts_there mine there.1 i)
        ∙ ap (λ l. map (λ actor. out (column c2 1) (Some actor)) (map (λ y. (c.actor, y)) l ++ played_by catalogue.actors mine)) (sym one.1)

    -- the film's casts; their actors are in the list of actors
    abbrev mine : List Cast
    mine = casts_of film.0 catalogue.casts

    played : IsPermutation (played_by catalogue.actors mine) (actors_of catalogue film.0)
    played =
        subst (IsPermutation (played_by catalogue.actors mine)) (filter_same _ _ (λ it. sym (any_cast film.0 it.0 catalogue.casts)) (numbered catalogue.actors))
        (cast_bag catalogue.actors mine (differ_in film.0 catalogue.casts apart))

    blank_or : (l : List Cast) (target : List (ℕ × Actor)) → AllByRecursion (λ (c : Cast). lacks catalogue.actors c.actor ≡ false) l
        → IsPermutation (played_by catalogue.actors l) target
        → IsPermutation (flat_map (λ c3. after_cast (Null ∷ c3)) (or_blank 2 (map cast_columns l))) (outs (column c2 1) target)
    blank_or [] [] there same = IsPermutation-same _ _ (append-nil _ ∙ no_cast)
    blank_or [] (it ∷ target) there same = absurd (omega (arith, length_permutation _ _ same))
    blank_or (c ∷ l) [] there same =
        let one = there_one catalogue.actors c.actor there.0 in
        absurd (omega (arith, length_permutation _ _ (subst (λ k. IsPermutation (map (λ y. (c.actor, y)) k ++ played_by catalogue.actors l) []) one.1 same)))
    blank_or (c ∷ l) (it ∷ target) there same =
        subst (λ k. IsPermutation k (map (λ actor. out (column c2 1) (Some actor)) (it ∷ target)))
        (sym (casts_there (c ∷ l) there)) (IsPermutation-map (λ actor. out (column c2 1) (Some actor)) _ _ same)

    category_brings :
        IsPermutation (shown_of films_query (overlay db []) with_cast ([] ∷ its ∷ (Null ∷ c2) ∷ [])) (outs (column c2 1) (actors_of catalogue film.0))
    category_brings =
        IsPermutation-trans _ _ _
        (left_bag 2 cast_columns (db 16) catalogue.casts casts (λ r. equals (column r 1) (number_value film.0) && true)
        (λ vs. equals (column vs 0) (number_value film.0) && true) (λ (c : Cast). c.film == film.0)
        (λ r. refl) (λ c. one_tested _ (number_tested c.film film.0)) after_cast (λ r. refl))
        (blank_or mine (actors_of catalogue film.0) (all-filter (λ (c : Cast). lacks catalogue.actors c.actor ≡ false) _ catalogue.casts there) played)

  as_lines : (category : Value) (l : List (ℕ × Actor)) → category ≡ name_or_null (at film.1.category catalogue.categories)
      → outs category l ≡ map (film_output catalogue) (lines_of film l)
  as_lines category [] is = ap (λ v. out v None ∷ []) is
  as_lines category (it ∷ l) is =
      ap (λ v. map (λ actor. out v (Some actor)) (it ∷ l)) is ∙ sym (map-map (film_output catalogue) (λ actor. (film, Some actor)) (it ∷ l))

  pub film_brings :
      IsPermutation (shown_of films_query (overlay db []) with_category ([] ∷ its ∷ []))
      (map (film_output catalogue) (lines_of film (actors_of catalogue film.0)))
  film_brings =
      by_number 2 named_columns (db 7) catalogue.categories categories (λ it. refl) (λ r. refl)
      (λ r2. shown_of films_query (overlay db []) with_cast ([] ∷ its ∷ r2 ∷ [])) (λ r. refl) film.1.category
      (λ l given. at film.1.category catalogue.categories ≡ l → IsPermutation given (map (film_output catalogue) (lines_of film (actors_of catalogue film.0))))
      (λ is. one_row (columns_of 2 []) (sym (ap name_or_null is))) (λ name is. one_row (named_columns (film.1.category, name)) (sym (ap name_or_null is))) refl
    where
      one_row : (c2 : sql.Row) → column c2 1 ≡ name_or_null (at film.1.category catalogue.categories)
          → IsPermutation (shown_of films_query (overlay db []) with_cast ([] ∷ its ∷ (Null ∷ c2) ∷ []))
          (map (film_output catalogue) (lines_of film (actors_of catalogue film.0)))
      one_row c2 is = subst (IsPermutation _) (as_lines (column c2 1) (actors_of catalogue film.0) is) (category_brings c2)

-- ---- the order

abbrev Later : FilmLine → FilmLine → Type 0
Later a b = (a.0.0 < b.0.0) ⊎ ((a.0.0 ≡ b.0.0) × (x : ℕ × Actor) × (y : ℕ × Actor) × (a.1 ≡ Some x) × (b.1 ≡ Some y) × (x.0 < y.0))

abbrev actor_key : FilmLine → Value
actor_key line = or_null (λ (it : ℕ × Actor). number_value it.0) line.1

compares : (catalogue : Catalogue) (a b : FilmLine)
    → output_cmp films_query (film_output catalogue a) (film_output catalogue b)
    ≡ ordering_then (nat_cmp a.0.0 b.0.0) (ordering_then (value_cmp (actor_key a) (actor_key b)) Equal)
compares catalogue a b = ap (λ o. ordering_then o (ordering_then (value_cmp (actor_key a) (actor_key b)) Equal)) (number_cmp a.0.0 b.0.0)

by_actor : (a b : FilmLine) (x y : ℕ × Actor) → a.1 ≡ Some x → b.1 ≡ Some y → value_cmp (actor_key a) (actor_key b) ≡ nat_cmp x.0 y.0
by_actor a b x y is are =
    (λ i. value_cmp (or_null (λ (it : ℕ × Actor). number_value it.0) (is i)) (or_null (λ (it : ℕ × Actor). number_value it.0) (are i))) ∙ number_cmp x.0 y.0

climbs : (catalogue : Catalogue) (a b : FilmLine) → Later a b
    → (is_eq (output_cmp films_query (film_output catalogue a) (film_output catalogue b)) ≡ false)
    × (is_lt (output_cmp films_query (film_output catalogue b) (film_output catalogue a)) ≡ false)
climbs catalogue a b (inl h) = (
  ap is_eq (compares catalogue a b ∙ ap (λ o. ordering_then o (ordering_then (value_cmp (actor_key a) (actor_key b)) Equal)) (less a.0.0 b.0.0 h)),
  ap is_lt (compares catalogue b a ∙ ap (λ o. ordering_then o (ordering_then (value_cmp (actor_key b) (actor_key a)) Equal)) (greater a.0.0 b.0.0 h)),
)
climbs catalogue a b (inr h) =
    let x = h.1 in
    let y = h.2 in (
      ap is_eq
          (compares catalogue a b ∙ (λ i. ordering_then (equal a.0.0 b.0.0 h.0 i) (ordering_then ((by_actor a b x y h.3 h.4 ∙ less x.0 y.0 h.5) i) Equal))),
      ap is_lt
          (compares catalogue b a
          ∙ (λ i. ordering_then (equal b.0.0 a.0.0 (sym h.0) i) (ordering_then ((by_actor b a y x h.4 h.3 ∙ greater x.0 y.0 h.5) i) Equal))),
    )

lines_up : (film : ℕ × Film) (l : List (ℕ × Actor)) → IsAscending (λ (a b : ℕ × Actor). a.0 < b.0) l → IsAscending Later (lines_of film l)
lines_up film [] up = (tt, tt)
lines_up film (it ∷ l) up =
    ascending-map Later (λ actor. (film, Some actor)) (it ∷ l)
    (ascending_weaker (λ (a b : ℕ × Actor). a.0 < b.0) _ (λ a b h. inr (refl, a, b, refl, refl, h)) (it ∷ l) up)

of_film : (film : ℕ × Film) (l : List (ℕ × Actor)) (P : FilmLine → Type 0)
    → ((actor : Option (ℕ × Actor)) → P (film, actor)) → AllByRecursion P (lines_of film l)
of_film film [] P h = (h None, tt)
of_film film (it ∷ l) P h = all-map P (λ actor. (film, Some actor)) (λ actor. h (Some actor)) (it ∷ l)

films_up : (catalogue : Catalogue) (k : ℕ) (films : List Film)
    → IsAscending Later (flat_map (λ (film : ℕ × Film). lines_of film (actors_of catalogue film.0)) (numbered_from k films))
films_up catalogue k [] = tt
films_up catalogue k (film ∷ films) =
    let actors = actors_of catalogue k in
    ascending-append Later (lines_of (k, film) actors) _
    (lines_up (k, film) actors
    (ascending-filter (λ (a b : ℕ × Actor). a.0 < b.0) (λ (it : ℕ × Actor). is_cast catalogue k it.0)
    (numbered catalogue.actors) (numbered_rise 1 catalogue.actors)))
    (films_up catalogue (k + 1) films)
    (of_film (k, film) actors _
    (λ actor. all-flat_map (λ line. Later ((k, film), actor) line) (λ (it : ℕ × Film). lines_of it (actors_of catalogue it.0)) (numbered_from (k + 1) films)
    (all_weaker (λ (it : ℕ × Film). k < it.0) _ (λ it h. of_film it (actors_of catalogue it.0) _ (λ other. inl h))
    (numbered_from (k + 1) films) (above_from (k + 1) films k (omega arith)))))

pub shows_films : (old new : State) (rows : List sql.Row) (books : Books) → IsShop old → Shown SELECT_FILMS.now [] old new rows
    → StandsFor old.now.trees books → AreApart books.catalogue.casts → AreThere books.catalogue books.catalogue.casts
    → rows ≡ map (shown_film books.catalogue) (film_lines books.catalogue)
shows_films old new rows books shop h s apart there =
    let catalogue = books.catalogue in
    let db = old.now.trees in
    let up : Climbs films_query (map (film_output catalogue) (film_lines catalogue)) =
    ascending-map _ (film_output catalogue) (film_lines catalogue)
    (ascending_weaker Later _ (climbs catalogue) (film_lines catalogue) (films_up catalogue 1 catalogue.films)) in
    joined_rows 14 with_category [] film_shows film_order [] db 12 film_columns (numbered catalogue.films) s.films refl (λ r. refl)
    (λ film. map (film_output catalogue) (lines_of film (actors_of catalogue film.0)))
    (λ film. film_brings catalogue db s.categories s.casts s.actors apart there film)
    rows (answers shop_schema SELECT_FILMS.now films_query [] old new shop films_mean rows h)
    (map (film_output catalogue) (film_lines catalogue)) (IsPermutation-same _ _
    (sym (map-flat_map (film_output catalogue) (λ (film : ℕ × Film). lines_of film (actors_of catalogue film.0)) (numbered catalogue.films))))
    up
    ∙ map-map (λ (o : Output). o.1) (film_output catalogue) (film_lines catalogue)
