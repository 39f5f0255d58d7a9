-- Lines of films. Neighbouring lines belong to one film.
use Rattle.shop_schema.proofs.Common.{◌≡◌, ◌==◌, ◌+◌, ◌<◌, ℕ, false, cond, List, [], ◌∷◌, ◌++◌, codes, map, Option, Some, None, refl, sym, ap, ◌∙◌, arith}
use Rattle.shop_schema.proofs.Common.{append-nil, IfSome, flat_map, join_by, nat_tests, numbered_from, Actor, Film, Catalogue, FilmRow, film_row, same_test}
use Rattle.shop_model.specs.Values as model
use Rattle.shop_views.specs.Names.{name_text}
use Rattle.shop_views.specs.Films.{film_with, seen_film}
use Rattle.shop_views.specs.declared.films.ListedFilm as rows
use Rattle.view_texts.specs.Shown.{FilmLine, actors_of, lines_of}
use Rattle.view_texts.specs.Films.{actor_name, names_of, film_alone, FilmPart, whole, seen_part, Grouped, closed, take_line, run_from}

pub run_push : (catalogue : Catalogue) (so_far : Grouped) (lines : List FilmLine) (line : FilmLine)
    → run_from catalogue so_far (lines ++ line ∷ []) ≡ take_line catalogue (run_from catalogue so_far lines) line
run_push catalogue so_far [] line = refl
run_push catalogue so_far (first ∷ lines) line = run_push catalogue (take_line catalogue so_far first) lines line

run_append : (catalogue : Catalogue) (so_far : Grouped) (a b : List FilmLine)
    → run_from catalogue so_far (a ++ b) ≡ run_from catalogue (run_from catalogue so_far a) b
run_append catalogue so_far [] b = refl
run_append catalogue so_far (line ∷ a) b = run_append catalogue (take_line catalogue so_far line) a b

-- ---- names that are joined

others_are : {X Y : Type 0} (g : Y → model.Text) (f : X → Y) (separator : model.Text) (xs : List X)
    → flat_map (λ x. separator ++ g (f x)) xs ≡ flat_map (λ y. separator ++ g y) (map f xs)
others_are g f separator [] = refl
others_are g f separator (x ∷ xs) = ap (λ (l : model.Text). (separator ++ g (f x)) ++ l) (others_are g f separator xs)

pub join_map : {X Y : Type 0} (g : Y → model.Text) (f : X → Y) (separator : model.Text) (xs : List X)
    → join_by (λ x. g (f x)) separator xs ≡ join_by g separator (map f xs)
join_map g f separator [] = refl
join_map g f separator (x ∷ xs) = ap (λ (l : model.Text). g (f x) ++ l) (others_are g f separator xs)

pub whole_seen : (row : rows.ListedFilm) → seen_film row ≡ whole (seen_part row)
whole_seen row = ap (λ (actors : model.Text). film_with actors row) (join_map (λ (name : model.Text). name) name_text (codes ", ") row.actors.items)

-- ---- the lines of one film

module _ (catalogue : Catalogue) (film : ℕ × Film) where
  abbrev part_of : List model.Text → FilmPart
  part_of names = (film_alone catalogue film, names)

  further : (films : List FilmRow) (names : List model.Text) (l : List (ℕ × Actor))
      → run_from catalogue (films, Some (part_of names)) (map (λ actor. (film, Some actor)) l) ≡ (films, Some (part_of (names ++ map actor_name l)))
  further films names [] = ap (λ t. (films, Some (part_of t))) (sym (append-nil names))
  further films names (it ∷ l) =
      let one : take_line catalogue (films, Some (part_of names)) (film, Some it) ≡ (films, Some (part_of (names ++ actor_name it ∷ []))) =
      ap (λ b.
      cond {A = Grouped} b (films, Some (part_of (names ++ actor_name it ∷ [])))
      (films ++ whole (part_of names) ∷ [], Some (film_alone catalogue film, names_of (Some it))))
      (same_test film.0) in
      ap (λ (s : Grouped). run_from catalogue s (map (λ actor. (film, Some actor)) l)) one ∙ further films (names ++ actor_name it ∷ []) l
      ∙ ap (λ t. (films, Some (part_of t))) (pushed names (actor_name it) (map actor_name l))
    where
      pushed : (a : List model.Text) (x : model.Text) (b : List model.Text) → (a ++ x ∷ []) ++ b ≡ a ++ x ∷ b
      pushed [] x b = refl
      pushed (y ∷ a) x b = ap (λ (l : List model.Text). y ∷ l) (pushed a x b)

  -- no film has begun, or an earlier film has
  abbrev IsBefore : Option FilmPart → Type 0
  IsBefore o = IfSome o (λ (part : FilmPart). part.0.number < film.0)

  starts : (so_far : Grouped) → IsBefore so_far.1 → (actor : Option (ℕ × Actor))
      → take_line catalogue so_far (film, actor) ≡ (closed so_far, Some (part_of (names_of actor)))
  starts (films, None) before actor = refl
  starts (films, Some part) before actor =
      ap
      (λ b. cond {A = Grouped} b (films, Some (part.0, part.1 ++ names_of actor)) (films ++ whole part ∷ [], Some (film_alone catalogue film, names_of actor)))
      (apart film.0 part.0.number before)
    where
      apart : (m n : ℕ) → n < m → (m == n) ≡ false
      apart m n h = grind (arith, nat_tests)

  one_film : (so_far : Grouped) → IsBefore so_far.1 → (l : List (ℕ × Actor))
      → run_from catalogue so_far (lines_of film l) ≡ (closed so_far, Some (part_of (map actor_name l)))
  one_film so_far before [] = starts so_far before None
  one_film so_far before (it ∷ l) =
      ap (λ (s : Grouped). run_from catalogue s (map (λ actor. (film, Some actor)) l)) (starts so_far before (Some it))
      ∙ further (closed so_far) (actor_name it ∷ []) l

  whole_is : whole (part_of (map actor_name (actors_of catalogue film.0))) ≡ film_row catalogue film
  whole_is =
      ap (λ (actors : model.Text). record (film_alone catalogue film) { actors = actors })
      (sym (join_map (λ (name : model.Text). name) actor_name (codes ", ") (actors_of catalogue film.0)))

-- ---- all films

pub all_films : (catalogue : Catalogue) (k : ℕ) (films : List Film) (so_far : Grouped) → IfSome so_far.1 (λ (part : FilmPart). part.0.number < k)
    → closed (run_from catalogue so_far (flat_map (λ (film : ℕ × Film). lines_of film (actors_of catalogue film.0)) (numbered_from k films)))
    ≡ closed so_far ++ map (film_row catalogue) (numbered_from k films)
all_films catalogue k [] so_far before = sym (append-nil (closed so_far))
all_films catalogue k (film ∷ films) so_far before =
    let rest = flat_map (λ (it : ℕ × Film). lines_of it (actors_of catalogue it.0)) (numbered_from (k + 1) films) in
    let part : FilmPart = (film_alone catalogue (k, film), map actor_name (actors_of catalogue k)) in
    let later = map (film_row catalogue) (numbered_from (k + 1) films) in
    ap closed
    (run_append catalogue so_far (lines_of (k, film) (actors_of catalogue k)) rest
    ∙ ap (λ (s : Grouped). run_from catalogue s rest) (one_film catalogue (k, film) so_far before (actors_of catalogue k)))
    ∙ all_films catalogue (k + 1) films (closed so_far, Some part) (omega arith)
    ∙ joined (closed so_far) (whole part) later ∙ ap (λ row. closed so_far ++ row ∷ later) (whole_is catalogue (k, film))
  where
    joined : (l : List FilmRow) (x : FilmRow) (m : List FilmRow) → (l ++ x ∷ []) ++ m ≡ l ++ x ∷ m
    joined [] x m = refl
    joined (y ∷ l) x m = ap (λ (n : List FilmRow). y ∷ n) (joined l x m)
