-- Lines of actors. Neighbouring lines belong to one actor, and among them neighbouring films belong to one category.
use Rattle.shop_schema.proofs.Common.{◌≡◌, ◌==◌, ◌+◌, ◌<◌, ℕ, false, cond, not, List, [], ◌∷◌, ◌++◌, codes, map, filter, Option, Some, None, option_map, refl}
use Rattle.shop_schema.proofs.Common.{sym, ap, ◌∙◌, arith, append-nil, append_assoc, IfSome, flat_map, join_by, AllByRecursion, nat_tests, IsAscending, all_of}
use Rattle.shop_schema.proofs.Common.{ascending_weaker, is_empty, numbered, numbered_from, Actor, Film, Catalogue, ActorRow, actor_row, films_of}
use Rattle.shop_schema.proofs.Common.{categories_by_name, same_test}
use Rattle.shop_model.specs.Values as model
use Rattle.shop_store.proofs.LastNumbers.{numbered_rise}
use Rattle.view_texts.specs.Actors.{FilmIn, ActorLine, films_by_category, lines_with, Group, text_of, told_film, Groups, every_group, take_film, take_any}
use Rattle.view_texts.specs.Actors.{ActorPart, actor_alone, whole, Grouped, closed, take_line, run_from}
use Rattle.view_texts.proofs.ByText.{Rises, sorted_up}
use Rattle.view_texts.proofs.FilmRuns.{join_map}

pub run_push : (so_far : Grouped) (lines : List ActorLine) (line : ActorLine) → run_from so_far (lines ++ line ∷ []) ≡ take_line (run_from so_far lines) line
run_push so_far [] line = refl
run_push so_far (first ∷ lines) line = run_push (take_line so_far first) lines line

run_append : (so_far : Grouped) (a b : List ActorLine) → run_from so_far (a ++ b) ≡ run_from (run_from so_far a) b
run_append so_far [] b = refl
run_append so_far (line ∷ a) b = run_append (take_line so_far line) a b

-- ---- the films of an actor

abbrev run_films : Groups → List FilmIn → Groups
run_films groups [] = groups
run_films groups (it ∷ its) = run_films (take_film groups (told_film it)) its

films_append : (groups : Groups) (a b : List FilmIn) → run_films groups (a ++ b) ≡ run_films (run_films groups a) b
films_append groups [] b = refl
films_append groups (it ∷ a) b = films_append (take_film groups (told_film it)) a b

abbrev title_of : ℕ × Film → model.Text
title_of it = it.1.title

abbrev titles : List (ℕ × Film) → List model.Text
titles = map title_of

module _ (c : ℕ × model.Text) where
  abbrev in_it : List (ℕ × Film) → List FilmIn
  in_it l = map (λ (film : ℕ × Film). (c, film)) l

  more_films : (groups : List Group) (names : List model.Text) (l : List (ℕ × Film))
      → run_films (groups, Some (c.0, (c.1, names))) (in_it l) ≡ (groups, Some (c.0, (c.1, names ++ titles l)))
  more_films groups names [] = ap (λ (t : List model.Text). (groups, Some (c.0, (c.1, t)))) (sym (append-nil names))
  more_films groups names (it ∷ l) =
      let one : take_film (groups, Some (c.0, (c.1, names))) (told_film (c, it)) ≡ (groups, Some (c.0, (c.1, names ++ title_of it ∷ []))) =
      ap (λ b. cond {A = Groups} b (groups, Some (c.0, (c.1, names ++ title_of it ∷ []))) (groups ++ (c.1, names) ∷ [], Some (c.0, (c.1, title_of it ∷ []))))
      (same_test c.0) in
      ap (λ (s : Groups). run_films s (in_it l)) one ∙ more_films groups (names ++ title_of it ∷ []) l
      ∙ ap (λ (t : List model.Text). (groups, Some (c.0, (c.1, t)))) (append_assoc names (title_of it ∷ []) (titles l))

  -- no category has begun, or another category has
  abbrev IsOther : Option (ℕ × Group) → Type 0
  IsOther o = IfSome o (λ (it : ℕ × Group). (c.0 == it.0) ≡ false)

  begins : (so_far : Groups) → IsOther so_far.1 → (it : ℕ × Film)
      → take_film so_far (told_film (c, it)) ≡ (every_group so_far, Some (c.0, (c.1, title_of it ∷ [])))
  begins (groups, None) other it = refl
  begins (groups, Some last) other it =
      ap
      (λ b. cond {A = Groups} b (groups, Some (last.0, (last.1.0, last.1.1 ++ title_of it ∷ []))) (groups ++ last.1 ∷ [], Some (c.0, (c.1, title_of it ∷ []))))
      other

  one_category : (so_far : Groups) → IsOther so_far.1 → (it : ℕ × Film) (l : List (ℕ × Film))
      → run_films so_far (in_it (it ∷ l)) ≡ (every_group so_far, Some (c.0, (c.1, titles (it ∷ l))))
  one_category so_far other it l = ap (λ (s : Groups). run_films s (in_it l)) (begins so_far other it) ∙ more_films (every_group so_far) (title_of it ∷ []) l

abbrev AreApart : List (ℕ × model.Text) → Type 0
AreApart = IsAscending (λ (a b : ℕ × model.Text). (b.0 == a.0) ≡ false)

module _ (films : ℕ × model.Text → List (ℕ × Film)) where
  abbrev group_of : ℕ × model.Text → Group
  group_of c = (c.1, titles (films c))

  abbrev shown_groups : List (ℕ × model.Text) → List Group
  shown_groups cs = map group_of (filter (λ (c : ℕ × model.Text). not (is_empty (films c))) cs)

  abbrev films_in : List (ℕ × model.Text) → List FilmIn
  films_in cs = flat_map (λ (c : ℕ × model.Text). in_it c (films c)) cs

  -- films that come category by category are grouped by category
  all_categories : (cs : List (ℕ × model.Text)) → AreApart cs → (so_far : Groups) → AllByRecursion (λ (c : ℕ × model.Text). IsOther c so_far.1) cs
      → every_group (run_films so_far (films_in cs)) ≡ every_group so_far ++ shown_groups cs
  all_categories [] apart so_far other = sym (append-nil (every_group so_far))
  all_categories (c ∷ cs) apart so_far other = go (films c) refl (all_categories cs apart.1)
    where
      go : (l : List (ℕ × Film)) → films c ≡ l
          → ((s : Groups) → AllByRecursion (λ (d : ℕ × model.Text). IsOther d s.1) cs
          → every_group (run_films s (films_in cs)) ≡ every_group s ++ shown_groups cs)
          → every_group (run_films so_far (in_it c l ++ films_in cs))
          ≡ every_group so_far
          ++ map group_of
          (cond (not (is_empty l)) (c ∷ filter (λ (d : ℕ × model.Text). not (is_empty (films d))) cs)
          (filter (λ (d : ℕ × model.Text). not (is_empty (films d))) cs))
      go [] is more = more so_far other.1
      go (it ∷ l) is more =
          let whole_one : Group = (c.1, titles (it ∷ l)) in
          ap every_group
          (films_append so_far (in_it c (it ∷ l)) (films_in cs) ∙ ap (λ (s : Groups). run_films s (films_in cs)) (one_category c so_far other.0 it l))
          ∙ more (every_group so_far, Some (c.0, whole_one)) apart.0
          ∙ append_assoc (every_group so_far) (whole_one ∷ []) (shown_groups cs)
          ∙ ap (λ (k : List (ℕ × Film)). every_group so_far ++ (c.1, titles k) ∷ shown_groups cs) (sym is)

-- ---- the lines of one actor

module _ (actor : ℕ × Actor) where
  abbrev part_of : Groups → ActorPart
  part_of groups = (actor_alone actor, groups)

  further : (actors : List ActorRow) (groups : Groups) (l : List FilmIn)
      → run_from (actors, Some (part_of groups)) (map (λ film. (actor, Some film)) l) ≡ (actors, Some (part_of (run_films groups l)))
  further actors groups [] = refl
  further actors groups (it ∷ l) =
      let one : take_line (actors, Some (part_of groups)) (actor, Some it) ≡ (actors, Some (part_of (take_film groups (told_film it)))) =
      ap (λ b.
      cond {A = Grouped} b (actors, Some (part_of (take_film groups (told_film it))))
      (actors ++ whole (part_of groups) ∷ [], Some (part_of (take_film ([], None) (told_film it)))))
      (same_test actor.0) in
      ap (λ (s : Grouped). run_from s (map (λ film. (actor, Some film)) l)) one ∙ further actors (take_film groups (told_film it)) l

  -- no actor has begun, or an earlier actor has
  abbrev IsBefore : Option ActorPart → Type 0
  IsBefore o = IfSome o (λ (part : ActorPart). part.0.number < actor.0)

  starts : (so_far : Grouped) → IsBefore so_far.1 → (film : Option FilmIn)
      → take_line so_far (actor, film) ≡ (closed so_far, Some (part_of (take_any ([], None) (option_map told_film film))))
  starts (actors, None) before film = refl
  starts (actors, Some part) before film =
      ap (λ b.
      cond {A = Grouped} b (actors, Some (part.0, take_any part.1 (option_map told_film film)))
      (actors ++ whole part ∷ [], Some (part_of (take_any ([], None) (option_map told_film film)))))
      (apart actor.0 part.0.number before)
    where
      apart : (m n : ℕ) → n < m → (m == n) ≡ false
      apart m n h = grind (arith, nat_tests)

  one_actor : (so_far : Grouped) → IsBefore so_far.1 → (l : List FilmIn)
      → run_from so_far (lines_with actor l) ≡ (closed so_far, Some (part_of (run_films ([], None) l)))
  one_actor so_far before [] = starts so_far before None
  one_actor so_far before (it ∷ l) =
      ap (λ (s : Grouped). run_from s (map (λ film. (actor, Some film)) l)) (starts so_far before (Some it))
      ∙ further (closed so_far) (take_film ([], None) (told_film it)) l

  whole_is : (catalogue : Catalogue) → whole (part_of (run_films ([], None) (films_by_category catalogue actor.0))) ≡ actor_row catalogue actor
  whole_is catalogue =
      let films : ℕ × model.Text → List (ℕ × Film) = λ c. films_of catalogue actor.0 c.0 in
      let cs = categories_by_name catalogue in
      let kept = filter (λ (c : ℕ × model.Text). not (is_empty (films c))) cs in
      let apart : AreApart cs =
      ascending_weaker (Rises (λ (c : ℕ × model.Text). c.1)) (λ (a b : ℕ × model.Text). (b.0 == a.0) ≡ false) (λ a b h. h.1) cs
      (sorted_up (λ (c : ℕ × model.Text). c.1) (numbered catalogue.categories) (numbered_rise 1 catalogue.categories)) in
      ap (λ (groups : List Group). record (actor_alone actor) { films = join_by text_of (codes "; ") groups })
      (all_categories films cs apart ([], None) (all_of _ (λ c. tt) cs))
      ∙ ap (λ (text : model.Text). record (actor_alone actor) { films = text }) (sym (join_map text_of (group_of films) (codes "; ") kept))
      ∙ (λ i.
      record (actor_alone actor) {
        films =
            join_by (λ (c : ℕ × model.Text). c.1 ++ codes ": " ++ sym (join_map (λ (title : model.Text). title) title_of (codes ", ") (films c)) i)
            (codes "; ") kept;
      })

-- ---- all actors

pub all_actors : (catalogue : Catalogue) (k : ℕ) (actors : List Actor) (so_far : Grouped) → IfSome so_far.1 (λ (part : ActorPart). part.0.number < k)
    → closed (run_from so_far (flat_map (λ (actor : ℕ × Actor). lines_with actor (films_by_category catalogue actor.0)) (numbered_from k actors)))
    ≡ closed so_far ++ map (actor_row catalogue) (numbered_from k actors)
all_actors catalogue k [] so_far before = sym (append-nil (closed so_far))
all_actors catalogue k (actor ∷ actors) so_far before =
    let rest = flat_map (λ (it : ℕ × Actor). lines_with it (films_by_category catalogue it.0)) (numbered_from (k + 1) actors) in
    let part : ActorPart = part_of (k, actor) (run_films ([], None) (films_by_category catalogue k)) in
    let later = map (actor_row catalogue) (numbered_from (k + 1) actors) in
    ap closed
    (run_append so_far (lines_with (k, actor) (films_by_category catalogue k)) rest
    ∙ ap (λ (s : Grouped). run_from s rest) (one_actor (k, actor) so_far before (films_by_category catalogue k)))
    ∙ all_actors catalogue (k + 1) actors (closed so_far, Some part) (omega arith)
    ∙ append_assoc (closed so_far) (whole part ∷ []) later ∙ ap (λ row. closed so_far ++ row ∷ later) (whole_is (k, actor) catalogue)
