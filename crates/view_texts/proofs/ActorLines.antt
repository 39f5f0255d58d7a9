-- How a row of the actors' join is taken.
use Rattle.shop_schema.proofs.Common.{◌≡◌, ◌==◌, ℕ, Bool, true, false, cond, List, [], ◌∷◌, ◌++◌, codes, map, Option, Some, None, option_map, refl, sym, ap}
use Rattle.shop_schema.proofs.Common.{subst, ◌∙◌, join_by, map-append, column, number_value, same_number, ActorRow}
use Rattle.shop_model.specs.Views.{listed_actor}
use Rattle.sqlite.specs.declared.types.Value.TheVariants.{Text}
use Rattle.sqlite_value.specs.Order as sql
use Rattle.shop_model.specs.Values as model
use Rattle.shop_views.specs.Films.{films_text}
use Rattle.shop_views.specs.Page.{Page, HasTexts}
use Rattle.shop_views.specs.declared.actors.FilmGroup.{FilmGroup}
use Rattle.view_texts.specs.declared.actors.OpenGroup.{OpenGroup}
use Rattle.view_texts.specs.declared.actors.StartedActor.{StartedActor}
use Rattle.view_texts.specs.Actors.{ActorLine, Group, Groups, ToldFilm, shown_actor, text_of, told_film, take_film, take_any, every_group, seen_group}
use Rattle.view_texts.specs.Actors.{seen_open, ActorPart, actor_alone, whole, seen_part, Grouped, closed, take_line, runs}
use Rattle.sql_rows.proofs.EachLemmas.{split_last}
use Rattle.view_texts.proofs.PersonLines.{same_words}
use Rattle.view_texts.proofs.FilmRuns.{join_map}
use Rattle.view_texts.proofs.ActorRuns.{run_push}

-- if `groups` are all groups of the actor, their text is the actor's films
pub whole_seen : (actor : StartedActor) (groups : List FilmGroup) → map seen_group groups ≡ every_group (seen_part actor).1
    → join_by films_text (codes "; ") groups ≡ (whole (seen_part actor)).films
whole_seen actor groups is = join_map text_of seen_group (codes "; ") groups ∙ ap (join_by text_of (codes "; ")) is

-- ---- films of an actor: one begins the first category, belongs to the category under way, or begins another

abbrev with_group : List Group → ToldFilm → ℕ × Group → Bool → Groups
with_group complete film open_one same =
    cond {A = Groups} same (complete, Some (open_one.0, (open_one.1.0, open_one.1.1 ++ film.2 ∷ [])))
    (complete ++ open_one.1 ∷ [], Some (film.0, (film.1, film.2 ∷ [])))

pub first_group : (complete : List Group) (film : ToldFilm) (fresh : ℕ × Group) (held : Option (ℕ × Group))
    → fresh ≡ (film.0, (film.1, film.2 ∷ [])) → held ≡ None
    → ◌≡◌ {A = Groups} (complete, Some fresh) (take_film (complete, held) film)
first_group complete film fresh held is none =
    subst (λ (o : Option (ℕ × Group)). ◌≡◌ {A = Groups} (complete, Some fresh) (take_film (complete, o) film)) (sym none) (λ i. (complete, Some (is i)))

pub same_group : (complete : List Group) (film : ToldFilm) (open_one it : ℕ × Group) (held : Option (ℕ × Group)) → (film.0 == open_one.0) ≡ true
    → it ≡ (open_one.0, (open_one.1.0, open_one.1.1 ++ film.2 ∷ [])) → held ≡ Some open_one
    → ◌≡◌ {A = Groups} (complete, Some it) (take_film (complete, held) film)
same_group complete film open_one it held same is there =
    subst (λ (o : Option (ℕ × Group)). ◌≡◌ {A = Groups} (complete, Some it) (take_film (complete, o) film)) (sym there)
    ((λ i. (complete, Some (is i))) ∙ ap (with_group complete film open_one) (sym same))

pub next_group : (complete more : List FilmGroup) (film : ToldFilm) (group : OpenGroup) (fresh : ℕ × Group) (held : Option (ℕ × Group))
    → (film.0 == group.number) ≡ false → more ≡ complete ++ group.films ∷ []
    → fresh ≡ (film.0, (film.1, film.2 ∷ [])) → held ≡ Some (seen_open group)
    → ◌≡◌ {A = Groups} (map seen_group more, Some fresh) (take_film (map seen_group complete, held) film)
next_group complete more film group fresh held other pushed is there =
    subst (λ (o : Option (ℕ × Group)). ◌≡◌ {A = Groups} (map seen_group more, Some fresh) (take_film (map seen_group complete, o) film)) (sym there)
    ((λ i. ((ap (map seen_group) pushed ∙ map-append seen_group complete (group.films ∷ [])) i, Some (is i)))
    ∙ ap (with_group (map seen_group complete) film (seen_open group)) (sym other))

-- ---- an actor

pub actor_is : (row : sql.Row) (number : ℕ) (first last : model.Text) (complete : List FilmGroup)
    → column row 0 ≡ number_value number → column row 1 ≡ Text first → column row 2 ≡ Text last → complete ≡ []
    → (line : ActorLine) → row ≡ shown_actor line
    → ◌≡◌ {A = ActorPart} (record { number = number; first = first; last = last; films = [] }, (map seen_group complete, None)) (actor_alone line.0, ([], None))
actor_is row number first last complete at0 at1 at2 none line is =
    let numbers : number ≡ line.0.0 = same_number _ _ (sym at0 ∙ ap (λ r. column r 0) is) in
    let firsts : first ≡ line.0.1.first = same_words _ _ (sym at1 ∙ ap (λ r. column r 1) is) in
    let lasts : last ≡ line.0.1.last = same_words _ _ (sym at2 ∙ ap (λ r. column r 2) is) in
    (λ i. (record { number = numbers i; first = firsts i; last = lasts i; films = [] }, (map seen_group (none i), None)))

-- ---- the next actor

-- the effect of a line: the actor under way, and the actors on the page, after the line was taken
abbrev pub Takes : Page → Page → Option StartedActor → StartedActor → ActorLine → List ActorRow → Type 0
Takes old new held it line actors =
    HasTexts old (map listed_actor actors)
    → HasTexts new (map listed_actor (take_line (actors, option_map seen_part held) line).0)
    × (◌≡◌ {A = Option ActorPart} (Some (seen_part it)) (take_line (actors, option_map seen_part held) line).1)

pushed_actor : (actors : List ActorRow) (row : ActorRow) → map listed_actor actors ++ listed_actor row ∷ [] ≡ map listed_actor (actors ++ row ∷ [])
pushed_actor actors row = sym (map-append listed_actor actors (row ∷ []))

-- a row of another actor: the actor before goes on the page
pub other_actor : (old new : Page) (row : sql.Row) (line : ActorLine) (actors : List ActorRow) (number : ℕ) (actor fresh it : StartedActor)
    → column row 0 ≡ number_value number → row ≡ shown_actor line → (number == actor.number) ≡ false
    → ((texts : List model.Text) → HasTexts old texts → HasTexts new (texts ++ listed_actor (whole (seen_part actor)) ∷ []))
    → seen_part fresh ≡ (actor_alone line.0, ([], None)) → seen_part it ≡ ((seen_part fresh).0, take_any (seen_part fresh).1 (option_map told_film line.1))
    → (held : Option StartedActor) → held ≡ Some actor → Takes old new held it line actors
other_actor old new row line actors number actor fresh it numbered shown other added alone seen held is =
    let place : number ≡ line.0.0 = same_number _ _ (sym numbered ∙ ap (λ r. column r 0) shown) in
    let apart : (line.0.0 == actor.number) ≡ false = subst (λ n. (n == actor.number) ≡ false) place other in
    let begun : ActorPart = (actor_alone line.0, take_any ([], None) (option_map told_film line.1)) in
    let taken : take_line (actors, Some (seen_part actor)) line ≡ (actors ++ whole (seen_part actor) ∷ [], Some begun) =
    ap (λ b.
    cond {A = Grouped} b (actors, Some ((seen_part actor).0, take_any (seen_part actor).1 (option_map told_film line.1)))
    (actors ++ whole (seen_part actor) ∷ [], Some begun))
    apart in
    let began : seen_part it ≡ begun = seen ∙ ap (λ (part : ActorPart). (part.0, take_any part.1 (option_map told_film line.1))) alone in
    subst (λ (o : Option StartedActor). Takes old new o it line actors) (sym is)
    (λ on. (
      subst (HasTexts new) (pushed_actor actors (whole (seen_part actor)) ∙ ap (λ (s : Grouped). map listed_actor s.0) (sym taken))
          (added (map listed_actor actors) on),
      ap Some began ∙ ap (λ (s : Grouped). s.1) (sym taken),
    ))

-- ---- the last actor

-- the page has all actors, once the last actor is on the page
pub last_actor : (old new : Page) (actors : List ActorRow) (actor : StartedActor)
    → ((texts : List model.Text) → HasTexts old texts → HasTexts new (texts ++ listed_actor (whole (seen_part actor)) ∷ []))
    → HasTexts old (map listed_actor actors) → (held : Option StartedActor) → held ≡ Some actor
    → HasTexts new (map listed_actor (closed (actors, option_map seen_part held)))
last_actor old new actors actor added on held is =
    subst (λ (o : Option StartedActor). HasTexts new (map listed_actor (closed (actors, option_map seen_part o))))
    (sym is) (subst (HasTexts new) (pushed_actor actors (whole (seen_part actor))) (added (map listed_actor actors) on))

pub no_last_actor : (page : Page) (actors : List ActorRow) → HasTexts page (map listed_actor actors)
    → (held : Option StartedActor) → held ≡ None → HasTexts page (map listed_actor (closed (actors, option_map seen_part held)))
no_last_actor page actors on held is =
    subst (λ (o : Option StartedActor). HasTexts page (map listed_actor (closed (actors, option_map seen_part o)))) (sym is) on

-- ---- one row more

pub actor_taken : (old new : Page) (held taken : Option StartedActor) (it : StartedActor) (given : List sql.Row) (row : sql.Row) → taken ≡ held
    → ((line : ActorLine) (actors : List ActorRow) → row ≡ shown_actor line → Takes old new taken it line actors)
    → ((lines : List ActorLine) → given ≡ map shown_actor lines → HasTexts old (map listed_actor (runs lines).0) × (option_map seen_part held ≡ (runs lines).1))
    → (lines : List ActorLine) → given ++ row ∷ [] ≡ map shown_actor lines
    → HasTexts new (map listed_actor (runs lines).0) × (◌≡◌ {A = Option ActorPart} (Some (seen_part it)) (runs lines).1)
actor_taken old new held taken it given row same next so_far lines e =
    let parts = split_last shown_actor given row lines e in
    let before = so_far parts.0 parts.2 in
    let after = next parts.1 (runs parts.0).0 parts.3 before.0 in
    let state : ◌≡◌ {A = Grouped} ((runs parts.0).0, option_map seen_part taken) (runs parts.0) =
    (λ i. ((runs parts.0).0, (ap (option_map seen_part) same ∙ before.1) i)) in
    let run : take_line ((runs parts.0).0, option_map seen_part taken) parts.1 ≡ runs lines =
    ap (λ (s : Grouped). take_line s parts.1) state ∙ sym (run_push ([], None) parts.0 parts.1) ∙ ap runs (sym parts.4) in
    (subst (λ (s : Grouped). HasTexts new (map listed_actor s.0)) run after.0, after.1 ∙ ap (λ (s : Grouped). s.1) run)

pub nothing_taken : (page : Page) → HasTexts page [] → (lines : List ActorLine) → [] ≡ map shown_actor lines
    → HasTexts page (map listed_actor (runs lines).0) × (◌≡◌ {A = Option ActorPart} None (runs lines).1)
nothing_taken page new [] e = (new, refl)
nothing_taken page new (line ∷ lines) e = absurd cc
