-- A branch gets the same replies in two states that are the same but for the order of maps and sets. Each step leaves such states.
use Rattle.shop_model.proofs.Common.{◌≡◌, inl, inr, ℕ, ◌+◌, List, [], ◌∷◌, ◌++◌, length, filter, find, Bool, true, false, Option, None, Some, refl, sym, ap}
use Rattle.shop_model.proofs.Common.{ap₂, subst, ◌∙◌, arith, length-append, ◌==◌, ◌&&◌, ◌||◌, nat_lt, nat_le, if◌then◌else◌, codes, option_or, bytes_eq}
use Rattle.shop_model.proofs.Common.{list_any, join_by, cases_Bool, find-append, list_any-append, at, is_empty, lacks, numbered, Moment, month_before, Text}
use Rattle.shop_model.proofs.Common.{Actor, Film, Cast, Act, AddCustomer, Import, Command, OfficeAct, AddCountry, AddCast, OfficeCommand, View, FilmList}
use Rattle.shop_model.proofs.Common.{ActorInfo, Ask, Rewards, OneView, Stock, Copies, BadLine, Rules, Refusal, KeyUsed, Full, MomentBack, NoStaff, NoFilm}
use Rattle.shop_model.proofs.Common.{FilmWithdrawn, LotIn, BadCsv, NoSharedRow, Already, BadThreshold, Kept, OfficeKept, Catalogue, Shop, same_command}
use Rattle.shop_model.proofs.Common.{same_office, rewarded_in, Verdict, Again, Refused, Accepted, first, staff_is, is_film_withdrawn, new_copies, is_full}
use Rattle.shop_model.proofs.Common.{import_refusals, act_refusals, is_before, refusals, verdict, office_refusals, office_verdict, object, acted, done}
use Rattle.shop_model.proofs.Common.{office_acted, office_told, office_done, Request, Do, Look, CustomersAre, Reply, Sorry, Shows, look, reply_by, reply_to}
use Rattle.shop_model.proofs.Common.{if_accepted, State, Input, FromOffice, Arrive, Own, shop_after, catalogue_after, moved, answers, rest_of_shop}
use Rattle.shop_model.proofs.Common.{rest_of_catalogue, SameShop, SameCatalogue, SameState, IsToldTheSame, OrderTellsNothing, resent_by}
use mathlib.Core.Path.{fun_ext}
use Rattle.std.specs.Prelude.{not, map}
use Rattle.shop_model.specs.Views.{sorted_by, is_before_text, full_name, is_cast, FilmRow, film_row, listed_film, film_list, categories_by_name, ActorRow}
use Rattle.shop_model.specs.Views.{actor_row, listed_actor, actor_info, view_rows}
use Rattle.shop_model.specs.Machine.{RowsAre}
use Rattle.shop_model.specs.Acts.{told}
use Rattle.shop_model.proofs.Reordered.{reordered_same}

-- ---- maps and sets that grow

-- what is found of a row more
found_more : {A : Type 0} (p : A → Bool) (xs ys : List A) (x y : A) → x ≡ y → find p xs ≡ find p ys → find p (xs ++ x ∷ []) ≡ find p (ys ++ y ∷ [])
found_more {A} p xs ys x y same e =
    find-append p xs (x ∷ []) ∙ ap₂ (λ (o : Option A) (z : A). option_or o (find p (z ∷ []))) e same ∙ sym (find-append p ys (y ∷ []))

any_more : {A : Type 0} (p : A → Bool) (xs ys : List A) (x : A) → list_any p xs ≡ list_any p ys → list_any p (xs ++ x ∷ []) ≡ list_any p (ys ++ x ∷ [])
any_more p xs ys x e = list_any-append p xs (x ∷ []) ∙ ap (λ (b : Bool). b || list_any p (x ∷ [])) e ∙ sym (list_any-append p ys (x ∷ []))

as_many : {A : Type 0} (xs ys : List A) (x y : A) → length xs ≡ length ys → length (xs ++ x ∷ []) ≡ length (ys ++ y ∷ [])
as_many xs ys x y e = let one = length-append xs (x ∷ []) in let other = length-append ys (y ∷ []) in omega (arith, e, one, other)

-- ---- a branch's verdicts

-- what follows from acceptance, and holds also where the command is answered otherwise
pub by_cases : (P : Verdict → Type 0) (v : Verdict) → (v ≡ Accepted → P Accepted)
    → ((text : Text) → v ≡ Again text → P (Again text)) → ((refusal : Refusal) → P (Refused refusal)) → P v
by_cases P (Again text) accepted again refused = again text refl
by_cases P (Refused refusal) accepted again refused = refused refusal
by_cases P Accepted accepted again refused = accepted refl

-- what holds of the one of two that a verdict chooses
pub by_verdict : {A : Type 0} (P : A → Type 0) (v : Verdict) (new old : A) → (v ≡ Accepted → P new) → P old → P (if_accepted v new old)
by_verdict P v new old accepted stays = by_cases (λ v. P (if_accepted v new old)) v accepted (λ _ _. stays) (λ _. stays)

abbrev found_by : {A : Type 0} → (A → Bool) → (A → Text) → Option A → Verdict → Verdict
found_by same reply None fresh = fresh
found_by same reply (Some k) fresh = if same k then Again (reply k) else Refused KeyUsed

found_is : {A : Type 0} (same : A → Bool) (reply : A → Text) (p : A → Bool) (kept : List A) (fresh : Verdict)
    → resent_by same reply (filter p kept) fresh ≡ found_by same reply (find p kept) fresh
found_is same reply p [] fresh = refl
found_is same reply p (k ∷ kept) fresh = elim (cases_Bool (p k)) [
  | inl is ↦ rw is
  | inr isnt ↦ rw isnt (found_is same reply p kept fresh)
]

copies_same : (rules : Rules) (act : Act) (s t : Shop) → rest_of_shop s ≡ rest_of_shop t → new_copies rules s act ≡ new_copies rules t act
copies_same rules (AddCustomer person) s t e = refl
copies_same rules act s t e = ap (λ (r : Shop). new_copies rules r act) e

full_same : (rules : Rules) (act : Act) (s t : Shop) → SameShop s t → is_full rules s act ≡ is_full rules t act
full_same rules act s t own =
    let full : ℕ → ℕ → Shop → Bool = λ keys new r. nat_le rules.commands keys || nat_lt 0 new && nat_lt rules.copies (length r.copies + new) in
    ap₂ (λ (keys new : ℕ). full keys new s) own.size (copies_same rules act s t own.rest)
    ∙ ap (λ (r : Shop). full (length t.kept) (new_copies rules t act) r) own.rest

import_same : (lot : Text) (stock : Stock) (c d : Catalogue) (s t : Shop) → SameCatalogue c d
    → SameShop s t → import_refusals c s lot stock ≡ import_refusals d t lot stock
import_same lot (Copies films) c d s t shared own =
    let tests : Catalogue → Bool → List (Refusal × Bool) =
    λ r is. (FilmWithdrawn, list_any (is_film_withdrawn r) films) ∷ (NoFilm, list_any (lacks r.films) films) ∷ (LotIn, is) ∷ [] in
    ap₂ tests shared.rest (own.lots lot)
import_same lot (BadLine line) c d s t shared own =
    let tests : Bool → List (Refusal × Bool) = λ is. (LotIn, is) ∷ (BadCsv line, true) ∷ [] in
    ap tests (own.lots lot)

acts_same : (rules : Rules) (b : ℕ) (moment : Moment) (act : Act) (c d : Catalogue) (s t : Shop) → SameCatalogue c d → SameShop s t
    → act_refusals rules b c s moment act ≡ act_refusals rules b d t moment act
acts_same rules b moment (Import lot file) c d s t shared own = import_same lot (rules.stock_of file) c d s t shared own
acts_same rules b moment act c d s t shared own = ap₂ (λ (q : Catalogue) (r : Shop). act_refusals rules b q r moment act) shared.rest own.rest

refusals_same : (rules : Rules) (b : ℕ) (command : Command) (c d : Catalogue) (s t : Shop) → SameCatalogue c d → SameShop s t
    → refusals rules b c s command ≡ refusals rules b d t command
refusals_same rules b command c d s t shared own =
    let tests : Bool → List (Refusal × Bool) → Catalogue → Shop → List (Refusal × Bool) =
    λ full more q r. (Full, full) ∷ (MomentBack, is_before command.moment r.last) ∷ (NoStaff, not (list_any (staff_is b) (at command.staff q.staff))) ∷ more in
    ap₂ (λ (full : Bool) (more : List (Refusal × Bool)). tests full more c s)
    (full_same rules command.act s t own) (acts_same rules b command.moment command.act c d s t shared own)
    ∙ ap₂ (tests (is_full rules t command.act) (act_refusals rules b d t command.moment command.act)) shared.rest own.rest

verdict_same : (rules : Rules) (b : ℕ) (command : Command) (c d : Catalogue) (s t : Shop) → SameCatalogue c d → SameShop s t
    → verdict rules b c s command ≡ verdict rules b d t command
verdict_same rules b command c d s t shared own =
    let under : Kept → Bool = λ k. bytes_eq k.command.key command.key in
    let same : Kept → Bool = λ k. same_command k.command command in
    found_is same _ under s.kept (first (refusals rules b c s command))
    ∙ ap₂ (λ (found : Option Kept) (tests : List (Refusal × Bool)). found_by same (λ k. k.reply) found (first tests))
    (own.kept command.key) (refusals_same rules b command c d s t shared own)
    ∙ sym (found_is same _ under t.kept (first (refusals rules b d t command)))

-- ---- what it does and replies

text_same : (rules : Rules) (act : Act) (s t : Shop) → rest_of_shop s ≡ rest_of_shop t → object (told rules act s) ≡ object (told rules act t)
text_same rules (AddCustomer person) s t e = ap (λ (r : Shop). object (told rules (AddCustomer person) r)) e
text_same rules act s t e = ap (λ (r : Shop). object (told rules act r)) e

rest_acted : (rules : Rules) (command : Command) (act : Act) (c d : Catalogue) (s t : Shop)
    → rest_of_catalogue c ≡ rest_of_catalogue d → rest_of_shop s ≡ rest_of_shop t
    → rest_of_shop (acted rules c command act s) ≡ rest_of_shop (acted rules d command act t)
rest_acted rules command (AddCustomer person) c d s t e f = ap₂ (λ (q : Catalogue) (r : Shop). rest_of_shop (acted rules q command (AddCustomer person) r)) e f
rest_acted rules command act c d s t e f = ap₂ (λ (q : Catalogue) (r : Shop). rest_of_shop (acted rules q command act r)) e f

lots_acted : (rules : Rules) (command : Command) (act : Act) (c d : Catalogue) (s t : Shop)
    → ((lot : Text) → list_any (bytes_eq lot) s.lots ≡ list_any (bytes_eq lot) t.lots)
    → (lot : Text) → list_any (bytes_eq lot) (acted rules c command act s).lots ≡ list_any (bytes_eq lot) (acted rules d command act t).lots
lots_acted rules command (Import new file) c d s t same lot = any_more (bytes_eq lot) s.lots t.lots new (same lot)
lots_acted rules command act c d s t same lot = same lot

done_same : (rules : Rules) (command : Command) (c d : Catalogue) (s t : Shop) → SameCatalogue c d
    → SameShop s t → SameShop (done rules c command s) (done rules d command t)
done_same rules command c d s t shared own =
    let same = text_same rules command.act s t own.rest in
    record {
      rest = ap (λ (r : Shop). record r { last = Some command.moment }) (rest_acted rules command command.act c d s t shared.rest own.rest);
      kept = λ key. found_more (λ (k : Kept). bytes_eq k.command.key key) s.kept t.kept _ _ (λ i. record { command = command; reply = same i }) (own.kept key);
      size = as_many s.kept t.kept _ _ own.size;
      lots = lots_acted rules command command.act c d s t own.lots;
    }

own_same : (rules : Rules) (b : ℕ) (request : Request) (c d : Catalogue) (s t : Shop) → SameCatalogue c d → SameShop s t
    → SameShop (shop_after rules b c s request) (shop_after rules b d t request)
own_same rules b (Do command) c d s t shared own =
    let Same : Verdict → Type 0 =
    λ v. SameShop (if_accepted (verdict rules b c s command) (done rules c command s) s) (if_accepted v (done rules d command t) t) in
    subst Same (verdict_same rules b command c d s t shared own)
    (by_cases (λ v. SameShop (if_accepted v (done rules c command s) s) (if_accepted v (done rules d command t) t))
    (verdict rules b c s command) (λ _. done_same rules command c d s t shared own) (λ _ _. own) (λ _. own))
own_same rules b request c d s t shared own = own

-- ---- what it is shown

-- the two views that tell casts, by who is said to be cast
abbrev films_by : (ℕ → ℕ → Bool) → Catalogue → List FilmRow
films_by plays rest =
    map (λ (it : ℕ × Film). record (film_row rest it) {
      actors = join_by (λ (a : ℕ × Actor). full_name a.1.first a.1.last) (codes ", ") (filter (λ (a : ℕ × Actor). plays it.0 a.0) (numbered rest.actors));
    }) (numbered rest.films)

abbrev played_by : (ℕ → ℕ → Bool) → Catalogue → ℕ → ℕ → List (ℕ × Film)
played_by plays rest actor category =
    sorted_by (λ (a b : ℕ × Film). is_before_text a.1.title b.1.title)
    (filter (λ (it : ℕ × Film). it.1.category == category && plays it.0 actor) (numbered rest.films))

abbrev actors_by : (ℕ → ℕ → Bool) → Catalogue → List ActorRow
actors_by plays rest =
    map (λ (it : ℕ × Actor). record (actor_row rest it) {
      films = join_by (λ (c : ℕ × Text). c.1 ++ codes ": " ++ join_by (λ (f : ℕ × Film). f.1.title) (codes ", ") (played_by plays rest it.0 c.0)) (codes "; ")
          (filter (λ (c : ℕ × Text). not (is_empty (played_by plays rest it.0 c.0))) (categories_by_name rest));
    }) (numbered rest.actors)

cast_same : (c d : Catalogue) → SameCatalogue c d → is_cast c ≡ is_cast d
cast_same c d shared = fun_ext (λ film. fun_ext (λ actor. shared.casts film actor))

film_list_same : (c d : Catalogue) → SameCatalogue c d → film_list c ≡ film_list d
film_list_same c d shared = ap₂ films_by (cast_same c d shared) shared.rest

actor_info_same : (c d : Catalogue) → SameCatalogue c d → actor_info c ≡ actor_info d
actor_info_same c d shared = ap₂ actors_by (cast_same c d shared) shared.rest

views_same : (b : ℕ) (view : View) (c d : Catalogue) (s t : Shop) → SameCatalogue c d → SameShop s t → view_rows b c s view ≡ view_rows b d t view
views_same b FilmList c d s t shared own = ap (map listed_film) (film_list_same c d shared)
views_same b ActorInfo c d s t shared own = ap (map listed_actor) (actor_info_same c d shared)
views_same b view c d s t shared own = ap₂ (λ (q : Catalogue) (r : Shop). view_rows b q r view) shared.rest own.rest

rewarded_same : (days : Option (ℕ × ℕ)) (purchases cents : ℕ) (s t : Shop) → rest_of_shop s ≡ rest_of_shop t
    → rewarded_in days s purchases cents ≡ rewarded_in days t purchases cents
rewarded_same None purchases cents s t e = refl
rewarded_same (Some days) purchases cents s t e = ap (λ (r : Shop). rewarded_in (Some days) r purchases cents) e

looks_same : (b : ℕ) (ask : Ask) (c d : Catalogue) (s t : Shop) → SameCatalogue c d → SameShop s t → look b c s ask ≡ look b d t ask
looks_same b (OneView view) c d s t shared own = ap (λ (texts : List Text). Shows (RowsAre texts)) (views_same b view c d s t shared own)
looks_same b (Rewards moment purchases cents) c d s t shared own =
    let told : List ℕ → Reply =
    λ customers. if nat_lt 0 purchases then (if nat_lt 0 cents then Shows (CustomersAre customers) else Sorry BadThreshold) else Sorry BadThreshold in
    ap told (rewarded_same (month_before moment) purchases cents s t own.rest)
looks_same b ask c d s t shared own = ap₂ (λ (q : Catalogue) (r : Shop). look b q r ask) shared.rest own.rest

reply_same : (rules : Rules) (b : ℕ) (request : Request) (c d : Catalogue) (s t : Shop) → SameCatalogue c d → SameShop s t
    → reply_to rules b c s request ≡ reply_to rules b d t request
reply_same rules b (Do command) c d s t shared own =
    ap₂ (λ (v : Verdict) (text : Text). reply_by v text) (verdict_same rules b command c d s t shared own) (text_same rules command.act s t own.rest)
reply_same rules b (Look ask) c d s t shared own = looks_same b ask c d s t shared own
reply_same rules b request c d s t shared own = refl

-- ---- head office's commands

office_acts_same : (act : OfficeAct) (c d : Catalogue) → SameCatalogue c d → office_refusals c act ≡ office_refusals d act
office_acts_same (AddCast cast) c d shared =
    let tests : Catalogue → Bool → List (Refusal × Bool) =
    λ q is. (NoFilm, lacks q.films cast.film) ∷ (NoSharedRow, lacks q.actors cast.actor) ∷ (Already, is) ∷ [] in
    ap₂ tests shared.rest (shared.casts cast.film cast.actor)
office_acts_same act c d shared = ap (λ (q : Catalogue). office_refusals q act) shared.rest

office_verdict_same : (rules : Rules) (command : OfficeCommand) (c d : Catalogue)
    → SameCatalogue c d → office_verdict rules c command ≡ office_verdict rules d command
office_verdict_same rules command c d shared =
    let under : OfficeKept → Bool = λ k. bytes_eq k.command.key command.key in
    let tests : ℕ → List (Refusal × Bool) → List (Refusal × Bool) = λ size more. (Full, nat_le rules.commands size) ∷ more in
    let is : OfficeKept → Bool = λ k. same_office k.command command in
    let same = ap₂ tests shared.size (office_acts_same command.act c d shared) in
    found_is is _ under c.kept (first (tests (length c.kept) (office_refusals c command.act)))
    ∙ ap₂ (λ (found : Option OfficeKept) (list : List (Refusal × Bool)). found_by is (λ k. k.reply) found (first list)) (shared.kept command.key) same
    ∙ sym (found_is is _ under d.kept (first (tests (length d.kept) (office_refusals d command.act))))

office_text_same : (act : OfficeAct) (c d : Catalogue) → rest_of_catalogue c ≡ rest_of_catalogue d → object (office_told act c) ≡ object (office_told act d)
office_text_same (AddCountry name) c d e = ap (λ (q : Catalogue). object (office_told (AddCountry name) q)) e
office_text_same act c d e = ap (λ (q : Catalogue). object (office_told act q)) e

office_rest : (act : OfficeAct) (c d : Catalogue) → rest_of_catalogue c ≡ rest_of_catalogue d
    → rest_of_catalogue (office_acted act c) ≡ rest_of_catalogue (office_acted act d)
office_rest (AddCountry name) c d e = ap (λ (q : Catalogue). rest_of_catalogue (office_acted (AddCountry name) q)) e
office_rest act c d e = ap (λ (q : Catalogue). rest_of_catalogue (office_acted act q)) e

office_casts : (act : OfficeAct) (c d : Catalogue) → ((film actor : ℕ) → is_cast c film actor ≡ is_cast d film actor)
    → (film actor : ℕ) → is_cast (office_acted act c) film actor ≡ is_cast (office_acted act d) film actor
office_casts (AddCast cast) c d same film actor = any_more (λ (it : Cast). it.film == film && it.actor == actor) c.casts d.casts cast (same film actor)
office_casts act c d same film actor = same film actor

office_done_same : (command : OfficeCommand) (c d : Catalogue) → SameCatalogue c d → SameCatalogue (office_done command c) (office_done command d)
office_done_same command c d shared =
    let same = office_text_same command.act c d shared.rest in
    record {
      rest = office_rest command.act c d shared.rest;
      kept = λ key.
          found_more (λ (k : OfficeKept). bytes_eq k.command.key key) c.kept d.kept _ _ (λ i. record { command = command; reply = same i }) (shared.kept key);
      size = as_many c.kept d.kept _ _ shared.size;
      casts = office_casts command.act c d shared.casts;
    }

office_same : (rules : Rules) (command : OfficeCommand) (c d : Catalogue) → SameCatalogue c d
    → SameCatalogue (catalogue_after rules command c) (catalogue_after rules command d)
office_same rules command c d shared =
    let Same : Verdict → Type 0 =
    λ v. SameCatalogue (if_accepted (office_verdict rules c command) (office_done command c) c) (if_accepted v (office_done command d) d) in
    subst Same (office_verdict_same rules command c d shared)
    (by_cases (λ v. SameCatalogue (if_accepted v (office_done command c) c) (if_accepted v (office_done command d) d))
    (office_verdict rules c command) (λ _. office_done_same command c d shared) (λ _ _. shared) (λ _. shared))

-- ---- all that reaches a branch

abbrev moved_shop : ℕ → List ℕ → Shop → Shop
moved_shop source films s = record s { arrivals = s.arrivals ++ record { source = source; films = films; received = false } ∷ [] }

arrived_same : (source : ℕ) (films : List ℕ) (s t : Shop) → SameShop s t → SameShop (moved_shop source films s) (moved_shop source films t)
arrived_same source films s t own = record {
  rest = ap (moved_shop source films) own.rest;
  kept = own.kept;
  size = own.size;
  lots = own.lots;
}

moved_same : (rules : Rules) (b : ℕ) (input : Input) (one other : State) → SameState one other → SameState (moved rules b input one) (moved rules b input other)
moved_same rules b (FromOffice command) one other same =
    record { catalogue = office_same rules command one.catalogue other.catalogue same.catalogue; shop = same.shop }
moved_same rules b (Arrive source films) one other same = record { catalogue = same.catalogue; shop = arrived_same source films one.shop other.shop same.shop }
moved_same rules b (Own request) one other same =
    record { catalogue = same.catalogue; shop = own_same rules b request one.catalogue other.catalogue one.shop other.shop same.catalogue same.shop }

answers_same : (rules : Rules) (b : ℕ) (input : Input) (one other : State) → SameState one other → answers rules b input one ≡ answers rules b input other
answers_same rules b (Own request) one other same =
    ap (λ (reply : Reply). reply ∷ []) (reply_same rules b request one.catalogue other.catalogue one.shop other.shop same.catalogue same.shop)
answers_same rules b input one other same = refl

pub told_same : (rules : Rules) (b : ℕ) (inputs : List Input) (one other : State) → SameState one other → IsToldTheSame rules b inputs one other
told_same rules b [] one other same = record { replies = refl; state = same }
told_same rules b (input ∷ inputs) one other same =
    let later = told_same rules b inputs (moved rules b input one) (moved rules b input other) (moved_same rules b input one other same) in
    record { replies = ap₂ (λ (now next : List Reply). now ++ next) (answers_same rules b input one other same) later.replies; state = later.state }

itself : (s : State) → SameState s s
itself s = record {
  catalogue = record { rest = refl; kept = λ key. refl; size = refl; casts = λ film actor. refl };
  shop = record { rest = refl; kept = λ key. refl; size = refl; lots = λ lot. refl };
}

pub order_tells_nothing : OrderTellsNothing
order_tells_nothing = record {
  told = told_same;
  equal = λ one other e. let Same : State → Type 0 = λ s. SameState one s in subst Same e (itself one);
  reordered = reordered_same;
}
