-- Each command of head office keeps what holds of the catalogue.
use Rattle.shop_model.proofs.Common.{◌≡◌, ℕ, ◌≤◌, [], ◌∷◌, ◌++◌, filter, length, true, false, not, None, Some, refl, ◌∙◌, arith, length-append, ◌==◌, ◌&&◌}
use Rattle.shop_model.proofs.Common.{nat_le, option_to_list, list_any, list_all, bytes_eq, or_parts, at, lacks, Text, City, Film, Cast, Branch, Staff}
use Rattle.shop_model.proofs.Common.{OfficeAct, AddCountry, AddCity, AddLanguage, AddCategory, AddActor, AddFilm, PriceFilm, WithdrawFilm, AddCast, AddBranch}
use Rattle.shop_model.proofs.Common.{AddStaff, StaffLeaves, SetManager, OfficeCommand, Rules, Full, OfficeKept, Catalogue, Accepted, first, office_refusals}
use Rattle.shop_model.proofs.Common.{office_verdict, office_acted, office_done, office_text, has_row, are_different, is_staff_of, NamesRowsOf, HasSharedSizes}
use Rattle.shop_model.proofs.Common.{HasNoDoubles, IsGoodCatalogue}
use Rattle.shop_model.proofs.Accepted.{NoneHold, nothing_kept, none_hold}
use Rattle.shop_model.proofs.GoodShops.{all_more, all_weaker, length_set, key_room}
use Rattle.shop_model.proofs.LinkLemmas.{all_set, some_passes, has_more, has_set, any_at_more, any_at_set, all_at_more, all_at_set, different_more}
use Rattle.shop_model.proofs.LinkLemmas.{different_set, none_left, is_there}

-- what is there in the one is there in the other
pub record Grows (old new : Catalogue) : Type 0 where
  pub countries : (n : ℕ) → has_row old.countries n ≡ true → has_row new.countries n ≡ true
  pub cities : (n : ℕ) → has_row old.cities n ≡ true → has_row new.cities n ≡ true
  pub languages : (n : ℕ) → has_row old.languages n ≡ true → has_row new.languages n ≡ true
  pub categories : (n : ℕ) → has_row old.categories n ≡ true → has_row new.categories n ≡ true
  pub actors : (n : ℕ) → has_row old.actors n ≡ true → has_row new.actors n ≡ true
  pub films : (n : ℕ) → has_row old.films n ≡ true → has_row new.films n ≡ true
  pub branches : (n : ℕ) → has_row old.branches n ≡ true → has_row new.branches n ≡ true
  pub staff : (b s : ℕ) → is_staff_of b old.staff s ≡ true → is_staff_of b new.staff s ≡ true

office_grows : (act : OfficeAct) (it : Catalogue) → Grows it (office_acted act it)
office_grows (AddCountry name) it = record {
  countries = λ n h. has_more n it.countries (name ∷ []) h;
  cities = λ n h. h;
  languages = λ n h. h;
  categories = λ n h. h;
  actors = λ n h. h;
  films = λ n h. h;
  branches = λ n h. h;
  staff = λ c n h. h;
}
office_grows (AddCity city) it = record {
  countries = λ n h. h;
  cities = λ n h. has_more n it.cities (city ∷ []) h;
  languages = λ n h. h;
  categories = λ n h. h;
  actors = λ n h. h;
  films = λ n h. h;
  branches = λ n h. h;
  staff = λ c n h. h;
}
office_grows (AddLanguage name) it = record {
  countries = λ n h. h;
  cities = λ n h. h;
  languages = λ n h. has_more n it.languages (name ∷ []) h;
  categories = λ n h. h;
  actors = λ n h. h;
  films = λ n h. h;
  branches = λ n h. h;
  staff = λ c n h. h;
}
office_grows (AddCategory name) it = record {
  countries = λ n h. h;
  cities = λ n h. h;
  languages = λ n h. h;
  categories = λ n h. has_more n it.categories (name ∷ []) h;
  actors = λ n h. h;
  films = λ n h. h;
  branches = λ n h. h;
  staff = λ c n h. h;
}
office_grows (AddActor actor) it = record {
  countries = λ n h. h;
  cities = λ n h. h;
  languages = λ n h. h;
  categories = λ n h. h;
  actors = λ n h. has_more n it.actors (actor ∷ []) h;
  films = λ n h. h;
  branches = λ n h. h;
  staff = λ c n h. h;
}
office_grows (AddFilm film) it = record {
  countries = λ n h. h;
  cities = λ n h. h;
  languages = λ n h. h;
  categories = λ n h. h;
  actors = λ n h. h;
  films = λ n h. has_more n it.films ((record film { withdrawn = false }) ∷ []) h;
  branches = λ n h. h;
  staff = λ c n h. h;
}
office_grows (PriceFilm f rate) it = record {
  countries = λ n h. h;
  cities = λ n h. h;
  languages = λ n h. h;
  categories = λ n h. h;
  actors = λ n h. h;
  films = λ n h. has_set n f (λ (x : Film). record x { rate = rate }) it.films ∙ h;
  branches = λ n h. h;
  staff = λ c n h. h;
}
office_grows (WithdrawFilm f) it = record {
  countries = λ n h. h;
  cities = λ n h. h;
  languages = λ n h. h;
  categories = λ n h. h;
  actors = λ n h. h;
  films = λ n h. has_set n f (λ (x : Film). record x { withdrawn = true }) it.films ∙ h;
  branches = λ n h. h;
  staff = λ c n h. h;
}
office_grows (AddBranch branch) it = record {
  countries = λ n h. h;
  cities = λ n h. h;
  languages = λ n h. h;
  categories = λ n h. h;
  actors = λ n h. h;
  films = λ n h. h;
  branches = λ n h. has_more n it.branches ((record branch { manager = None }) ∷ []) h;
  staff = λ c n h. h;
}
office_grows (AddStaff staff) it = record {
  countries = λ n h. h;
  cities = λ n h. h;
  languages = λ n h. h;
  categories = λ n h. h;
  actors = λ n h. h;
  films = λ n h. h;
  branches = λ n h. h;
  staff = λ c n h. any_at_more (λ (x : Staff). x.branch == c) n it.staff ((record staff { gone = false }) ∷ []) h;
}
office_grows (StaffLeaves s) it = record {
  countries = λ n h. h;
  cities = λ n h. h;
  languages = λ n h. h;
  categories = λ n h. h;
  actors = λ n h. h;
  films = λ n h. h;
  branches = λ n h. h;
  staff = λ c n h. any_at_set (λ (x : Staff). x.branch == c) n s (λ (x : Staff). record x { gone = true }) it.staff (λ x. refl) ∙ h;
}
office_grows (SetManager b s) it = record {
  countries = λ n h. h;
  cities = λ n h. h;
  languages = λ n h. h;
  categories = λ n h. h;
  actors = λ n h. h;
  films = λ n h. h;
  branches = λ n h. has_set n b (λ (x : Branch). record x { manager = Some s }) it.branches ∙ h;
  staff = λ c n h. h;
}
office_grows act it = record {
  countries = λ n h. h;
  cities = λ n h. h;
  languages = λ n h. h;
  categories = λ n h. h;
  actors = λ n h. h;
  films = λ n h. h;
  branches = λ n h. h;
  staff = λ c n h. h;
}

-- ---- names

names_grow : (old new rows : Catalogue) → Grows old new → NamesRowsOf old rows → NamesRowsOf new rows
names_grow old new rows g h = record {
  city_countries = all_weaker (λ (x : City). has_row old.countries x.country) _ rows.cities (λ (x : City) is. g.countries x.country is) h.city_countries;
  film_languages = all_weaker (λ (x : Film). has_row old.languages x.language) _ rows.films (λ (x : Film) is. g.languages x.language is) h.film_languages;
  film_categories = all_weaker (λ (x : Film). has_row old.categories x.category) _ rows.films (λ (x : Film) is. g.categories x.category is) h.film_categories;
  cast_films = all_weaker (λ (x : Cast). has_row old.films x.film) _ rows.casts (λ (x : Cast) is. g.films x.film is) h.cast_films;
  cast_actors = all_weaker (λ (x : Cast). has_row old.actors x.actor) _ rows.casts (λ (x : Cast) is. g.actors x.actor is) h.cast_actors;
  branch_cities = all_weaker (λ (x : Branch). has_row old.cities x.city) _ rows.branches (λ (x : Branch) is. g.cities x.city is) h.branch_cities;
  managers = λ b.
      all_weaker (λ (x : Branch). list_all (is_staff_of b old.staff) (option_to_list x.manager))
      (λ (x : Branch). list_all (is_staff_of b new.staff) (option_to_list x.manager)) (at b rows.branches)
      (λ (x : Branch) is. all_weaker (is_staff_of b old.staff) (is_staff_of b new.staff) (option_to_list x.manager) (g.staff b) is) (h.managers b);
  staff_branches = all_weaker (λ (x : Staff). has_row old.branches x.branch) _ rows.staff (λ (x : Staff) is. g.branches x.branch is) h.staff_branches;
  staff_cities = all_weaker (λ (x : Staff). has_row old.cities x.person.city) _ rows.staff (λ (x : Staff) is. g.cities x.person.city is) h.staff_cities;
}

-- what each list of rows names, one after another
names_of : (named rows : Catalogue) → list_all (λ (it : City). has_row named.countries it.country) rows.cities ≡ true
    → list_all (λ (it : Film). has_row named.languages it.language) rows.films ≡ true
    → list_all (λ (it : Film). has_row named.categories it.category) rows.films ≡ true
    → list_all (λ (it : Cast). has_row named.films it.film) rows.casts ≡ true → list_all (λ (it : Cast). has_row named.actors it.actor) rows.casts ≡ true
    → list_all (λ (it : Branch). has_row named.cities it.city) rows.branches ≡ true
    → ((b : ℕ) → list_all (λ (it : Branch). list_all (is_staff_of b named.staff) (option_to_list it.manager)) (at b rows.branches) ≡ true)
    → list_all (λ (it : Staff). has_row named.branches it.branch) rows.staff ≡ true
    → list_all (λ (it : Staff). has_row named.cities it.person.city) rows.staff ≡ true
    → NamesRowsOf named rows
names_of named rows countries languages categories films actors cities managers branches staff_cities = record {
  city_countries = countries;
  film_languages = languages;
  film_categories = categories;
  cast_films = films;
  cast_actors = actors;
  branch_cities = cities;
  managers = managers;
  staff_branches = branches;
  staff_cities = staff_cities;
}

names_acted : (act : OfficeAct) (it : Catalogue) → NamesRowsOf it it
    → NoneHold (office_refusals it act) → NamesRowsOf (office_acted act it) (office_acted act it)
names_acted (AddCity city) it old none = let h = names_grow it (office_acted (AddCity city) it) it (office_grows (AddCity city) it) old in
    names_of _ _ (all_more (λ (x : City). has_row it.countries x.country) it.cities city h.city_countries (is_there it.countries city.country none.0))
    h.film_languages h.film_categories h.cast_films h.cast_actors h.branch_cities h.managers h.staff_branches h.staff_cities
names_acted (AddFilm film) it old none = let h = names_grow it (office_acted (AddFilm film) it) it (office_grows (AddFilm film) it) old in
    names_of _ _ h.city_countries
    (all_more (λ (x : Film). has_row it.languages x.language) it.films (record film { withdrawn = false }) h.film_languages
    (is_there it.languages film.language (or_parts (lacks it.languages film.language) (lacks it.categories film.category) none.0).0))
    (all_more (λ (x : Film). has_row it.categories x.category) it.films (record film { withdrawn = false }) h.film_categories
    (is_there it.categories film.category (or_parts (lacks it.languages film.language) (lacks it.categories film.category) none.0).1))
    h.cast_films h.cast_actors h.branch_cities h.managers h.staff_branches h.staff_cities
names_acted (PriceFilm f rate) it old none = let h = names_grow it (office_acted (PriceFilm f rate) it) it (office_grows (PriceFilm f rate) it) old in
    names_of _ _ h.city_countries
    (all_set (λ (x : Film). has_row it.languages x.language) f (λ (x : Film). record x { rate = rate }) it.films h.film_languages (λ x is. is))
    (all_set (λ (x : Film). has_row it.categories x.category) f (λ (x : Film). record x { rate = rate }) it.films h.film_categories (λ x is. is)) h.cast_films
    h.cast_actors h.branch_cities h.managers h.staff_branches h.staff_cities
names_acted (WithdrawFilm f) it old none = let h = names_grow it (office_acted (WithdrawFilm f) it) it (office_grows (WithdrawFilm f) it) old in
    names_of _ _ h.city_countries
    (all_set (λ (x : Film). has_row it.languages x.language) f (λ (x : Film). record x { withdrawn = true }) it.films h.film_languages (λ x is. is))
    (all_set (λ (x : Film). has_row it.categories x.category) f (λ (x : Film). record x { withdrawn = true }) it.films h.film_categories (λ x is. is))
    h.cast_films h.cast_actors h.branch_cities h.managers h.staff_branches h.staff_cities
names_acted (AddCast cast) it old none = let h = names_grow it (office_acted (AddCast cast) it) it (office_grows (AddCast cast) it) old in
    names_of _ _ h.city_countries h.film_languages h.film_categories
    (all_more (λ (x : Cast). has_row it.films x.film) it.casts cast h.cast_films (is_there it.films cast.film none.0))
    (all_more (λ (x : Cast). has_row it.actors x.actor) it.casts cast h.cast_actors (is_there it.actors cast.actor none.1.0)) h.branch_cities h.managers
    h.staff_branches h.staff_cities
names_acted (AddBranch branch) it old none = let h = names_grow it (office_acted (AddBranch branch) it) it (office_grows (AddBranch branch) it) old in
    names_of _ _ h.city_countries h.film_languages h.film_categories h.cast_films h.cast_actors
    (all_more (λ (x : Branch). has_row it.cities x.city) it.branches
    (record branch { manager = None }) h.branch_cities (is_there it.cities branch.city none.1.0))
    (λ c.
    all_at_more (λ (x : Branch). list_all (is_staff_of c it.staff) (option_to_list x.manager)) c it.branches
    (record branch { manager = None }) (h.managers c) refl)
    h.staff_branches h.staff_cities
names_acted (AddStaff staff) it old none = let h = names_grow it (office_acted (AddStaff staff) it) it (office_grows (AddStaff staff) it) old in
    names_of _ _ h.city_countries h.film_languages h.film_categories h.cast_films h.cast_actors h.branch_cities h.managers
    (all_more (λ (x : Staff). has_row it.branches x.branch) it.staff
    (record staff { gone = false }) h.staff_branches (is_there it.branches staff.branch none.0))
    (all_more (λ (x : Staff). has_row it.cities x.person.city) it.staff
    (record staff { gone = false }) h.staff_cities (is_there it.cities staff.person.city none.1.0))
names_acted (StaffLeaves s) it old none = let h = names_grow it (office_acted (StaffLeaves s) it) it (office_grows (StaffLeaves s) it) old in
    names_of _ _ h.city_countries h.film_languages h.film_categories h.cast_films h.cast_actors h.branch_cities h.managers
    (all_set (λ (x : Staff). has_row it.branches x.branch) s (λ (x : Staff). record x { gone = true }) it.staff h.staff_branches (λ x is. is))
    (all_set (λ (x : Staff). has_row it.cities x.person.city) s (λ (x : Staff). record x { gone = true }) it.staff h.staff_cities (λ x is. is))
names_acted (SetManager b s) it old none = let h = names_grow it (office_acted (SetManager b s) it) it (office_grows (SetManager b s) it) old in
    names_of _ _ h.city_countries h.film_languages h.film_categories h.cast_films h.cast_actors
    (all_set (λ (x : Branch). has_row it.cities x.city) b (λ (x : Branch). record x { manager = Some s }) it.branches h.branch_cities (λ x is. is))
    (λ c.
    all_at_set (λ (x : Branch). list_all (is_staff_of c it.staff) (option_to_list x.manager)) c b (λ (x : Branch). record x { manager = Some s })
    it.branches (h.managers c)
    (λ same x is.
    let of : is_staff_of b it.staff s ≡ true =
    some_passes (λ (x : Staff). x.branch == b) (at s it.staff)
    (or_parts (lacks it.staff s) _ none.0).0 (or_parts (lacks it.branches b) _ none.1.0).1 in
    rw (same, of)))
    h.staff_branches h.staff_cities
names_acted act it old none = let h = names_grow it (office_acted act it) it (office_grows act it) old in
    names_of _ _ h.city_countries h.film_languages h.film_categories h.cast_films h.cast_actors h.branch_cities h.managers h.staff_branches h.staff_cities

-- ---- sizes, with one key more

-- of a list with one row more, and of one with a row that is set
ruleset lengths = (length-append, length_set)

sizes_acted : (act : OfficeAct) (it : Catalogue) (k : OfficeKept) → HasSharedSizes it
    → HasSharedSizes (record (office_acted act it) { kept = it.kept ++ k ∷ [] })
sizes_acted (AddCountry name) it k h = record {
  casts = simp lengths (omega arith);
  countries = simp lengths (omega arith);
  cities = simp lengths (omega arith);
  languages = simp lengths (omega arith);
  categories = simp lengths (omega arith);
  actors = simp lengths (omega arith);
  films = simp lengths (omega arith);
  branches = simp lengths (omega arith);
  staff = simp lengths (omega arith);
}
sizes_acted act it k h = record {
  casts = simp lengths (omega arith);
  countries = simp lengths (omega arith);
  cities = simp lengths (omega arith);
  languages = simp lengths (omega arith);
  categories = simp lengths (omega arith);
  actors = simp lengths (omega arith);
  films = simp lengths (omega arith);
  branches = simp lengths (omega arith);
  staff = simp lengths (omega arith);
}

-- ---- doubles

single_acted : (act : OfficeAct) (it : Catalogue) → HasNoDoubles it → NoneHold (office_refusals it act) → HasNoDoubles (office_acted act it)
single_acted (AddCountry name) it h none = record {
  casts = h.casts;
  countries = different_more (λ (earlier later : Text). bytes_eq later earlier) it.countries name h.countries none.0;
  languages = h.languages;
  categories = h.categories;
}
single_acted (AddLanguage name) it h none = record {
  casts = h.casts;
  countries = h.countries;
  languages = different_more (λ (earlier later : Text). bytes_eq later earlier) it.languages name h.languages none.0;
  categories = h.categories;
}
single_acted (AddCategory name) it h none = record {
  casts = h.casts;
  countries = h.countries;
  languages = h.languages;
  categories = different_more (λ (earlier later : Text). bytes_eq later earlier) it.categories name h.categories none.0;
}
single_acted (AddCast cast) it h none = record {
  casts = different_more (λ (earlier later : Cast). earlier.film == later.film && earlier.actor == later.actor) it.casts cast h.casts none.1.1.0;
  countries = h.countries;
  languages = h.languages;
  categories = h.categories;
}
single_acted act it h none = record { casts = h.casts; countries = h.countries; languages = h.languages; categories = h.categories }

-- ---- tokens

record HasTokens (it : Catalogue) : Type 0 where
  tokens : are_different (λ (earlier later : Branch). bytes_eq earlier.token later.token) it.branches ≡ true
  office_token : list_all (λ (x : Branch). not (bytes_eq x.token it.office_token)) it.branches ≡ true

tokens_acted : (act : OfficeAct) (it : Catalogue) → HasTokens it → NoneHold (office_refusals it act) → HasTokens (office_acted act it)
tokens_acted (AddBranch branch) it h none =
    let new = or_parts (bytes_eq branch.token it.office_token) (list_any (λ (x : Branch). bytes_eq x.token branch.token) it.branches) none.0 in
    record {
      tokens = different_more (λ (earlier later : Branch). bytes_eq earlier.token later.token) it.branches (record branch { manager = None }) h.tokens new.1;
      office_token = all_more (λ (x : Branch). not (bytes_eq x.token it.office_token)) it.branches (record branch { manager = None }) h.office_token (rw new.0);
    }
tokens_acted (SetManager b s) it h none = record {
  tokens =
      different_set (λ (earlier later : Branch). bytes_eq earlier.token later.token) b
      (λ (x : Branch). record x { manager = Some s }) it.branches (λ x y. refl) (λ x y. refl)
      ∙ h.tokens;
  office_token =
      all_set (λ (x : Branch). not (bytes_eq x.token it.office_token)) b
      (λ (x : Branch). record x { manager = Some s }) it.branches h.office_token (λ x is. is);
}
tokens_acted act it h none = record { tokens = h.tokens; office_token = h.office_token }

-- ---- one command

pub done_grows : (command : OfficeCommand) (it : Catalogue) → Grows it (office_done command it)
done_grows command it =
    let g = office_grows command.act it in
    record {
      countries = g.countries;
      cities = g.cities;
      languages = g.languages;
      categories = g.categories;
      actors = g.actors;
      films = g.films;
      branches = g.branches;
      staff = g.staff;
    }

pub good_done : (rules sizes : Rules) (command : OfficeCommand) (it : Catalogue) → rules.commands ≤ sizes.commands
    → IsGoodCatalogue sizes it → office_verdict rules it command ≡ Accepted → IsGoodCatalogue sizes (office_done command it)
good_done rules sizes command it most good e =
    let k : OfficeKept = record { command = command; reply = office_text command it } in
    let tests = (Full, nat_le rules.commands (length it.kept)) ∷ office_refusals it command.act in
    let new = nothing_kept _ _ (filter (λ (k : OfficeKept). bytes_eq k.command.key command.key) it.kept) (first tests) e in
    let none = none_hold tests new.1 in
    let names = names_acted command.act it good.names none.1 in
    let tokens = tokens_acted command.act it (record { tokens = good.tokens; office_token = good.office_token }) none.1 in
    record {
      names = record {
        city_countries = names.city_countries;
        film_languages = names.film_languages;
        film_categories = names.film_categories;
        cast_films = names.cast_films;
        cast_actors = names.cast_actors;
        branch_cities = names.branch_cities;
        managers = names.managers;
        staff_branches = names.staff_branches;
        staff_cities = names.staff_cities;
      };
      sizes = sizes_acted command.act it k good.sizes;
      single =
          let d = single_acted command.act it good.single none.1 in
          record { casts = d.casts; countries = d.countries; languages = d.languages; categories = d.categories };
      keys_fit = let l = length-append it.kept (k ∷ []) in let fit = key_room rules.commands (length it.kept) none.0 l in omega (arith, fit, most);
      keys =
          different_more (λ (earlier later : OfficeKept). bytes_eq earlier.command.key later.command.key) it.kept k good.keys
          (none_left (λ (k : OfficeKept). bytes_eq k.command.key command.key) it.kept new.0);
      tokens = tokens.tokens;
      office_token = tokens.office_token;
    }
