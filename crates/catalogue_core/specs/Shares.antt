-- Says when the rows that were found for a command of head office agree with the catalogue.
use Rattle.std.specs.Prelude.{◌≡◌, ⊤, ℕ, ◌==◌, ◌&&◌, Bool, false, Option, None, not, map, filter, length, option_map}
use Rattle.std.specs.List.{list_any}
use Rattle.std.specs.Str.{bytes_eq}
use Rattle.shop_model.specs.Rows.{at, lacks}
use Rattle.shop_model.specs.Values.{Text, Film, Cast, Branch, Staff, OfficeAct, AddCountry, AddCity, AddLanguage, AddCategory, AddActor, AddFilm, PriceFilm}
use Rattle.shop_model.specs.Values.{WithdrawFilm, AddCast, AddBranch, AddStaff, StaffLeaves, SetManager, ChooseRule, OfficeCommand}
use Rattle.shop_model.specs.Shop.{OfficeKept, Catalogue, same_rule}
use Rattle.shop_model.specs.OfficeActs.{same_office}
use Rattle.shop_model.specs.Books.{head}
use Rattle.shop_types.specs.Verdicts.{seen_kept, seen_post, post_of}
use Rattle.catalogue_core.specs.declared.shared.BranchFound.{BranchFound}
use Rattle.catalogue_core.specs.declared.shared.Shared.{Shared}
use Rattle.catalogue_core.specs.declared.shared.SharedRows.{SharedRows}

-- ---- rows of the catalogue, where there is one of the number

-- whether the film is withdrawn
abbrev pub film_at : Catalogue → ℕ → Option Bool
film_at catalogue f = head (map (λ (it : Film). it.withdrawn) (at f catalogue.films))

-- who is the branch's manager
abbrev pub branch_at : Catalogue → ℕ → Option (Option ℕ)
branch_at catalogue b = head (map (λ (it : Branch). it.manager) (at b catalogue.branches))

abbrev pub seen_branch_found : BranchFound → Option ℕ
seen_branch_found it = it.manager

abbrev pub staff_at : Catalogue → ℕ → Option (ℕ × Bool)
staff_at catalogue s = head (map post_of (at s catalogue.staff))

-- a branch has the token
abbrev pub is_token : Catalogue → Text → Bool
is_token catalogue token = list_any (λ (it : Branch). bytes_eq it.token token) catalogue.branches

-- the actor is in the film's cast
abbrev pub is_cast : Catalogue → Cast → Bool
is_cast catalogue cast = list_any (λ (it : Cast). it.film == cast.film && it.actor == cast.actor) catalogue.casts

-- ---- the act

-- nothing was found of any row
abbrev pub no_rows : SharedRows
no_rows = record {
  has_token = false;
  is_named = false;
  has_country = false;
  has_city = false;
  has_language = false;
  has_category = false;
  has_actor = false;
  has_cast = false;
  is_chosen = false;
  film = None;
  branch = None;
  staff = None;
}

pub record FilmShares (catalogue : Catalogue) (film : Film) (it : SharedRows) : Type 0 where
  pub language : it.has_language ≡ not (lacks catalogue.languages film.language)
  pub category : it.has_category ≡ not (lacks catalogue.categories film.category)

pub record CastShares (catalogue : Catalogue) (cast : Cast) (it : SharedRows) : Type 0 where
  pub film : it.film ≡ film_at catalogue cast.film
  pub actor : it.has_actor ≡ not (lacks catalogue.actors cast.actor)
  pub cast_in : it.has_cast ≡ is_cast catalogue cast

pub record BranchShares (catalogue : Catalogue) (branch : Branch) (it : SharedRows) : Type 0 where
  pub token : it.has_token ≡ is_token catalogue branch.token
  pub city : it.has_city ≡ not (lacks catalogue.cities branch.city)

pub record StaffShares (catalogue : Catalogue) (staff : Staff) (it : SharedRows) : Type 0 where
  pub branch : option_map seen_branch_found it.branch ≡ branch_at catalogue staff.branch
  pub city : it.has_city ≡ not (lacks catalogue.cities staff.person.city)

pub record ManagerShares (catalogue : Catalogue) (b s : ℕ) (it : SharedRows) : Type 0 where
  pub branch : option_map seen_branch_found it.branch ≡ branch_at catalogue b
  pub staff : option_map seen_post it.staff ≡ staff_at catalogue s

abbrev pub ActShares : Catalogue → OfficeAct → SharedRows → Type 0
ActShares catalogue (AddCountry name) it = it.is_named ≡ list_any (bytes_eq name) catalogue.countries
ActShares catalogue (AddCity city) it = it.has_country ≡ not (lacks catalogue.countries city.country)
ActShares catalogue (AddLanguage name) it = it.is_named ≡ list_any (bytes_eq name) catalogue.languages
ActShares catalogue (AddCategory name) it = it.is_named ≡ list_any (bytes_eq name) catalogue.categories
ActShares catalogue (AddActor actor) it = ⊤
ActShares catalogue (AddFilm film) it = FilmShares catalogue film it
ActShares catalogue (PriceFilm film rate) it = it.film ≡ film_at catalogue film
ActShares catalogue (WithdrawFilm film) it = it.film ≡ film_at catalogue film
ActShares catalogue (AddCast cast) it = CastShares catalogue cast it
ActShares catalogue (AddBranch branch) it = BranchShares catalogue branch it
ActShares catalogue (AddStaff staff) it = StaffShares catalogue staff it
ActShares catalogue (StaffLeaves s) it = option_map seen_post it.staff ≡ staff_at catalogue s
ActShares catalogue (SetManager b s) it = ManagerShares catalogue b s it
ActShares catalogue (ChooseRule rule) it = it.is_chosen ≡ same_rule catalogue.rule rule

-- ---- all that was found

-- whether the kept command is the one that came under its key, and its reply
abbrev pub kept_for : OfficeCommand → OfficeKept → Bool × Text
kept_for command kept = (same_office kept.command command, kept.reply)

pub record Shares (catalogue : Catalogue) (command : OfficeCommand) (it : Shared) : Type 0 where
  pub kept : option_map seen_kept it.kept ≡ head (map (kept_for command) (filter (λ (k : OfficeKept). bytes_eq k.command.key command.key) catalogue.kept))
  pub keys : it.keys ≡ length catalogue.kept
  pub office : it.office_token ≡ catalogue.office_token
  pub act : ActShares catalogue command.act it.rows
