-- What head office's acts are: when two are the same, what each is refused for, what it changes, and what is replied. Refusals read shared rows alone.
use Rattle.std.specs.Prelude.{◌==◌, ◌&&◌, Bool, true, false, List, Some, None, ◌+◌, ◌||◌, not, [], ◌∷◌, length, ◌++◌, codes, decimal}
use Rattle.std.specs.Str.{bytes_eq}
use Rattle.shop_model.specs.Values.{Text, Film, Cast, Branch, Staff, Rule, ByCode, ByComment, OfficeAct, AddCountry, AddCity, AddLanguage, AddCategory}
use Rattle.shop_model.specs.Values.{AddActor, AddFilm, PriceFilm, WithdrawFilm, AddCast, AddBranch, AddStaff, StaffLeaves, SetManager, ChooseRule}
use Rattle.shop_model.specs.Values.{OfficeCommand}
use Rattle.std.specs.List.{list_any}
use Rattle.shop_model.specs.Rows.{at, lacks, set_at}
use Rattle.shop_model.specs.Refusals.{Refusal, NoStaff, NoFilm, NoBranch, TokenTaken, NoSharedRow, Already}
use Rattle.shop_model.specs.Shop.{Catalogue, same_flag, same_option, same_rule, same_person}
use Rattle.shop_model.specs.Acts.{is_film_withdrawn}
use Rattle.shop_model.specs.Json.{quoted}

-- ---- acts that are equal

abbrev pub same_film : Film → Film → Bool
same_film a b =
    bytes_eq a.title b.title && bytes_eq a.description b.description && a.language == b.language && a.category == b.category
    && a.period == b.period && a.rate == b.rate && a.replacement == b.replacement && same_option a.minutes b.minutes
    && bytes_eq a.rating b.rating && bytes_eq a.features b.features && same_flag a.withdrawn b.withdrawn

abbrev pub same_branch : Branch → Branch → Bool
same_branch a b =
    bytes_eq a.token b.token && bytes_eq a.address b.address && bytes_eq a.postal b.postal
    && bytes_eq a.phone b.phone && a.city == b.city && same_option a.manager b.manager

-- Every field is compared but one: whether new staff have left. They haven't, whatever the act's row has there (`office_acted`), and the form in which a
-- command is kept leaves it out.
abbrev pub same_office_act : OfficeAct → OfficeAct → Bool
same_office_act (AddCountry name) (AddCountry name') = bytes_eq name name'
same_office_act (AddCity c) (AddCity c') = bytes_eq c.name c'.name && c.country == c'.country
same_office_act (AddLanguage name) (AddLanguage name') = bytes_eq name name'
same_office_act (AddCategory name) (AddCategory name') = bytes_eq name name'
same_office_act (AddActor a) (AddActor a') = bytes_eq a.first a'.first && bytes_eq a.last a'.last
same_office_act (AddFilm f) (AddFilm f') = same_film f f'
same_office_act (PriceFilm f rate) (PriceFilm f' rate') = f == f' && rate == rate'
same_office_act (WithdrawFilm f) (WithdrawFilm f') = f == f'
same_office_act (AddCast c) (AddCast c') = c.film == c'.film && c.actor == c'.actor
same_office_act (AddBranch b) (AddBranch b') = same_branch b b'
same_office_act (AddStaff s) (AddStaff s') = s.branch == s'.branch && same_person s.person s'.person
same_office_act (StaffLeaves s) (StaffLeaves s') = s == s'
same_office_act (SetManager b s) (SetManager b' s') = b == b' && s == s'
same_office_act (ChooseRule rule) (ChooseRule rule') = same_rule rule rule'
same_office_act a b = false

abbrev pub same_office : OfficeCommand → OfficeCommand → Bool
same_office a b = bytes_eq a.key b.key && same_office_act a.act b.act

-- ---- refusals

abbrev pub office_refusals : Catalogue → OfficeAct → List (Refusal × Bool)
office_refusals catalogue (AddCountry name) = (Already, list_any (bytes_eq name) catalogue.countries) ∷ []
office_refusals catalogue (AddCity city) = (NoSharedRow, lacks catalogue.countries city.country) ∷ []
office_refusals catalogue (AddLanguage name) = (Already, list_any (bytes_eq name) catalogue.languages) ∷ []
office_refusals catalogue (AddCategory name) = (Already, list_any (bytes_eq name) catalogue.categories) ∷ []
office_refusals catalogue (AddActor actor) = []
office_refusals catalogue (AddFilm film) = (NoSharedRow, lacks catalogue.languages film.language || lacks catalogue.categories film.category) ∷ []
office_refusals catalogue (PriceFilm film rate) = (NoFilm, lacks catalogue.films film) ∷ []
office_refusals catalogue (WithdrawFilm film) = (NoFilm, lacks catalogue.films film) ∷ (Already, is_film_withdrawn catalogue film) ∷ []
office_refusals catalogue (AddCast cast) =
    (NoFilm, lacks catalogue.films cast.film)
    ∷ (NoSharedRow, lacks catalogue.actors cast.actor)
    ∷ (Already, list_any (λ (it : Cast). it.film == cast.film && it.actor == cast.actor) catalogue.casts)
    ∷ []
office_refusals catalogue (AddBranch branch) =
    (TokenTaken, bytes_eq branch.token catalogue.office_token || list_any (λ (it : Branch). bytes_eq it.token branch.token) catalogue.branches)
    ∷ (NoSharedRow, lacks catalogue.cities branch.city)
    ∷ []
office_refusals catalogue (AddStaff staff) = (NoBranch, lacks catalogue.branches staff.branch) ∷ (NoSharedRow, lacks catalogue.cities staff.person.city) ∷ []
office_refusals catalogue (StaffLeaves s) = (NoStaff, lacks catalogue.staff s) ∷ (Already, list_any (λ (it : Staff). it.gone) (at s catalogue.staff)) ∷ []
office_refusals catalogue (SetManager b s) =
    (NoStaff, lacks catalogue.staff s || list_any (λ (it : Staff). it.gone) (at s catalogue.staff))
    ∷ (NoBranch, lacks catalogue.branches b || list_any (λ (it : Staff). not (it.branch == b)) (at s catalogue.staff))
    ∷ (Already, list_any (λ (it : Branch). same_option it.manager (Some s)) (at b catalogue.branches))
    ∷ []
office_refusals catalogue (ChooseRule rule) = (Already, same_rule catalogue.rule rule) ∷ []

-- ---- what an accepted one changes, and what it replies

-- what an accepted command of head office changes; a new film isn't withdrawn, a new branch has no manager, and a manager who leaves stays named
abbrev pub office_acted : OfficeAct → Catalogue → Catalogue
office_acted (AddCountry name) it = record it { countries = it.countries ++ name ∷ [] }
office_acted (AddCity city) it = record it { cities = it.cities ++ city ∷ [] }
office_acted (AddLanguage name) it = record it { languages = it.languages ++ name ∷ [] }
office_acted (AddCategory name) it = record it { categories = it.categories ++ name ∷ [] }
office_acted (AddActor actor) it = record it { actors = it.actors ++ actor ∷ [] }
office_acted (AddFilm film) it = record it { films = it.films ++ record film { withdrawn = false } ∷ [] }
office_acted (PriceFilm film rate) it = record it { films = set_at film (λ f. record f { rate = rate }) it.films }
office_acted (WithdrawFilm film) it = record it { films = set_at film (λ f. record f { withdrawn = true }) it.films }
office_acted (AddCast cast) it = record it { casts = it.casts ++ cast ∷ [] }
office_acted (AddBranch branch) it = record it { branches = it.branches ++ record branch { manager = None } ∷ [] }
office_acted (AddStaff staff) it = record it { staff = it.staff ++ record staff { gone = false } ∷ [] }
office_acted (StaffLeaves s) it = record it { staff = set_at s (λ r. record r { gone = true }) it.staff }
office_acted (SetManager b s) it = record it { branches = set_at b (λ r. record r { manager = Some s }) it.branches }
office_acted (ChooseRule rule) it = record it { rule = rule }

abbrev pub rule_name : Rule → Text
rule_name ByCode = codes "code"
rule_name ByComment = codes "comment"

-- what it replies
abbrev pub office_told : OfficeAct → Catalogue → List (Text × Text)
office_told (AddCountry name) it = (codes "country", decimal (length it.countries + 1)) ∷ []
office_told (AddCity city) it = (codes "city", decimal (length it.cities + 1)) ∷ []
office_told (AddLanguage name) it = (codes "language", decimal (length it.languages + 1)) ∷ []
office_told (AddCategory name) it = (codes "category", decimal (length it.categories + 1)) ∷ []
office_told (AddActor actor) it = (codes "actor", decimal (length it.actors + 1)) ∷ []
office_told (AddFilm film) it = (codes "film", decimal (length it.films + 1)) ∷ []
office_told (PriceFilm film rate) it = (codes "film", decimal film) ∷ (codes "rate", decimal rate) ∷ []
office_told (WithdrawFilm film) it = (codes "film", decimal film) ∷ []
office_told (AddCast cast) it = (codes "actor", decimal cast.actor) ∷ (codes "film", decimal cast.film) ∷ []
office_told (AddBranch branch) it = (codes "branch", decimal (length it.branches + 1)) ∷ []
office_told (AddStaff staff) it = (codes "staff", decimal (length it.staff + 1)) ∷ []
office_told (StaffLeaves s) it = (codes "staff", decimal s) ∷ []
office_told (SetManager b s) it = (codes "branch", decimal b) ∷ (codes "staff", decimal s) ∷ []
office_told (ChooseRule rule) it = (codes "rule", quoted (rule_name rule)) ∷ []
