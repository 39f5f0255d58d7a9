-- Defines commands as they are kept. The stored form of a command leaves out its key. It is a byte that names the act, and then the parts (our own). Each part
-- shows where it ends. This module also says which values an act may have.
use Rattle.std.specs.Prelude.{⊤, ◌≡◌, ◌↔◌, ◌≤◌, ◌<◌, IsTrue, ℕ, ◌/◌, ◌%◌, Bool, true, false, if◌then◌else◌, List, [], ◌∷◌, ◌++◌, map, length, flat_map, Option}
use Rattle.std.specs.Prelude.{None, IfSome, IsUtf8}
use Rattle.std.specs.List.{AllByRecursion}
use Rattle.std.specs.Option.{option_to_list}
use Rattle.sqlite.specs.declared.types.Value.TheVariants as value
use Rattle.sqlite_value.specs.Order as sql
use Rattle.sql_rows.specs.Rows.{number_value}
use Rattle.shop_model.specs.Calendar.{IsMoment, moment_text}
use Rattle.shop_model.specs.Rows.{Owned}
use Rattle.shop_model.specs.Values.{Text, Person, Film, Branch, Act, Command, OfficeAct, AddCountry, AddCity, AddLanguage, AddCategory, AddActor, AddFilm}
use Rattle.shop_model.specs.Values.{PriceFilm, WithdrawFilm, AddCast, AddBranch, AddStaff, StaffLeaves, SetManager, Rule, ByCode, ByComment, ChooseRule}
use Rattle.shop_model.specs.Values.{OfficeCommand}
use Rattle.shop_model.specs.Values as model
use Rattle.shop_model.specs.Shop.{Kept, OfficeKept}
use Rattle.shop_model.specs.OfficeActs.{same_office}
use Rattle.shop_model.specs.Acts.{same_command}
use Rattle.shop_types.specs.NumberLists.{is_number_list}
use Rattle.shop_types.specs.StockFiles.{is_stock_file}
use Rattle.shop_schema.specs.RowValues.{IsNumber, IsName, IsKey, IsPerson, IsCity, IsActor, IsFilm, IsCast, IsBranch, IsStaff}

-- four bytes, the least first; the last is one for numbers below 2 ^ 32
abbrev pub number_form : ℕ → List ℕ
number_form n = n % 256 ∷ n / 256 % 256 ∷ n / 65_536 % 256 ∷ n / 16_777_216 ∷ []

-- the length, and then the bytes
abbrev pub text_form : Text → List ℕ
text_form text = number_form (length text) ++ text

-- how many, and then each
abbrev pub numbers_form : List ℕ → List ℕ
numbers_form ns = number_form (length ns) ++ flat_map number_form ns

abbrev pub option_form : Option ℕ → List ℕ
option_form o = numbers_form (option_to_list o)

abbrev pub flag_form : Bool → List ℕ
flag_form flag = (if flag then 1 else 0) ∷ []

-- one part after another
abbrev pub joined : List (List ℕ) → List ℕ
joined parts = flat_map (λ part. part) parts

abbrev pub person_form : Person → List ℕ
person_form p = joined (text_form p.first ∷ text_form p.last ∷ text_form p.address ∷ text_form p.postal ∷ text_form p.phone ∷ number_form p.city ∷ [])

-- ---- acts of a branch

abbrev pub AreNumbers : List ℕ → Type 0
AreNumbers ns = AllByRecursion IsNumber ns

abbrev pub AreBytes : List ℕ → Type 0
AreBytes bytes = AllByRecursion (λ b. b < 256) bytes

-- what a command lists, so many numbers at most
abbrev pub IsNumberList : List ℕ → Type 0
IsNumberList ns = (is_number_list ns ≡ true) × AreNumbers ns

-- what a stock file may have, so many bytes at most
abbrev pub IsStockFile : List ℕ → Type 0
IsStockFile file = (is_stock_file file ≡ true) × AreBytes file

abbrev pub act_form : Act → List ℕ
act_form (model.AddCustomer it) = 1 ∷ person_form it.person
act_form (model.SetActive customer active) = 2 ∷ joined (number_form customer ∷ flag_form active ∷ [])
act_form (model.Rent customer copy) = 3 ∷ joined (number_form customer ∷ number_form copy ∷ [])
act_form (model.TakeBack rental) = 4 ∷ number_form rental
act_form (model.Pay customer rental amount) = 5 ∷ joined (number_form customer ∷ option_form rental ∷ number_form amount ∷ [])
act_form (model.Import lot file) = 6 ∷ joined (text_form lot ∷ text_form file ∷ [])
act_form (model.Dispatch addressee copies) = 7 ∷ joined (number_form addressee ∷ numbers_form copies ∷ [])
act_form (model.Receive source number missing) = 8 ∷ joined (number_form source ∷ number_form number ∷ numbers_form missing ∷ [])
act_form (model.Scrap copy) = 9 ∷ number_form copy

-- an act that somebody can ask of a branch
abbrev pub IsAct : Act → Type 0
IsAct (model.AddCustomer it) = IsPerson it.person
IsAct (model.SetActive customer active) = IsNumber customer
IsAct (model.Rent customer copy) = IsNumber customer × IsNumber copy
IsAct (model.TakeBack rental) = IsNumber rental
IsAct (model.Pay customer rental amount) = IsNumber customer × IfSome rental IsNumber × (amount ≤ 99_999)
IsAct (model.Import lot file) = IsKey lot × IsStockFile file
IsAct (model.Dispatch addressee copies) = IsNumber addressee × IsNumberList copies
IsAct (model.Receive source number missing) = IsNumber source × IsNumber number × IsNumberList missing
IsAct (model.Scrap copy) = IsNumber copy

-- a moment is its text of 19 bytes
abbrev pub command_form : Command → List ℕ
command_form command = joined (number_form command.staff ∷ moment_text command.moment ∷ act_form command.act ∷ [])

pub record IsCommand (it : Command) : Type 0 where
  pub key : IsKey it.key
  pub staff : IsNumber it.staff
  pub moment : IsMoment it.moment
  pub act : IsAct it.act

-- under one key, two commands have one form exactly where they are one command
abbrev pub FormsAreOneToOne : Type 0
FormsAreOneToOne = (a b : Command) → IsMoment a.moment → IsMoment b.moment → a.key ≡ b.key → (command_form a ≡ command_form b) ↔ IsTrue (same_command a b)

-- ---- commands of head office

abbrev pub film_form : Film → List ℕ
film_form f =
    joined (text_form f.title ∷ text_form f.description ∷ number_form f.language ∷ number_form f.category ∷ number_form f.period ∷ number_form f.rate
    ∷ number_form f.replacement ∷ option_form f.minutes ∷ text_form f.rating ∷ text_form f.features ∷ flag_form f.withdrawn ∷ [])

abbrev pub branch_form : Branch → List ℕ
branch_form b = joined (text_form b.token ∷ text_form b.address ∷ text_form b.postal ∷ text_form b.phone ∷ number_form b.city ∷ option_form b.manager ∷ [])

abbrev pub rule_form : Rule → List ℕ
rule_form ByCode = 0 ∷ []
rule_form ByComment = 1 ∷ []

-- staff who are added work there, so that the flag isn't stored
abbrev pub office_form : OfficeAct → List ℕ
office_form (AddCountry name) = 1 ∷ text_form name
office_form (AddCity city) = 2 ∷ joined (text_form city.name ∷ number_form city.country ∷ [])
office_form (AddLanguage name) = 3 ∷ text_form name
office_form (AddCategory name) = 4 ∷ text_form name
office_form (AddActor actor) = 5 ∷ joined (text_form actor.first ∷ text_form actor.last ∷ [])
office_form (AddFilm film) = 6 ∷ film_form film
office_form (PriceFilm film rate) = 7 ∷ joined (number_form film ∷ number_form rate ∷ [])
office_form (WithdrawFilm film) = 8 ∷ number_form film
office_form (AddCast cast) = 9 ∷ joined (number_form cast.film ∷ number_form cast.actor ∷ [])
office_form (AddBranch branch) = 10 ∷ branch_form branch
office_form (AddStaff staff) = 11 ∷ joined (number_form staff.branch ∷ person_form staff.person ∷ [])
office_form (StaffLeaves staff) = 12 ∷ number_form staff
office_form (SetManager branch staff) = 13 ∷ joined (number_form branch ∷ number_form staff ∷ [])
office_form (ChooseRule rule) = 14 ∷ rule_form rule

-- an act that head office can ask for: a film that it adds isn't withdrawn, and a branch that it adds has no manager
abbrev pub IsOfficeAct : OfficeAct → Type 0
IsOfficeAct (AddCountry name) = IsName name
IsOfficeAct (AddCity city) = IsCity city
IsOfficeAct (AddLanguage name) = IsName name
IsOfficeAct (AddCategory name) = IsName name
IsOfficeAct (AddActor actor) = IsActor actor
IsOfficeAct (AddFilm film) = IsFilm film × (film.withdrawn ≡ false)
IsOfficeAct (PriceFilm film rate) = IsNumber film × (rate ≤ 9_999)
IsOfficeAct (WithdrawFilm film) = IsNumber film
IsOfficeAct (AddCast cast) = IsCast cast
IsOfficeAct (AddBranch branch) = IsBranch branch × (branch.manager ≡ None)
IsOfficeAct (AddStaff staff) = IsStaff staff
IsOfficeAct (StaffLeaves staff) = IsNumber staff
IsOfficeAct (SetManager branch staff) = IsNumber branch × IsNumber staff
IsOfficeAct (ChooseRule rule) = ⊤

abbrev pub office_command_form : OfficeCommand → List ℕ
office_command_form command = office_form command.act

-- the same of commands of head office
abbrev pub OfficeFormsAreOneToOne : Type 0
OfficeFormsAreOneToOne = (a b : OfficeCommand) → a.key ≡ b.key → (office_command_form a ≡ office_command_form b) ↔ IsTrue (same_office a b)

-- ---- rows of the table `kept`: the caller is the branch, or 0 for head office

abbrev pub IsKept : Owned Kept → Type 0
IsKept row = IsNumber row.owner × IsCommand row.it.command × IsUtf8 row.it.reply

abbrev pub IsOfficeKept : OfficeKept → Type 0
IsOfficeKept it = IsKey it.command.key × IsOfficeAct it.command.act × IsUtf8 it.reply

abbrev pub kept_columns : Owned Kept → sql.Row
kept_columns row = number_value row.owner ∷ value.Text row.it.command.key ∷ value.Blob (command_form row.it.command) ∷ value.Text row.it.reply ∷ []

abbrev pub office_kept_columns : OfficeKept → sql.Row
office_kept_columns kept = number_value 0 ∷ value.Text kept.command.key ∷ value.Blob (office_command_form kept.command) ∷ value.Text kept.reply ∷ []

abbrev pub kept_rows : List (Owned Kept) → List OfficeKept → List sql.Row
kept_rows kept office = map kept_columns kept ++ map office_kept_columns office
