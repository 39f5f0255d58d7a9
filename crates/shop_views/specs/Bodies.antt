-- The JSON values whose texts are bodies, and the members of a body.
use Rattle.std.specs.Prelude.{ℕ, ℤ, List, [], ◌∷◌, codes, decimal, length, map}
use Rattle.serde_json.specs.Data.{Data, number, unsigned, array, object, member, no_members, put}
use Rattle.serde_json.specs.Find.{of_integer}
use Rattle.serde_json.specs.View.{items_of}
use Rattle.shop_model.specs.Values.{Text, OfficeAct, AddCountry, AddCity, AddLanguage, AddCategory, AddActor, AddFilm, PriceFilm, WithdrawFilm, AddCast}
use Rattle.shop_model.specs.Values.{AddBranch, AddStaff, StaffLeaves, SetManager, ChooseRule}
use Rattle.shop_model.specs.Json.{quoted}
use Rattle.shop_model.specs.OfficeActs.{rule_name}

-- a list of numbers
abbrev pub numbers_value : List ℕ → Data
numbers_value ns = array (items_of (map (λ n. number (unsigned n)) ns))

-- numbers under the name, with their count
abbrev pub listed_value : Text → List ℕ → Data
listed_value name ns = object (put (codes "count") (number (unsigned (length ns))) (put name (numbers_value ns) no_members))

-- numbers under the name, without their count
abbrev pub named_value : Text → List ℕ → Data
named_value name ns = object (put name (numbers_value ns) no_members)

-- what a customer owes, in cents
abbrev pub balance_value : ℤ → Data
balance_value cents = object (member (codes "balance") (number (of_integer cents)) no_members)

-- the reply to a command of head office: the number of the command's new row, which is the next one of its kind, or the rows or the rule that the command
-- names
abbrev pub office_members : OfficeAct → ℕ → List (Text × Text)
office_members (AddCountry name) next = (codes "country", decimal next) ∷ []
office_members (AddCity city) next = (codes "city", decimal next) ∷ []
office_members (AddLanguage name) next = (codes "language", decimal next) ∷ []
office_members (AddCategory name) next = (codes "category", decimal next) ∷ []
office_members (AddActor actor) next = (codes "actor", decimal next) ∷ []
office_members (AddFilm film) next = (codes "film", decimal next) ∷ []
office_members (PriceFilm film rate) next = (codes "film", decimal film) ∷ (codes "rate", decimal rate) ∷ []
office_members (WithdrawFilm film) next = (codes "film", decimal film) ∷ []
office_members (AddCast cast) next = (codes "actor", decimal cast.actor) ∷ (codes "film", decimal cast.film) ∷ []
office_members (AddBranch branch) next = (codes "branch", decimal next) ∷ []
office_members (AddStaff staff) next = (codes "staff", decimal next) ∷ []
office_members (StaffLeaves staff) next = (codes "staff", decimal staff) ∷ []
office_members (SetManager branch staff) next = (codes "branch", decimal branch) ∷ (codes "staff", decimal staff) ∷ []
office_members (ChooseRule rule) next = (codes "rule", quoted (rule_name rule)) ∷ []
