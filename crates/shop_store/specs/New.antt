-- Defines what new shared rows mean, each apart from its number, and new tables that have the row of their rule.
use Rattle.std.specs.Prelude.{ℕ, [], ◌∷◌}
use Rattle.sqlite_trees.specs.Tree.{Trees}
use Rattle.sqlite.specs.State.{State}
use Rattle.sqlite.specs.declared.types.Value.TheVariants.{Text}
use Rattle.sqlite.specs.Values.{or_null}
use Rattle.sqlite_value.specs.Order as sql
use Rattle.sql_rows.specs.Rows.{HasRows, SameBut, number_value}
use Rattle.shop_schema.specs.RowValues.{rule_columns}
use Rattle.shop_schema.specs.Shop.{IsShop, IsKeyed, HaveNoRows, shop_schema}
use Rattle.shop_model.specs.Values.{City, Actor, Film, Branch, Staff, ByCode}
use Rattle.shop_store.specs.declared.puts.NewCity.{NewCity}
use Rattle.shop_store.specs.declared.puts.NewActor.{NewActor}
use Rattle.shop_store.specs.declared.puts.NewFilm.{NewFilm}
use Rattle.shop_store.specs.declared.puts.NewBranch.{NewBranch}
use Rattle.shop_store.specs.declared.puts.NewStaff.{NewStaff}
use Rattle.shop_schema.specs.Trees.{chain_rule_tree}

abbrev pub seen_city : NewCity → City
seen_city it = record { name = it.name.now; country = it.country }

abbrev pub seen_actor : NewActor → Actor
seen_actor it = record { first = it.first.now; last = it.last.now }

abbrev pub seen_film : NewFilm → Film
seen_film it = record {
  title = it.title.now;
  description = it.description.now;
  language = it.language;
  category = it.category;
  period = it.period;
  rate = it.rate;
  replacement = it.replacement;
  minutes = it.minutes;
  rating = it.rating.now;
  features = it.features.now;
  withdrawn = it.withdrawn;
}

abbrev pub seen_branch : NewBranch → Branch
seen_branch it = record { token = it.token.now; address = it.address.now; postal = it.postal.now; phone = it.phone.now; city = it.city; manager = it.manager }

-- the columns of a new branch, but for its last moment, which is NULL
abbrev pub branch_params : ℕ → Branch → sql.Row
branch_params n x = number_value n ∷ Text x.token ∷ Text x.address ∷ Text x.postal ∷ Text x.phone ∷ number_value x.city ∷ or_null number_value x.manager ∷ []

abbrev pub seen_staff : NewStaff → Staff
seen_staff it = record {
  branch = it.branch;
  person = record { first = it.first.now; last = it.last.now; address = it.address.now; postal = it.postal.now; phone = it.phone.now; city = it.city };
  gone = it.gone;
}

-- new tables whose only row is the row of the rule, which is the manual's code
pub record IsRuled (s : State) : Type 0 where
  pub shop : IsShop s
  pub keyed : IsKeyed s
  pub before : Trees
  pub empty : HaveNoRows before
  pub same : SameBut shop_schema 59 before s.now.trees
  pub rule : HasRows 1 (s.now.trees chain_rule_tree) (rule_columns ByCode ∷ [])

-- the call fills new tables, which have no row, and `Has` holds afterwards
abbrev pub Fills : (State → Type 0) → State → State → Type 0
Fills Has old new = IsShop old → IsKeyed old → HaveNoRows old.now.trees → Has new
