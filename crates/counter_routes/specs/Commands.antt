-- The commands of a counter: of each its route, and what its body must be, a JSON object with the command's members and no others, in any order.
use Rattle.std.specs.Prelude.{ℕ, List, [], ◌∷◌, Option, Some, None, option_map, codes, if◌then◌else◌}
use Rattle.serde_json.specs.Data.{Data}
use Rattle.shop_model.specs.Calendar.{Moment}
use Rattle.shop_model.specs.Values.{Act, Command}
use Rattle.shop_model.specs.Values as model
use Rattle.counter_routes.specs.declared.commands.CommandForm.{CommandForm}
use Rattle.counter_routes.specs.declared.commands.CommandForm.TheVariants as form
use Rattle.counter_routes.specs.declared.paths.Route.{Route}
use Rattle.counter_routes.specs.declared.paths.Route.TheVariants as route
use Rattle.counter_routes.specs.Bodies.{◌>>=◌, key_at, moment_at, number_at, numbers_at, bool_at, rental_at, amount_at, has_members, person_at}

-- the routes of POST requests
unfoldable pub post_entries : List (List ℕ × Route)
post_entries =
    (codes "/customer", route.Command form.NewCustomer)
    ∷ (codes "/import/{key}/{staff}/{at}/{lot}", route.Import)
    ∷ (codes "/customer-active", route.Command form.Active)
    ∷ (codes "/rent", route.Command form.Rent)
    ∷ (codes "/return", route.Command form.Return)
    ∷ (codes "/pay", route.Command form.Pay)
    ∷ (codes "/dispatch", route.Command form.Dispatch)
    ∷ (codes "/receive", route.Command form.Receive)
    ∷ (codes "/scrap", route.Command form.Scrap)
    ∷ []

-- how many members the body of a command has
abbrev pub member_count : CommandForm → ℕ
member_count form.NewCustomer = 9
member_count form.Active = 5
member_count form.Rent = 5
member_count form.Return = 4
member_count form.Pay = 6
member_count form.Dispatch = 5
member_count form.Receive = 6
member_count form.Scrap = 4

-- what a command does, by the members that say it
abbrev pub act_at : CommandForm → Data → Option Act
act_at form.NewCustomer d = do
  person ← person_at d
  Some (model.AddCustomer (record { person = person }))
act_at form.Active d = do
  customer ← number_at (codes "customer") d
  active ← bool_at (codes "active") d
  Some (model.SetActive customer active)
act_at form.Rent d = do
  customer ← number_at (codes "customer") d
  copy ← number_at (codes "copy") d
  Some (model.Rent customer copy)
act_at form.Return d = option_map model.TakeBack (number_at (codes "rental") d)
act_at form.Pay d = do
  customer ← number_at (codes "customer") d
  rental ← rental_at d
  amount ← amount_at d
  Some (model.Pay customer rental amount)
act_at form.Dispatch d = do
  to ← number_at (codes "to") d
  copies ← numbers_at (codes "copies") d
  Some (model.Dispatch to copies)
act_at form.Receive d = do
  from ← number_at (codes "from") d
  number ← number_at (codes "number") d
  missing ← numbers_at (codes "missing") d
  Some (model.Receive from number missing)
act_at form.Scrap d = option_map model.Scrap (number_at (codes "copy") d)

-- the staff who gives the command and the moment, where the body has so many members and no others
abbrev pub giver_at : ℕ → Data → Option (ℕ × Moment)
giver_at n d = if has_members n d then (do
  staff ← number_at (codes "staff") d
  moment ← moment_at d
  Some (staff, moment)) else None

-- the command of that form: what it does, with the key, the staff and the moment that three more of the members are
unfoldable pub command_in : CommandForm → Data → Option Command
command_in form d = do
  giver ← giver_at (member_count form) d
  key ← key_at d
  act ← act_at form d
  Some (record { key = key; staff = giver.0; moment = giver.1; act = act })
