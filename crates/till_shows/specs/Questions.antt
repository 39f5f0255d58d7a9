-- What is asked before a command that can't be undone.
use Rattle.std.specs.Prelude.{ℕ, ℤ, pos, ◌-ℤ◌, ◌==◌, Bool, true, false, not, List, ◌++◌, length, Option, codes, nat_lt, int_le}
use Rattle.shop_model.specs.Values.{Text}
use Rattle.shop_model.specs.Values as model
use Rattle.shop_types.specs.declared.command.Act.{Act}
use Rattle.shop_types.specs.declared.command.Act.TheVariants as act
use Rattle.till_shows.specs.Entries.{act_text}

-- a payment of more than $20, scrapped or dispatched copies, and a consignment in which lines are missing
abbrev pub is_grave : Act → Bool
is_grave (act.Pay customer rental amount) = nat_lt 2000 amount
is_grave (act.Scrap copy) = true
is_grave (act.Dispatch to copies) = true
is_grave (act.Receive source number missing) = not (length missing == 0)
is_grave (act.Customer it) = false
is_grave (act.Active customer active) = false
is_grave (act.Rent customer copy) = false
is_grave (act.TakeBack rental) = false
is_grave (act.Import lot file) = false

-- a payment is at most $20 above what is owed
abbrev pub is_covered : ℕ → ℤ → Bool
is_covered amount owed = int_le (pos amount -ℤ pos 2000) owed

abbrev pub question_text : Text → model.Act → Text
question_text owed what = owed ++ (act_text what ++ codes ". It can't be undone. Do it? y/n ")
