use Rattle.shop_schema.proofs.Common.{◌≡◌, ◌++◌, length, take, number_form}
use Rattle.std.specs.Prelude.{flat_map}
use Rattle.shop_schema.proofs.form.add_numbers.Given as goal

-- the form has the count of the numbers, and then the numbers so far
abbrev pub invariant-loop-number : goal.invariant-loop-number
invariant-loop-number g l = l.form.items ≡ l.fn.form.items ++ (number_form (length l.numbers) ++ flat_map number_form (take l.number-index l.numbers))
