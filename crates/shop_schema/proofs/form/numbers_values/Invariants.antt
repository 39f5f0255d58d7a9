use Rattle.shop_schema.proofs.Common.{take, AreNumbers}
use Rattle.shop_schema.proofs.form.numbers_values.Given as goal

abbrev pub invariant-loop-number : goal.invariant-loop-number
invariant-loop-number g l = AreNumbers (take l.number-index l.numbers)
