use Rattle.shop_schema.proofs.Common.{◌≡◌, false, take, list_any, mem}
use Rattle.consign_finds.proofs.has_any.Given as goal

-- none of the copies so far is among the numbers
abbrev pub invariant-loop-copy : goal.invariant-loop-copy
invariant-loop-copy l = list_any (λ copy. mem copy l.fn.numbers.items) (take l.copy-index l.copies) ≡ false
