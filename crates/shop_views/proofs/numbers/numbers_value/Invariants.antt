use Rattle.std.proofs.Common.{◌≡◌, ◌≤◌, length, take, map, vec_len, vec_capacity}
use Rattle.serde_json.specs.View.{view}
use Rattle.serde_json.specs.Data.{number, unsigned}
use Rattle.shop_views.proofs.numbers.numbers_value.Given as goal

-- the numbers so far are there as values, and there is room for the rest
abbrev pub invariant-loop-number : goal.invariant-loop-number
invariant-loop-number g l =
    (vec_len l.values ≡ l.number-index) × (length l.numbers ≤ vec_capacity l.values)
    × (map view l.values.items ≡ map (λ n. number (unsigned n)) (take l.number-index l.numbers))
