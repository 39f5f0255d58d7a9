use Rattle.shop_types.proofs.Common.{◌≡◌, ◌≤◌, map, vec_len, vec_capacity, range_with_len}
use Rattle.serde_json.specs.View.{view}
use Rattle.serde_json.specs.Data.{number, unsigned}
use Rattle.shop_views.proofs.numbers.counted_value.Given as goal

-- the numbers so far are there as values, and there is room for the rest
abbrev pub invariant-loop-at : goal.invariant-loop-at
invariant-loop-at l =
    (vec_len l.values ≡ l.at) × (l.count ≤ vec_capacity l.values) × (map view l.values.items ≡ map (λ n. number (unsigned n)) (range_with_len l.first l.at))
