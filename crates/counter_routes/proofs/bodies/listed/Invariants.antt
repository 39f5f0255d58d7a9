use Rattle.std.proofs.Common.{◌≡◌, ◌≤◌, length, drop, vec_len, vec_capacity}
use Rattle.serde_json.specs.View.{view, items_view}
use Rattle.counter_routes.specs.Bodies.{list_of_numbers, numbers_in}
use Rattle.counter_routes.proofs.WordLemmas.{behind}
use Rattle.counter_routes.proofs.bodies.listed.Given as goal

-- the numbers so far are read from the items so far, and there is room for the rest
abbrev pub invariant-loop-item : goal.invariant-loop-item
invariant-loop-item g l = record {
  len : vec_len l.numbers ≡ l.item-index;
  room : length l.item-items ≤ vec_capacity l.numbers;
  read : behind l.numbers.items (numbers_in (items_view (drop l.item-index l.item-items))) ≡ list_of_numbers (view l.value);
}
