use Rattle.std.proofs.Common.{◌≡◌, ◌≤◌, length, drop, map, string_bytes, vec_len, vec_capacity}
use Rattle.serde_json.specs.View.{view, items_view}
use Rattle.counter_routes.specs.Words.{list_of_texts, texts_in}
use Rattle.counter_routes.proofs.WordLemmas.{behind}
use Rattle.counter_routes.proofs.office.texts.Given as goal

-- the texts so far are read from the items so far, and there is room for the rest
abbrev pub invariant-loop-item : goal.invariant-loop-item
invariant-loop-item l = record {
  len : vec_len l.texts ≡ l.item-index;
  room : length l.item-items ≤ vec_capacity l.texts;
  read : behind (map string_bytes l.texts.items) (texts_in (items_view (drop l.item-index l.item-items))) ≡ list_of_texts (view l.value);
}
