use Rattle.std.proofs.Common.{◌≡◌, ◌≤◌, length, take, map, string_bytes, vec_len, vec_capacity}
use Rattle.serde_json.specs.Data.{string}
use Rattle.serde_json.specs.View.{view}
use Rattle.till_requests.proofs.office.list_text.Given as goal

-- the list so far has the words so far, and there is room for the rest
abbrev pub invariant-loop-word : goal.invariant-loop-word
invariant-loop-word l = record {
  len : vec_len l.list ≡ l.word-index;
  room : length l.words ≤ vec_capacity l.list;
  listed : map view l.list.items ≡ map string (map string_bytes (take l.word-index l.words));
}
