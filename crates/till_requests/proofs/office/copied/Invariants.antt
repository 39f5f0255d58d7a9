use Rattle.std.proofs.Common.{◌≡◌, ◌≤◌, length, take, map, string_bytes, vec_len, vec_capacity}
use Rattle.till_requests.proofs.office.copied.Given as goal

-- the words so far, and there is room for the rest
abbrev pub invariant-loop-word : goal.invariant-loop-word
invariant-loop-word l = record {
  len : vec_len l.all ≡ l.word-index;
  room : length l.words ≤ vec_capacity l.all;
  copied : map string_bytes l.all.items ≡ map string_bytes (take l.word-index l.words);
}
