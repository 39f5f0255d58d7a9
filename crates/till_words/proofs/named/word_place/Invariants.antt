use Rattle.std.proofs.Common.{◌≡◌, ◌+◌, false, length, map, string_bytes}
use Rattle.till_words.specs.Places.{place_from}
use Rattle.till_words.proofs.named.word_place.Given as goal

abbrev pub invariant-loop-rest : goal.invariant-loop-rest
invariant-loop-rest l = record {
  value : l.place + place_from l.awaits (map string_bytes l.rest) ≡ place_from false (map string_bytes l.fn.words);
  count : l.place + length l.rest ≡ length l.fn.words;
}

abbrev pub decreases-loop-rest : goal.decreases-loop-rest
decreases-loop-rest l = length l.rest
