use Rattle.std.proofs.Common.{◌≡◌, ◌++◌, drop, map, string_bytes}
use Rattle.till_words.proofs.named.push_words.Given as goal

abbrev pub invariant-loop-word : goal.invariant-loop-word
invariant-loop-word l =
    map (λ s. s.now) l.named.items ++ map string_bytes (drop l.word-index l.words)
    ≡ map (λ s. s.now) l.fn.named.items ++ map string_bytes l.words
