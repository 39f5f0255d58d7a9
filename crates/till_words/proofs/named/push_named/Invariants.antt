use Rattle.std.proofs.Common.{◌≡◌, ◌++◌, false, drop, map, string_bytes}
use Rattle.till_words.specs.Places.{named_from}
use Rattle.till_words.proofs.named.push_named.Given as goal

abbrev pub invariant-loop-word : goal.invariant-loop-word
invariant-loop-word l =
    map (λ s. s.now) l.named.items ++ named_from l.awaits (map (λ s. s.now) l.left) (map string_bytes (drop l.word-index l.words))
    ≡ map (λ s. s.now) l.fn.named.items ++ named_from false (map (λ s. s.now) l.names) (map string_bytes l.words)
