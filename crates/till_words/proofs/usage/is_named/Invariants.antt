use Rattle.std.proofs.Common.{◌≡◌, drop, map}
use Rattle.till_words.specs.Usage.{is_named}
use Rattle.till_words.proofs.usage.is_named.Given as goal

abbrev pub invariant-loop-word : goal.invariant-loop-word
invariant-loop-word l = is_named l.name (map (λ s. s.now) (drop l.word-index l.words)) ≡ is_named l.name (map (λ s. s.now) l.words)
