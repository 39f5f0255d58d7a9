use Rattle.std.proofs.Common.{◌≡◌, drop, map, None}
use Rattle.till_words.specs.Usage.{wrong_from}
use Rattle.till_words.proofs.usage.wrong_from.Given as goal

abbrev pub invariant-loop-word : goal.invariant-loop-word
invariant-loop-word l = wrong_from l.options l.awaiting (map (λ s. s.now) (drop l.word-index l.words)) ≡ wrong_from l.options None (map (λ s. s.now) l.words)
