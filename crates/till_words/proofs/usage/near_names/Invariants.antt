use Rattle.std.proofs.Common.{◌≡◌, ◌++◌, drop, map}
use Rattle.till_words.specs.Usage.{near_names}
use Rattle.till_words.proofs.usage.near_names.Given as goal

abbrev pub invariant-loop-word : goal.invariant-loop-word
invariant-loop-word l = map (λ s. s.now) l.names.items ++ near_names l.text (drop l.word-index l.words) ≡ near_names l.text l.words
