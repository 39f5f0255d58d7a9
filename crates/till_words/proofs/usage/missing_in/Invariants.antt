use Rattle.std.proofs.Common.{◌≡◌, drop, map}
use Rattle.till_words.specs.Usage.{missing_in}
use Rattle.till_words.proofs.usage.missing_in.Given as goal

abbrev pub invariant-loop-option : goal.invariant-loop-option
invariant-loop-option l = missing_in (drop l.option-index l.options) (map (λ s. s.now) l.words) ≡ missing_in l.options (map (λ s. s.now) l.words)
