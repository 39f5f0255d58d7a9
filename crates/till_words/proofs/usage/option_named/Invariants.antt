use Rattle.std.proofs.Common.{◌≡◌, drop}
use Rattle.till_words.specs.Usage.{option_named}
use Rattle.till_words.proofs.usage.option_named.Given as goal

abbrev pub invariant-loop-option : goal.invariant-loop-option
invariant-loop-option l = option_named l.name (drop l.option-index l.options) ≡ option_named l.name l.options
