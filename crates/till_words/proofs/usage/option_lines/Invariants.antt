use Rattle.std.proofs.Common.{◌≡◌, ◌++◌, drop, string_bytes}
use Rattle.till_words.specs.Usage.{option_lines}
use Rattle.till_words.proofs.usage.option_lines.Given as goal

abbrev pub invariant-loop-option : goal.invariant-loop-option
invariant-loop-option l = string_bytes l.text ++ option_lines (drop l.option-index l.options) ≡ option_lines l.options
