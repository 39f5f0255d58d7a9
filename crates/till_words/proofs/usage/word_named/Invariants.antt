use Rattle.std.proofs.Common.{◌≡◌, drop}
use Rattle.till_words.specs.Usage.{word_named}
use Rattle.till_words.proofs.usage.word_named.Given as goal

abbrev pub invariant-loop-word : goal.invariant-loop-word
invariant-loop-word l = word_named l.name (drop l.word-index l.words) ≡ word_named l.name l.words
