use Rattle.shop_types.proofs.Common.{◌≡◌, fold}
use Rattle.till_words.specs.PromptLine.{beginning, read_char}
use Rattle.till_words.specs.Seen.{seen_split}
use Rattle.till_words.proofs.lines.words_of.Given as goal

abbrev pub invariant-loop-c : goal.invariant-loop-c
invariant-loop-c l = seen_split l.reading ≡ fold read_char beginning l.yielded
