use Rattle.std.proofs.Common.{None}
use Rattle.std.proofs.lemmas.Str.Pattern.{strip_prefix_char}
use Rattle.till_words.proofs.LabelLemmas.{no_letter}
use Rattle.till_words.proofs.labels.unlabelled.Goals as goal

pub returns-in_default : goal.returns-in_default
returns-in_default c =
    no_letter c.args.letter c.args.text.now (strip_prefix_char c.args.letter c.args.text.now None c.in_default.ensures.cases c.requires)
