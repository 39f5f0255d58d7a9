-- The command line is of a form for which clap reports faults and values exactly.
use Rattle.std.proofs.Common.{◌≡◌, refl, true}
use Rattle.clap.specs.Words.{is_simple, is_simple_and_free}
use Rattle.clap.proofs.OnLiterals.{clap_on_literals}
use Rattle.till_words.specs.CommandLine.{till_app}

pub till_is_simple_and_free : is_simple_and_free till_app ≡ true
unfolding clap_on_literals
till_is_simple_and_free = refl

pub till_is_simple : is_simple till_app ≡ true
unfolding clap_on_literals
till_is_simple = refl
