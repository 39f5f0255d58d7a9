-- The command line is one whose faults and values clap tells exactly.
use Rattle.std.proofs.Common.{◌≡◌, refl, true}
use Rattle.clap.specs.Words.{is_simple, is_simple_and_free}
use Rattle.clap.proofs.OnLiterals.{clap_on_literals}
use Rattle.office_words.specs.CommandLine.{office_app}

pub office_is_simple_and_free : is_simple_and_free office_app ≡ true
unfolding clap_on_literals
office_is_simple_and_free = refl

pub office_is_simple : is_simple office_app ≡ true
unfolding clap_on_literals
office_is_simple = refl
