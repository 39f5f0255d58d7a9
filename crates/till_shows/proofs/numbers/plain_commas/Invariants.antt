use Rattle.std.proofs.Common.{◌≡◌, take, string_bytes}
use Rattle.till_shows.specs.Numbers.{commas}
use Rattle.till_shows.proofs.numbers.plain_commas.Given as goal

abbrev pub invariant-loop-number : goal.invariant-loop-number
invariant-loop-number l = string_bytes l.text ≡ commas (take l.number-index l.numbers)
