use Rattle.shop_types.proofs.Common.{◌≡◌, fold}
use Rattle.till_shows.specs.Seen.{seen_cut}
use Rattle.till_shows.specs.Slips.{nothing_cut, with_char}
use Rattle.till_shows.proofs.slips.cut.Given as goal

abbrev pub invariant-loop-c : goal.invariant-loop-c
invariant-loop-c l = seen_cut l.cut ≡ fold with_char nothing_cut l.yielded
