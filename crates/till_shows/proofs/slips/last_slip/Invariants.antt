use Rattle.shop_types.proofs.Common.{◌≡◌, fold, map}
use Rattle.till_shows.specs.Seen.{seen_slips}
use Rattle.till_shows.specs.Slips.{no_slips, with_line}
use Rattle.till_shows.proofs.slips.last_slip.Given as goal

abbrev pub invariant-loop-line : goal.invariant-loop-line
invariant-loop-line l = seen_slips l.slips ≡ fold with_line no_slips (map (λ line. line.now) l.yielded)
