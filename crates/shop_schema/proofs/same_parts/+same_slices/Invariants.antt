use Rattle.std.proofs.Common.{length}
use Rattle.shop_schema.proofs.same_parts.+same_slices.Given as goal

abbrev pub decreases-same_slices : goal.decreases-same_slices
decreases-same_slices g l = length l.first.now
