use Rattle.std.proofs.Common.{length}
use Rattle.shop_schema.proofs.same_tables.+same_tables.Given as goal

abbrev pub decreases-same_tables : goal.decreases-same_tables
decreases-same_tables l = length l.first.now
