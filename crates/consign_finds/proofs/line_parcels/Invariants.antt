use Rattle.std.proofs.Common.{◌≡◌, take, map}
use Rattle.consign_finds.specs.Finds.{line_parcel}
use Rattle.consign_finds.proofs.line_parcels.Given as goal

abbrev pub invariant-loop-row : goal.invariant-loop-row
invariant-loop-row l = l.lines.items ≡ map line_parcel (take l.row-index l.rows)
