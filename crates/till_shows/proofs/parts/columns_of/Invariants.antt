use Rattle.std.proofs.Common.{◌≡◌, take, map}
use Rattle.till_shows.specs.Fields.{Field}
use Rattle.till_shows.specs.Tables.{seen_sides, seen_headings}
use Rattle.till_shows.proofs.parts.columns_of.Given as goal

abbrev pub invariant-loop-part : goal.invariant-loop-part
invariant-loop-part l =
    (seen_sides l.columns.items ≡ map (λ (field : Field). field.side) (take l.part-index l.parts))
    × (seen_headings l.columns.items ≡ map (λ (field : Field). field.heading) (take l.part-index l.parts))
