-- What is read while a slip is made or looked for.
use Rattle.std.specs.Prelude.{string_bytes}
use Rattle.till_shows.specs.Slips as spec
use Rattle.till_shows.specs.declared.slips.CutLine.{CutLine}
use Rattle.till_shows.specs.declared.slips.Slips.{Slips}

abbrev pub seen_cut : CutLine → spec.CutLine
seen_cut cut = record { text = string_bytes cut.text; is_full = cut.is_full }

abbrev pub seen_slips : Slips → spec.Slips
seen_slips slips = record { last = string_bytes slips.last; rest = string_bytes slips.rest }
