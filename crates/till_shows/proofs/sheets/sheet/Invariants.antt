use Rattle.std.proofs.Common.{◌≡◌, drop, string_bytes, []}
use Rattle.serde_json.specs.View.{view}
use Rattle.till_shows.specs.Bodies.{each}
use Rattle.till_shows.specs.Sheets.{field_line}
use Rattle.till_shows.proofs.SheetLemmas.{lines_behind}
use Rattle.till_shows.proofs.sheets.sheet.Given as goal

-- the lines so far, and the lines of the parts that are left
abbrev pub invariant-loop-part : goal.invariant-loop-part
invariant-loop-part l =
    lines_behind (string_bytes l.sheet) (each (field_line (view l.value)) (drop l.part-index l.parts))
    ≡ lines_behind [] (each (field_line (view l.value)) l.parts)
