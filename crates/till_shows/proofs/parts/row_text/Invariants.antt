use Rattle.std.proofs.Common.{◌≡◌, drop, []}
use Rattle.serde_json.specs.View.{view}
use Rattle.till_shows.specs.Bodies.{each}
use Rattle.till_shows.specs.Fields.{field_text}
use Rattle.till_shows.proofs.EachLemmas.{behind}
use Rattle.till_shows.proofs.parts.row_text.Given as goal

-- the texts so far, and the texts of the parts that are left
abbrev pub invariant-loop-part : goal.invariant-loop-part
invariant-loop-part l = behind l.row (each (field_text (view l.value)) (drop l.part-index l.parts)) ≡ behind [] (each (field_text (view l.value)) l.parts)
