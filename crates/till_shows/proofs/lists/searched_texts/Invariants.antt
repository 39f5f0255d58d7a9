use Rattle.std.proofs.Common.{◌≡◌, ◌++◌, drop, map, string_bytes}
use Rattle.serde_json.specs.View.{view}
use Rattle.till_shows.specs.Lists.{searched_texts}
use Rattle.till_shows.proofs.lists.searched_texts.Given as goal

-- the texts so far, and the texts of the fields that are left
abbrev pub invariant-loop-part : goal.invariant-loop-part
invariant-loop-part l = map string_bytes l.texts.items ++ searched_texts (drop l.part-index l.parts) (view l.value) ≡ searched_texts l.parts (view l.value)
