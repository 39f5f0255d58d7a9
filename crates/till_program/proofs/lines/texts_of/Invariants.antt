use Rattle.std.proofs.Common.{◌≡◌, map, take, string_bytes}
use Rattle.till_program.proofs.lines.texts_of.Given as goal

abbrev pub invariant-loop-part : goal.invariant-loop-part
invariant-loop-part l = map string_bytes l.texts.items ≡ map (λ w. w.items) (take l.part-index l.fn.parts.items)
