use Rattle.std.proofs.Common.{◌≡◌, ◌++◌, length, map, take, string_bytes}
use Rattle.std.specs.Int.{w32, to_be_bytes}
use Rattle.std.specs.List.{flat_map}
use Rattle.till_program.specs.Frames.{field, AreWords}
use Rattle.till_program.proofs.lines.line_of.Given as goal

abbrev pub invariant-loop-word : goal.invariant-loop-word
invariant-loop-word l = record {
  written : l.out.items ≡ to_be_bytes w32 (length l.words) ++ flat_map field (map string_bytes (take l.word-index l.words));
  words : AreWords (map string_bytes (take l.word-index l.words));
}
