use Rattle.std.proofs.Common.{◌≡◌, ◌++◌, drop, map, string_bytes}
use Rattle.till_program.proofs.lines.push_copies.Given as goal

abbrev pub invariant-loop-word : goal.invariant-loop-word
invariant-loop-word l =
    map string_bytes l.words.items ++ map string_bytes (drop l.word-index l.more)
    ≡ map string_bytes l.fn.words.items ++ map string_bytes l.more
