use Rattle.std.proofs.Common.{◌≡◌, ◌-◌, map}
use Rattle.till_program.specs.Reading.{words_at}
use Rattle.till_program.proofs.WordLoop.{with_front}
use Rattle.till_program.proofs.lines.words_of.Given as goal

abbrev pub invariant-loop : goal.invariant-loop
invariant-loop l = with_front (map (λ v. v.items) l.words.items) (words_at (l.count - l.counter) l.rest) ≡ words_at l.count l.bytes
