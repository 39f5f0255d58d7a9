use Rattle.std.proofs.Common.{◌≡◌, drop, map}
use Rattle.till_words.specs.Texts.{all_numbers}
use Rattle.till_words.proofs.TextLemmas.{with_rest}
use Rattle.till_words.proofs.texts.all_numbers.Given as goal

abbrev pub invariant-loop-piece : goal.invariant-loop-piece
invariant-loop-piece g l = with_rest l.numbers.items (map (λ s. s.now) (drop l.piece-index l.pieces)) ≡ all_numbers (map (λ s. s.now) l.pieces)
