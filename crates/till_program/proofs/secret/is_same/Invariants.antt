use Rattle.std.proofs.Common.{◌≡◌, take}
use Rattle.till_program.proofs.secret.is_same.Given as goal

abbrev pub invariant-loop-at : goal.invariant-loop-at
invariant-loop-at l = record {
  same : take l.at l.one ≡ take l.at l.two → l.differences ≡ 0;
  differs : l.differences ≡ 0 → take l.at l.one ≡ take l.at l.two;
}
