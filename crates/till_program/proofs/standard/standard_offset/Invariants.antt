use Rattle.std.proofs.Common.{◌≡◌, ◌-◌}
use Rattle.till_program.specs.StandardTime.{least_offset, standard_offset}
use Rattle.till_program.proofs.standard.standard_offset.Given as goal

abbrev pub invariant-loop : goal.invariant-loop
invariant-loop l = record {
  rest : least_offset (400 - l.counter) l.fn.zone l.end l.at.nanosecond l.least ≡ standard_offset l.fn.zone l.fn.now.nanosecond;
}
