use Rattle.shop_types.proofs.Common.{refl, arith, rules, Keeps-refl}
use Rattle.counter_http.specs.Phases.{IsPhase, IsTurnFault}
use Rattle.counter_http.specs.declared.machine.Phase.TheVariants.{Ended}
use Rattle.counter_http.specs.declared.machine.TurnFault.TheVariants.{Read, Write}
use Rattle.counter_http.proofs.Serving.{served_none, served_by, read_fails, write_fails}
use Rattle.counter_http.proofs.Runs.{run_starts}
use Rattle.counter_http.proofs.connection.serve.Goals as goal

pub returns-then-max_requests-eq0-clause-served : goal.returns-then-max_requests-eq0-clause-served
returns-then-max_requests-eq0-clause-served g c = rw c.if-max_requests-eq0.true (served_none _ _ _ run_starts)

pub returns-then-max_requests-eq0-clause-none_allowed : goal.returns-then-max_requests-eq0-clause-none_allowed
returns-then-max_requests-eq0-clause-none_allowed g c none = (refl, refl, Keeps-refl _, Keeps-refl _)

pub returns-in_default-clause-fault : goal.returns-in_default-clause-fault
returns-in_default-clause-fault g c = (run_starts, Keeps-refl _, Keeps-refl _)

pub returns-in_default-new-clause-fault : goal.returns-in_default-new-clause-fault
returns-in_default-new-clause-fault g c = (run_starts, Keeps-refl _, Keeps-refl _)

pub returns-in-Ok-Ended-clause-served : goal.returns-in-Ok-Ended-clause-served
returns-in-Ok-Ended-clause-served g c =
    let ended : IsPhase (Ended c.in-Ok-Ended.end) c.args.max_requests c.in-Ok.connection c.advance-turn.new.self = search rules in
    rw (c.replies-replies.ensures, c.refusals.ensures) (served_by _ _ _ _ _ _ _ _ (rw c.in-Ok.ensures at c.advance-turn.ensures.turn) ended)

pub returns-in-Ok-Reads-clause-fault : goal.returns-in-Ok-Reads-clause-fault
returns-in-Ok-Reads-clause-fault g c =
    let waits : IsTurnFault Read c.advance-turn.new.self = search rules in
    rw c.replies-replies.ensures (read_fails _ _ _ _ _ _ _ (omega arith) (rw c.in-Ok.ensures at c.advance-turn.ensures.turn) waits)

pub returns-in-Ok-Writes-clause-fault : goal.returns-in-Ok-Writes-clause-fault
returns-in-Ok-Writes-clause-fault g c =
    let waits : IsTurnFault Write c.advance-turn.new.self = search rules in
    rw c.told-told.ensures (write_fails _ _ _ _ _ _ _ (omega arith) (rw c.in-Ok.ensures at c.advance-turn.ensures.turn) waits)

pub returns-in-Err-Read-clause-fault : goal.returns-in-Err-Read-clause-fault
returns-in-Err-Read-clause-fault g c =
    let fails : IsTurnFault Read c.advance-turn.new.self = search rules in
    rw c.replies-replies.ensures (read_fails _ _ _ _ _ _ _ (omega arith) (rw c.in-Ok.ensures at c.advance-turn.ensures.turn) fails)

pub returns-in-Err-Write-clause-fault : goal.returns-in-Err-Write-clause-fault
returns-in-Err-Write-clause-fault g c =
    let fails : IsTurnFault Write c.advance-turn.new.self = search rules in
    rw c.told-told.ensures (write_fails _ _ _ _ _ _ _ (omega arith) (rw c.in-Ok.ensures at c.advance-turn.ensures.turn) fails)
