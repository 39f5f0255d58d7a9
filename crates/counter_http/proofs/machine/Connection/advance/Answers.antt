use Rattle.std.proofs.Common.{ap, arith}
use Rattle.counter_http.specs.Phases.{ConnectionState}
use Rattle.counter_http.proofs.Following.{run_follows}
use Rattle.counter_http.proofs.Runs.{run_starts}
use Rattle.counter_http.proofs.Turns.{turn_none, turn_then, turn_on}
use Rattle.counter_http.proofs.machine.Connection.advance.Goals as goal

pub turn-init : goal.turn-init
turn-init g c = record {
  turns = rw (← c.self.view_is) (turn_none _ _ _ _ c.self.invariant run_starts);
  few = omega arith;
}

pub turn-preserved-else-not-more : goal.turn-preserved-else-not-more
turn-preserved-else-not-more g c =
    let first = ap (λ (l : ConnectionState). l.replies) c.self.view_is in
    let before = ap (λ (l : ConnectionState). l.replies) c.self-in-turn.view_is in
    record {
      turns =
          turn_on (turn_then (turn_on c.turn.invariant.turns (c.send.ensures.turn _)) (c.answer_next.ensures.turn _ _) (λ es more x y. run_follows es more x y))
          (c.read_more.ensures.turn _);
      few = omega (arith, c.send.ensures.same, c.answer_next.ensures.one, c.read_more.ensures.same.1);
    }

pub turn-preserved : goal.turn-preserved
turn-preserved g c =
    let first = ap (λ (l : ConnectionState). l.replies) c.self.view_is in
    let before = ap (λ (l : ConnectionState). l.replies) c.self-in-turn.view_is in
    record {
      turns = turn_then (turn_on c.turn.invariant.turns (c.send.ensures.turn _)) (c.answer_next.ensures.turn _ _) (λ es more x y. run_follows es more x y);
      few = omega (arith, c.send.ensures.same, c.answer_next.ensures.one);
    }

pub returns-in_default-clause-turn : goal.returns-in_default-clause-turn
returns-in_default-clause-turn g c = turn_on c.turn.invariant.turns (c.send.ensures.turn _)

pub returns-then-not-all-clause-turn : goal.returns-then-not-all-clause-turn
returns-then-not-all-clause-turn g c = turn_on c.turn.invariant.turns (c.send.ensures.turn _)

pub returns-in-Some-clause-turn : goal.returns-in-Some-clause-turn
returns-in-Some-clause-turn g c = turn_on c.turn.invariant.turns (c.send.ensures.turn _)

pub returns-then-self-first-clause-turn : goal.returns-then-self-first-clause-turn
returns-then-self-first-clause-turn g c = turn_on c.turn.invariant.turns (c.send.ensures.turn _)

pub returns-in_default-read_more-clause-turn : goal.returns-in_default-read_more-clause-turn
returns-in_default-read_more-clause-turn g c =
    turn_on (turn_then (turn_on c.turn.invariant.turns (c.send.ensures.turn _)) (c.answer_next.ensures.turn _ _) (λ es more x y. run_follows es more x y))
    (c.read_more.ensures.turn _)

pub returns-then-not-more-clause-turn : goal.returns-then-not-more-clause-turn
returns-then-not-more-clause-turn g c =
    turn_on (turn_then (turn_on c.turn.invariant.turns (c.send.ensures.turn _)) (c.answer_next.ensures.turn _ _) (λ es more x y. run_follows es more x y))
    (c.read_more.ensures.turn _)
