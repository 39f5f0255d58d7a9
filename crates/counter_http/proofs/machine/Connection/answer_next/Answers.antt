use Rattle.shop_types.proofs.Common.{◌≡◌, ◌∙◌, drop, [], None, refl, sym, arith, is_store_failure, seen_reply}
use Rattle.http_messages.specs.Input.{HasMessage}
use Rattle.http_messages.specs.Shown.{message_of}
use Rattle.counter_http.specs.Exchanges.{Exchange}
use Rattle.counter_http.specs.Served.{IsRefused}
use Rattle.counter_http.proofs.Runs.{run_starts, run_one}
use Rattle.counter_http.proofs.Turns.{refused_is, drop_near, turn_none, turn_answer, turn_refusal}
use Rattle.counter_http.proofs.machine.Connection.answer_next.Goals as goal

pub returns-in-Whole-clause-turn : goal.returns-in-Whole-clause-turn
returns-in-Whole-clause-turn g c = λ input output.
    let live = rw (← c.self.view_is) at c.requires.goes in
    let empty = rw (← c.self.view_is) at c.requires.empty in
    let has : HasMessage c.self.inside.inbox (message_of c.in-Whole.request) (drop c.in-Whole.len c.self.inside.inbox) =
    rw c.bytes.ensures.value at c.in-Whole.ensures.1 in
    let e : Exchange = record { message = message_of c.in-Whole.request; answer = seen_reply c.answer-reply.result } in
    let near = drop_near c.in-Whole.len c.self.inside.inbox c.self.invariant.1 in
    let failed : is_store_failure e.answer ≡ c.is_failed.result = sym c.answer-reply.ensures.fails ∙ sym c.is_failed.ensures in
    let answered = c.answer-reply.ensures in
    rw (← c.self.view_is) (turn_answer _ _ _ input output e empty live (rw c.consume.ensures has) (rw c.consume.ensures near) c.put.ensures refl refl
    (c.ending_of-self-inside.ensures e input _ (c.after_reply-after.ensures e.answer failed))
    (run_one e answered.taken answered.told answered.fails answered.failed))

pub returns-in-More-clause-turn : goal.returns-in-More-clause-turn
returns-in-More-clause-turn g c = λ input output.
    rw (← c.self.view_is) (turn_none _ _ input output c.self.invariant run_starts)

pub returns-in-Refused-clause-turn : goal.returns-in-Refused-clause-turn
returns-in-Refused-clause-turn g c = λ input output.
    let live = rw (← c.self.view_is) at c.requires.goes in
    let empty = rw (← c.self.view_is) at c.requires.empty in
    let refused : IsRefused c.in-Refused.fault c.self.inside.inbox =
    rw c.bytes.ensures.value at (refused_is c.bytes.result.now c.in-Refused.fault c.in-Refused.ensures) in
    rw (← c.self.view_is, c.put-in-Refused.ensures, c.fault_reply.ensures)
    (turn_refusal _ _ input output c.in-Refused.fault c.self.invariant empty live refused run_starts)

pub ending_of-self-inside-requires : goal.ending_of-self-inside-requires
ending_of-self-inside-requires g c =
    let lt = c.self.invariant.0 (rw (← c.self.view_is) at c.requires.goes) in
    omega arith

pub invariant_of-self : goal.invariant_of-self
invariant_of-self g c = (
  (λ none.
      let e : Exchange = record { message = message_of c.in-Whole.request; answer = seen_reply c.answer-reply.result } in
      let failed : is_store_failure e.answer ≡ c.is_failed.result = sym c.answer-reply.ensures.fails ∙ sym c.is_failed.ensures in
      let goes = rw none at (c.ending_of-self-inside.ensures e None [] (c.after_reply-after.ensures e.answer failed)) in
      omega (arith, goes.1)),
  rw c.consume.ensures (drop_near c.in-Whole.len c.self.inside.inbox c.self.invariant.1),
)
