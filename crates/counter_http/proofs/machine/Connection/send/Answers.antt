use Rattle.std.proofs.Common.{◌≡◌, [], refl}
use Rattle.counter_http.proofs.Turns.{turn_sent}
use Rattle.counter_http.proofs.machine.Connection.send.Goals as goal

pub returns-clause-turn : goal.returns-clause-turn
returns-clause-turn g c = λ input.
    let sent = c.flush.ensures.sent in
    rw (← c.self.view_is) (turn_sent _ _ (λ es. es ≡ []) input _ _ sent.0 c.self.invariant sent.1 sent.2 refl)
