use Rattle.shop_types.proofs.Common.{◌≡◌, ◌∙◌, ◌<◌, ◌≤◌, ◌-◌, [], refl, sym, ap, append-nil, length, length-append, arith, Consumes-nil, Consumes-kept}
use Rattle.counter_http.specs.declared.inbox.TheConstants.{ROOM}
use Rattle.counter_http.proofs.Turns.{turn_read, turn_grown}
use Rattle.counter_http.proofs.machine.Connection.read_more.Goals as goal

pub returns-in-Ok-eq0-clause-turn : goal.returns-in-Ok-eq0-clause-turn
returns-in-Ok-eq0-clause-turn g c = λ output.
    let live = rw (← c.self.view_is) at c.requires.goes in
    let may = c.self.invariant.0 live in
    let some : 0 < c.self.inside.most - c.self.inside.replies = omega arith in
    let ok = c.in-Ok-eq0.ensures.ok in
    let goes = rw c.bytes.ensures.value at (c.end_at.ensures _ _ some (c.in-Ok-eq0.ensures.end c.in-Ok-eq0.field-0-test)) in
    let near : length c.fill.new.self ≤ ROOM = omega (arith, ap length ok.2, length-append c.self.inside.inbox ok.0, ok.3, c.in-Ok-eq0.ensures.fits) in
    rw (← c.self.view_is) (turn_read _ _ _ (λ es. es ≡ []) _ _ output ok.0 live ok.1 ok.2 near goes refl)

pub returns-in-Ok-clause-turn : goal.returns-in-Ok-clause-turn
returns-in-Ok-clause-turn g c = λ output.
    let live = rw (← c.self.view_is) at c.requires.goes in
    let ok = c.in-Ok.ensures.ok in
    let near : length c.fill.new.self ≤ ROOM = omega (arith, ap length ok.2, length-append c.self.inside.inbox ok.0, ok.3, c.in-Ok.ensures.fits) in
    rw (← c.self.view_is) (turn_grown _ _ (λ es. es ≡ []) _ _ output ok.0 c.self.invariant live ok.1 ok.2 near refl)

pub returns-after-kind-clause-turn : goal.returns-after-kind-clause-turn
returns-after-kind-clause-turn g c = λ output.
    let live = rw (← c.self.view_is) at c.requires.goes in
    let err = c.in-Err.ensures.err in
    let near : length c.fill.new.self ≤ ROOM = rw err.0 c.self.invariant.1 in
    rw (← c.self.view_is)
    (turn_grown _ _ (λ es. es ≡ []) _ _ output [] c.self.invariant live (Consumes-kept _ _ _ [] (Consumes-nil _) err.1) (err.0 ∙ sym (append-nil _)) near refl)
