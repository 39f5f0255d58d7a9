use Rattle.sql_rows.proofs.Common.{◌≡◌, ◌∙◌, inr, List, ℕ, sym, ap, Some, arith, state, HasCleanDisk}
use Rattle.till_book.specs.Journal.{waiting}
use Rattle.till_work.proofs.delivering.deliver.Goals as goal

pub returns-then-answer-eq503-clause-fault : goal.returns-then-answer-eq503-clause-fault
returns-then-answer-eq503-clause-fault g c clean journal rests next =
    let found = c.in-Ok-Some.ensures.found clean journal rests next in
    let request = c.as_slice.result.now in
    let oldest : waiting journal ≡ Some request = sym found.1 ∙ c.in-Ok-Some.field-0-is ∙ ap (λ (l : List ℕ). Some l) (sym c.as_slice.ensures) in
    (found.0, (request, oldest, c.in-Ok.ensures.sent))

pub returns-then-is_unknown-clause-fault : goal.returns-then-is_unknown-clause-fault
returns-then-is_unknown-clause-fault g c clean journal rests next =
    let found = c.in-Ok-Some.ensures.found clean journal rests next in
    let request = c.as_slice.result.now in
    let oldest : waiting journal ≡ Some request = sym found.1 ∙ c.in-Ok-Some.field-0-is ∙ ap (λ (l : List ℕ). Some l) (sym c.as_slice.ensures) in
    (found.0, (request, oldest, c.in-Ok.ensures.sent))

pub returns-clause-fault : goal.returns-clause-fault
returns-clause-fault g c clean journal rests next =
    let clean_before : HasCleanDisk (state g.S.Store c.oldest.new.conn) = omega (arith, clean, c.record.ensures.crash.clean) in
    let found = c.in-Ok-Some.ensures.found clean_before journal rests next in
    let request = c.as_slice.result.now in
    let oldest : waiting journal ≡ Some request = sym found.1 ∙ c.in-Ok-Some.field-0-is ∙ ap (λ (l : List ℕ). Some l) (sym c.as_slice.ensures) in
    inr (request, oldest, c.in-Ok.ensures.sent)
