use Rattle.std.proofs.Common.{◌≡◌, Bor, ℕ, List, Err, length, arith, ap, ◌∙◌}
use Rattle.std.proofs.lemmas.Result.{err_from_is_err_and}
use Rattle.till_program.specs.Reading.{Is}
use Rattle.till_program.proofs.FrameLaws.{frame_found, frame_only, frame_only_head, frame_front, frame_front_head}
use Rattle.till_program.proofs.frames.read_frame.Goals as goal

pub returns-in_err-rest-clause-only : goal.returns-in_err-rest-clause-only
returns-in_err-rest-clause-only c = λ text file le le' is.
    let p = err_from_is_err_and c.from_residual.result c.from_residual.ensures.1 in
    rw (p.1, p.2)
    (frame_only_head (λ (f : Bor (List ℕ) × Bor (List ℕ)). (f.0.now, f.1.now)) c.in_err-rest.field-0.0
    c.args.bytes.now c.args.secret.now text file c.after_head.ensures.size c.in_err-rest.ensures.why is)

pub returns-in_err-rest-clause-front : goal.returns-in_err-rest-clause-front
returns-in_err-rest-clause-front c = λ text file more next le le' is.
    let p = err_from_is_err_and c.from_residual.result c.from_residual.ensures.1 in
    rw (p.1, p.2)
    (ap Err
    (frame_front_head c.in_err-rest.field-0.0 c.args.bytes.now c.args.secret.now
    text file more next c.after_head.ensures.size c.in_err-rest.ensures.why is))

pub returns-clause-found : goal.returns-clause-found
returns-clause-found c =
    frame_found (λ f. (f.0.now, f.1.now)) c.body_of.result c.args.bytes.now c.args.secret.now c.in_ok-rest.rest.now c.after_head.ensures.size
    (λ i. omega (arith, c.type_inv.bytes i)) c.in_ok-rest.ensures.found c.body_of.ensures

pub returns-clause-only : goal.returns-clause-only
returns-clause-only c = λ text file le le' is.
    frame_only (λ f. (f.0.now, f.1.now)) c.body_of.result c.args.bytes.now c.args.secret.now c.in_ok-rest.rest.now
    text file c.after_head.ensures.size c.in_ok-rest.ensures.found c.body_of.ensures le le' is

pub returns-clause-front : goal.returns-clause-front
returns-clause-front c = λ text file more next le le' is.
    frame_front (λ f. (f.0.now, f.1.now)) c.body_of.result c.args.bytes.now c.args.secret.now c.in_ok-rest.rest.now
    text file more next c.after_head.ensures.size c.in_ok-rest.ensures.found c.body_of.ensures le le' is
