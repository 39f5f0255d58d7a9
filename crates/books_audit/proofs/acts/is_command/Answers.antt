use Rattle.std.proofs.Common.{sym, true≢false}
use Rattle.books_audit.proofs.Ends.{headed, command_is, no_staff, no_moment}
use Rattle.books_audit.proofs.acts.is_command.Goals as goal

pub returns-in_default : goal.returns-in_default
returns-in_default c = (λ h. absurd (true≢false (sym h)), λ h. absurd (no_staff c.args.bytes.now c.in_default.ensures.none h))

pub returns-in_default-skip : goal.returns-in_default-skip
returns-in_default-skip c =
    let f = c.in-Some.ensures.found in
    (λ h. absurd (true≢false (sym h)), λ h. absurd (no_moment c.args.bytes.now c.in-Some.rest.now f.0 f.1 f.2 c.in_default-skip.ensures.none h))

pub returns : goal.returns
returns c =
    let f = c.in-Some.ensures.found in
    let g = c.in-Some-skip.ensures.found in
    let it = command_is c.args.bytes.now c.in-Some-skip.rest.now (headed c.args.bytes.now c.in-Some.rest.now c.in-Some-skip.rest.now f.0 g.0 f.1 f.2 g.1 g.2) in
    (λ h. it.0 (c.is_act.ensures.0 h), λ h. c.is_act.ensures.1 (it.1 h))
