use Rattle.shop_schema.proofs.Common.{◌∙◌, ap, accepted_answer}
use Rattle.branch_reports.proofs.Decisions.{accepted_told}
use Rattle.chain_requests.proofs.Resting.{looks_before}
use Rattle.chain_requests.proofs.reports.show.Goals as goal

pub returns-in-Ok-clause-same : goal.returns-in-Ok-clause-same
returns-in-Ok-clause-same g c clean books rests held =
    (looks_before c.in-Ok.ensures.same c.transaction.ensures.begun c.transaction.ensures.same_reference
    c.conn-1.given c.rollback.ensures.survives c.rollback.ensures.undone).rests
    clean books rests

pub returns-in-Ok-clause-shown : goal.returns-in-Ok-clause-shown
returns-in-Ok-clause-shown g c clean books rests held =
    let look =
    looks_before c.in-Ok.ensures.same c.transaction.ensures.begun c.transaction.ensures.same_reference
    c.conn-1.given c.rollback.ensures.survives c.rollback.ensures.undone in
    let it = look.says clean in
    c.accepted.ensures ∙ ap accepted_answer (c.in-Ok.ensures.text it.1 books (rests.now it.0) held)

pub returns-in-Err-clause-same : goal.returns-in-Err-clause-same
returns-in-Err-clause-same g c clean books rests held =
    (looks_before c.in-Err.ensures.same c.transaction.ensures.begun c.transaction.ensures.same_reference
    c.conn-1.given c.rollback.ensures.survives c.rollback.ensures.undone).rests
    clean books rests

pub returns-in-Ok-clause-decided : goal.returns-in-Ok-clause-decided
returns-in-Ok-clause-decided g c = accepted_told _ _ c.accepted.ensures
