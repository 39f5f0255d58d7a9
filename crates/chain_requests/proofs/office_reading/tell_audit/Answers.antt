use Rattle.shop_schema.proofs.Common.{◌∙◌, ap, state, answer_of, accepted_answer}
use Rattle.chain_requests.proofs.Audits.{audit_of_books}
use Rattle.branch_reports.proofs.Decisions.{accepted_told}
use Rattle.chain_requests.proofs.office_reading.tell_audit.Goals as goal

pub returns-in-Ok-clause-told : goal.returns-in-Ok-clause-told
returns-in-Ok-clause-told g c clean = λ books rests held sound.
    let says = c.in_ok-audit.ensures.told clean in
    c.accepted.ensures ∙ ap accepted_answer c.in-Ok.ensures
    ∙ ap answer_of (audit_of_books (state g.S.Store c.args.conn.now) c.in_ok-audit.audit says books rests held.values sound)

pub returns-in-Ok-clause-decided : goal.returns-in-Ok-clause-decided
returns-in-Ok-clause-decided g c = accepted_told _ _ c.accepted.ensures
