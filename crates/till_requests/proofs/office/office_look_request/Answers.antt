use Rattle.till_requests.proofs.WordLemmas.{handed_on}
use Rattle.till_requests.proofs.office.office_look_request.Goals as goal

pub returns-in_err-ask-clause-fault : goal.returns-in_err-ask-clause-fault
returns-in_err-ask-clause-fault c =
    handed_on c.from_residual-in_err-ask.result c.in_err-ask.field-0.0 _ c.from_residual-in_err-ask.ensures.1 (c.in_err-ask.ensures.fault _)
