use Rattle.till_requests.proofs.WordLemmas.{handed_on}
use Rattle.till_requests.proofs.office.office_request.Goals as goal

pub returns-in_err-command-clause-fault : goal.returns-in_err-command-clause-fault
returns-in_err-command-clause-fault c =
    handed_on c.from_residual-in_err-command.result c.in_err-command.field-0.0 _ c.from_residual-in_err-command.ensures.1 (c.in_err-command.ensures.fault _)
