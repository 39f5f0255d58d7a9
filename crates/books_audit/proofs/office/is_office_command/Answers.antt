use Rattle.books_audit.proofs.OfficeLemmas.{is_office_form}
use Rattle.books_audit.proofs.office.is_office_command.Goals as goal

pub returns : goal.returns
returns c =
    let it = is_office_form c.args.bytes.now in
    let one = c.is_one_of.ensures in
    (λ h. it.0 (one.0 h), λ f. one.1 (it.1 f))
