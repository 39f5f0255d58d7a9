use Rattle.books_audit.proofs.ActLemmas.{is_act_form}
use Rattle.books_audit.proofs.acts.is_act.Goals as goal

pub returns : goal.returns
returns c =
    let it = is_act_form c.args.bytes.now in
    let one = c.is_one_of.ensures in
    (λ h. it.0 (one.0 h), λ f. one.1 (it.1 f))
