use Rattle.catalogue_core.proofs.ActLemmas.{withdraw_open}
use Rattle.catalogue_core.proofs.acts.withdraw_refusal.Goals as goal

pub returns-in-Some-false : goal.returns-in-Some-false
returns-in-Some-false c = λ catalogue f is.
    let found = rw c.in-Some-false.is at is in
    let no = c.in-Some-false.field-0-test in
    withdraw_open catalogue f (rw no at found)
