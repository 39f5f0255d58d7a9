use Rattle.catalogue_core.proofs.ActLemmas.{leave_open}
use Rattle.catalogue_core.proofs.acts.leave_refusal.Goals as goal

pub returns-else-staff : goal.returns-else-staff
returns-else-staff c = λ catalogue s is.
    let staff = c.in-Some.staff in
    let found = rw c.in-Some.is at is in
    leave_open catalogue s (staff.branch, staff.gone) found c.if-staff.false
