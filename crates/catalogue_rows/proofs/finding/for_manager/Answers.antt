use Rattle.shop_schema.proofs.Common.{◌∙◌, and_then, done}
use Rattle.sql_rows.proofs.Chaining.{one_call}
use Rattle.catalogue_rows.proofs.finding.for_manager.Goals as goal

pub returns : goal.returns
returns g c = done (and_then (one_call c.in_ok-branch_manager.ensures) (one_call c.in_ok-manager.ensures.does)) (λ said books holds held.
    let branch = said.0 books holds held in
    let staff = said.1 books branch.0 held in
    (staff.0, record { branch = c.branch_of-managed.ensures ∙ branch.1; staff = staff.1 }))
