use Rattle.shop_schema.proofs.Common.{◌∙◌, and_then, done}
use Rattle.sql_rows.proofs.Chaining.{one_call}
use Rattle.catalogue_rows.proofs.finding.for_staff.Goals as goal

pub returns : goal.returns
returns g c = done (and_then (one_call c.in_ok-branch_manager.ensures) (one_call c.in_ok-has_city.ensures)) (λ said books holds held.
    let branch = said.0 books holds held in
    let city = said.1 books branch.0 held in
    (city.0, record { branch = c.branch_of-branch.ensures ∙ branch.1; city = city.1 }))
