use Rattle.std.proofs.Common.{inl}
use Rattle.till_cashier.proofs.Showing.{both_ok}
use Rattle.till_cashier.proofs.office.read_office.Goals as goal

pub returns-in-Err : goal.returns-in-Err
returns-in-Err g c =
    both_ok c.unsaid.result _ _ _ c.unsaid.ensures.status (c.unsaid.ensures.none _ c.in-Err.ensures.fault) (λ said two none. inl (two, none))
