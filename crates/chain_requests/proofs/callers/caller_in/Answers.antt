use Rattle.shop_schema.proofs.Common.{⊤, Err, ◌∙◌, refl, sym}
use Rattle.sql_rows.proofs.Chaining.{one_call, first_done, done_inside}
use Rattle.sql_rows.proofs.CallFaults.{fails_behind}
use Rattle.sql_rows.proofs.Stays.{within_of}
use Rattle.shop_schema.specs.Asked.{HoldsBooks}
use Rattle.chain_requests.proofs.Wells.{passed_on, finds_stay}
use Rattle.chain_requests.proofs.callers.caller_in.Goals as goal

pub returns-then-branch-clause-does : goal.returns-then-branch-clause-does
returns-then-branch-clause-does g c = done_inside c.in_ok-is_office.ensures.does (λ said books holds held.
    let found = said books holds held in
    (found.0, rw (sym found.1 ∙ c.if-branch.true) refl))

pub returns-in-Some-clause-does : goal.returns-in-Some-clause-does
returns-in-Some-clause-does g c = first_done c.in_ok-is_office.ensures.does (one_call c.in_ok-branch.ensures.does) (λ said tells books holds held.
    let found = said books holds held in
    let branch = tells books found.0 held in
    (branch.0, rw (sym found.1 ∙ c.if-branch.false) (rw c.in-Some.is at branch.1)))

pub returns-in-None-clause-does : goal.returns-in-None-clause-does
returns-in-None-clause-does g c = first_done c.in_ok-is_office.ensures.does (one_call c.in_ok-branch.ensures.does) (λ said tells books holds held.
    let found = said books holds held in
    let branch = tells books found.0 held in
    (branch.0, rw (sym found.1 ∙ c.if-branch.false) (rw c.in-None.is at branch.1)))

pub returns-in_err-is_office-clause-fails : goal.returns-in_err-is_office-clause-fails
returns-in_err-is_office-clause-fails g c clean ready books =
    passed_on c.from_residual.result c.in_err-is_office.field-0.0 (c.in_err-is_office.ensures.fails clean ready books) c.from_residual.ensures.1

pub returns-in_err-branch-clause-fails : goal.returns-in_err-branch-clause-fails
returns-in_err-branch-clause-fails g c clean ready books =
    passed_on c.from_residual-in_err-branch.result c.in_err-branch.field-0.0
    (fails_behind {Y = ⊤} c.branch_with.new.tx.conn (Err c.in_err-branch.field-0.0) HoldsBooks HoldsBooks (within_of c.in_ok-is_office.ensures.does.inside)
    (λ clean. finds_stay _ _ (c.in_ok-is_office.ensures.does.says clean)) c.in_err-branch.ensures.does.inside.survives c.in_err-branch.ensures.fails
    clean ready books)
    c.from_residual-in_err-branch.ensures.1
