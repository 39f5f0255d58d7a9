use Rattle.shop_types.proofs.Common.{◌∙◌, Some, ap, arith, refl, sym}
use Rattle.csv.specs.Records.{fields_of}
use Rattle.till_requests.proofs.SheetLemmas.{ends, ends_at_most, goes_on, is_found}
use Rattle.till_requests.proofs.sheet.row_among.Goals as goal

pub returns-then-not-branch-clause-row : goal.returns-then-not-branch-clause-row
returns-then-not-branch-clause-row c s rest at =
    let found = rw c.if-not-branch.true at c.in_ok-next.ensures.found in
    ends _ _ _ _ c.next.new.reader (fields_of c.next.new.fields) (c.loop-at.invariant s rest at) refl found

pub returns-then-is_row_of-clause-row : goal.returns-then-is_row_of-clause-row
returns-then-is_row_of-clause-row c s rest at =
    let found = rw c.if-not-branch.false at c.in_ok-next.ensures.found in
    is_found _ _ _ _ c.next.new.reader (fields_of c.next.new.fields) (c.loop-at.invariant s rest at) (omega arith) found _
    (λ more. rw (← c.if-is_row_of.ensures) refl)
    ∙ ap Some (sym c.in_ok-row.ensures.row)

pub loop-at-preserved : goal.loop-at-preserved
loop-at-preserved c s rest at =
    let found = rw c.if-not-branch.false at c.in_ok-next.ensures.found in
    goes_on _ _ _ _ c.next.new.reader (fields_of c.next.new.fields) (c.loop-at.invariant s rest at) (omega arith) found
    (λ more. rw (← c.if-is_row_of.ensures) refl)

pub returns-clause-row : goal.returns-clause-row
returns-clause-row c s rest at =
    ends_at_most _ _ _ refl _ (c.loop-at.invariant s rest at) (omega arith)
