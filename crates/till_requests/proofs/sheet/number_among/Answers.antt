use Rattle.shop_types.proofs.Common.{◌∙◌, ap, arith, refl, sym}
use Rattle.csv.specs.Records.{fields_of}
use Rattle.shop_types.specs.Numbers.{row_number_of}
use Rattle.till_requests.proofs.SheetLemmas.{ends, ends_at_most, goes_on, is_found}
use Rattle.till_requests.proofs.sheet.number_among.Goals as goal

pub returns-then-not-branch-clause-number : goal.returns-then-not-branch-clause-number
returns-then-not-branch-clause-number g c s rest at =
    let found = rw c.if-not-branch.true at c.in_ok-next.ensures.found in
    ends _ _ _ _ c.next.new.reader (fields_of c.next.new.fields) (c.loop-at.invariant s rest at) refl found

pub returns-then-branch-clause-number : goal.returns-then-branch-clause-number
returns-then-branch-clause-number g c s rest at =
    let found = rw c.if-not-branch.false at c.in_ok-next.ensures.found in
    let named = rw c.if-branch.true at c.in_ok-is_named.ensures.is in
    is_found _ _ _ _ c.next.new.reader (fields_of c.next.new.fields) (c.loop-at.invariant s rest at) (omega arith) found _ (λ more. rw (← named) refl)
    ∙ sym (c.read.ensures ∙ ap row_number_of c.text_at.ensures)

pub loop-at-preserved : goal.loop-at-preserved
loop-at-preserved g c s rest at =
    let found = rw c.if-not-branch.false at c.in_ok-next.ensures.found in
    let other = rw c.if-branch.false at c.in_ok-is_named.ensures.is in
    goes_on _ _ _ _ c.next.new.reader (fields_of c.next.new.fields) (c.loop-at.invariant s rest at) (omega arith) found (λ more. rw (← other) refl)

pub returns-clause-number : goal.returns-clause-number
returns-clause-number g c s rest at =
    ends_at_most _ _ _ refl _ (c.loop-at.invariant s rest at) (omega arith)
