use Rattle.shop_types.proofs.Common.{◌≡◌, ◌∙◌, Err, true, ap, arith, rules, is_ok}
use Rattle.csv.specs.Records.{fields_of}
use Rattle.stock_csv.proofs.RowLemmas.{ends_first, ends_later, goes_on, is_bad, is_over, is_past}
use Rattle.stock_csv.proofs.read_rows.Goals as goal

pub returns-then-line-eq2-clause-fault : goal.returns-then-line-eq2-clause-fault
returns-then-line-eq2-clause-fault c s rest at =
    let found = rw c.if-not-branch.true at c.in_ok-next.ensures.found in
    ends_first _ _ _ _ _ c.next.new.reader (fields_of c.next.new.fields) (c.loop-line.invariant.going s rest at) c.if-line-eq2.true found

pub returns-else-line-eq2-clause-rows : goal.returns-else-line-eq2-clause-rows
returns-else-line-eq2-clause-rows c s rest at =
    let found = rw c.if-not-branch.true at c.in_ok-next.ensures.found in
    ends_later _ _ _ _ _ c.next.new.reader (fields_of c.next.new.fields) (c.loop-line.invariant.going s rest at) c.if-line-eq2.false found

pub returns-in_default-clause-fault : goal.returns-in_default-clause-fault
returns-in_default-clause-fault c s rest at =
    let found = rw c.if-not-branch.false at c.in_ok-next.ensures.found in
    is_bad _ _ _ _ _ c.next.new.reader (fields_of c.next.new.fields) (c.loop-line.invariant.going s rest at) (omega arith) found c.in_default.ensures

pub returns-then-total-copies-gt1000-clause-fault : goal.returns-then-total-copies-gt1000-clause-fault
returns-then-total-copies-gt1000-clause-fault c s rest at =
    let found = rw c.if-not-branch.false at c.in_ok-next.ensures.found in
    is_over _ _ _ _ _ c.next.new.reader (fields_of c.next.new.fields) (c.loop-line.invariant.going s rest at) (omega arith) found
    c.in-Some.row c.from-copies.result c.from-copies.ensures c.in-Some.ensures c.if-total-copies-gt1000.true

pub loop-line-preserved : goal.loop-line-preserved
loop-line-preserved c =
    let found = rw c.if-not-branch.false at c.in_ok-next.ensures.found in
    let good : is_ok c.push.result ≡ true = search rules in
    let items = rw good at c.push.ensures.items in
    record {
      going =
          λ s rest at. rw items (goes_on _ _ _ _ _ c.next.new.reader (fields_of c.next.new.fields) (c.loop-line.invariant.going s rest at) (omega arith) found
          c.in-Some.row c.from-copies.result c.from-copies.ensures c.in-Some.ensures (omega arith) (omega arith));
      few = omega arith;
    }

pub returns-then-branch-clause-fault : goal.returns-then-branch-clause-fault
returns-then-branch-clause-fault c s rest at =
    let found = rw c.if-branch.true at c.in_ok-next-2.ensures.found in
    let last : c.loop-line.line ≡ 502 = omega arith in
    is_past _ _ _ _ _ c.next-2.new.reader (fields_of c.next-2.new.fields) (c.loop-line.invariant.going s rest at) (omega arith) found (omega arith)
    ∙ ap Err last

pub returns-else-branch-clause-rows : goal.returns-else-branch-clause-rows
returns-else-branch-clause-rows c s rest at =
    let found = rw c.if-branch.false at c.in_ok-next-2.ensures.found in
    ends_later _ _ _ _ _ c.next-2.new.reader (fields_of c.next-2.new.fields) (c.loop-line.invariant.going s rest at) (omega arith) found
