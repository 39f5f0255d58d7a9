use Rattle.shop_types.proofs.Common.{arith, drop_more, nat_tests}
use Rattle.branch_core.proofs.ConsignmentLemmas.{lacks_by}
use Rattle.branch_core.proofs.consignments.has_unknown_copy.Goals as goal

pub returns-then-count-get : goal.returns-then-count-get
returns-then-count-get c = λ shop is.
    let so_far = c.loop-copy.invariant shop is in
    let rest = drop_more c.args.copies.now c.loop-copy.copy-index c.copy-item.result c.loop-copy-test.true in
    let lacks = lacks_by c.copy-item.result shop.copies (omega (arith, c.get.ensures.value, c.get.ensures.bound)) in
    grind (arith, nat_tests, so_far, rest, lacks)

pub loop-copy-preserved : goal.loop-copy-preserved
loop-copy-preserved c = λ shop is.
    let so_far = c.loop-copy.invariant shop is in
    let rest = drop_more c.args.copies.now c.loop-copy.copy-index c.copy-item.result c.loop-copy-test.true in
    let lacks = lacks_by c.copy-item.result shop.copies (omega (arith, c.get.ensures.value, c.get.ensures.bound)) in
    grind (arith, nat_tests, so_far, rest, lacks)
