use Rattle.shop_types.proofs.Common.{◌+◌, arith, drop, drop_more}
use Rattle.branch_core.proofs.ConsignmentLemmas.{any_mem, rest_of}
use Rattle.branch_core.proofs.consignments.has_double.Goals as goal

pub returns-then-has_number : goal.returns-then-has_number
returns-then-has_number c =
    let it = c.copy-item.result in
    let next = drop_more c.args.copies.now c.loop-copy.copy-index it c.loop-copy-test.true in
    let rest = rest_of c.args.copies.now c.loop-copy.later in
    let again = any_mem it (drop (c.loop-copy.copy-index + 1) c.args.copies.now) in
    grind (arith, next, rest, again)

pub loop-copy-preserved : goal.loop-copy-preserved
loop-copy-preserved c =
    let it = c.copy-item.result in
    let next = drop_more c.args.copies.now c.loop-copy.copy-index it c.loop-copy-test.true in
    let rest = rest_of c.args.copies.now c.loop-copy.later in
    let again = any_mem it (drop (c.loop-copy.copy-index + 1) c.args.copies.now) in
    grind (arith, next, rest, again)
