use Rattle.shop_types.proofs.Common.{◌∙◌, sym, arith}
use Rattle.branch_core.proofs.ConsignmentLemmas.{all_counted}
use Rattle.branch_core.proofs.consignments.coming.Goals as goal

pub overflow_sub-result : goal.overflow_sub-result
overflow_sub-result c =
    let count = all_counted c.args.missing.now c.as_slice-lines.result.now (sym c.are_lines.ensures ∙ c.if-are_lines.true) in omega (arith, count)
