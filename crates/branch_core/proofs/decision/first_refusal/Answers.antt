use Rattle.shop_types.proofs.Common.{refl, arith}
use Rattle.shop_types.specs.Seen.{seen_command}
use Rattle.branch_core.proofs.decision.first_refusal.Goals as goal

pub returns-then-is_full : goal.returns-then-is_full
returns-then-is_full c = λ rules catalogue shop commands copies agree.
    let full = c.is_full.ensures rules catalogue shop (seen_command c.args.command.now) refl commands copies agree in
    grind (arith, full)

pub returns-then-is_before : goal.returns-then-is_before
returns-then-is_before c = λ rules catalogue shop commands copies agree.
    let full = c.is_full.ensures rules catalogue shop (seen_command c.args.command.now) refl commands copies agree in
    grind (arith, full)

pub returns-then-not-works_at : goal.returns-then-not-works_at
returns-then-not-works_at c = λ rules catalogue shop commands copies agree.
    let full = c.is_full.ensures rules catalogue shop (seen_command c.args.command.now) refl commands copies agree in
    grind (arith, full)

pub returns-else-not-works_at : goal.returns-else-not-works_at
returns-else-not-works_at c = λ rules catalogue shop commands copies agree.
    let full = c.is_full.ensures rules catalogue shop (seen_command c.args.command.now) refl commands copies agree in
    let act = c.act_refusal.ensures.is rules catalogue shop c.args.command.now.at agree.act in
    grind (arith, full, act)
