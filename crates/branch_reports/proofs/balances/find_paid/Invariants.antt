use Rattle.shop_schema.proofs.Common.{◌≡◌, map, take, seen_payment}
use Rattle.shop_store.specs.declared.payments.PaymentRow.{PaymentRow}
use Rattle.balance_rule.specs.Balance.{paid_of}
use Rattle.branch_reports.proofs.balances.find_paid.Given as goal

-- the payments of the rows so far
abbrev pub invariant-loop-row : goal.invariant-loop-row
invariant-loop-row g l = l.payments.items ≡ map (λ (row : PaymentRow). paid_of (seen_payment row.payment)) (take l.row-index l.row-items)
