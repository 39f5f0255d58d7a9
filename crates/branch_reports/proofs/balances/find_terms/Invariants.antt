use Rattle.std.proofs.Common.{◌≡◌, map, take}
use Rattle.shop_store.specs.declared.termed.TermedRental.{TermedRental}
use Rattle.shop_store.specs.Seen.{seen_termed}
use Rattle.balance_rule.specs.Balance.{terms_of}
use Rattle.branch_reports.proofs.balances.find_terms.Given as goal

-- the terms of the rows so far
abbrev pub invariant-loop-row : goal.invariant-loop-row
invariant-loop-row g l = l.terms.items ≡ map (λ (row : TermedRental). terms_of (seen_termed row)) (take l.row-index l.row-items)
