-- Defines what is found of payments, and of the customers who are rewarded for the payments.
use Rattle.std.specs.Prelude.{◌≡◌, ◌≤◌, ℕ, ◌+◌, ◌*◌, zero, suc, ℤ, [], ◌∷◌, ◌++◌, ◌==◌, Bool, List, length, sum_by, map, filter, Option, Some, None}
use Rattle.std.specs.Option.{IfSome}
use Rattle.std.specs.Ordering.{nat_cmp}
use Rattle.std.specs.BTreeMap.{BTreeMap, get}
use Rattle.shop_model.specs.Values.{Payment}
use Rattle.shop_types.specs.Seen.{seen_payment}
use Rattle.shop_store.specs.declared.payments.PaymentRow.{PaymentRow}
use Rattle.balance_rule.specs.declared.rows.Paid.{Paid}
use Rattle.balance_rule.specs.Balance.{amount_of, paid_of}
use Rattle.balance_rule.specs.Rewards.{is_on, passes}
use Rattle.branch_reports.specs.declared.rewards.PaidSum.{PaidSum}

-- the numbers from 1 to n
abbrev pub numbers_to : ℕ → List ℕ
numbers_to zero = []
numbers_to (suc n) = numbers_to n ++ suc n ∷ []

-- the payments of rows
abbrev pub payments_of : List PaymentRow → List Payment
payments_of rows = map (λ row. seen_payment row.payment) rows

-- the payment is of a day of the month
abbrev pub is_paid_in : ℤ × ℤ → Payment → Bool
is_paid_in month payment = is_on month (paid_of payment)

-- the customer's payments pass both thresholds in the month
abbrev pub passes_for : ℤ × ℤ → ℕ → ℕ → List Payment → ℕ → Bool
passes_for month purchases cents payments c = passes month purchases cents (map paid_of (filter (λ (it : Payment). it.customer == c) payments))

-- the customer's payments in the month
abbrev pub paid_in : ℤ × ℤ → ℕ → List Payment → List Paid
paid_in month c payments = filter (is_on month) (map paid_of (filter (λ (it : Payment). it.customer == c) payments))

-- the sum, or zero if the customer paid nothing
abbrev pub sum_or_none : Option PaidSum → PaidSum
sum_or_none None = record { purchases = 0; cents = 0 }
sum_or_none (Some sum) = sum

-- the sum with one payment more
abbrev pub one_paid : ℕ → Option PaidSum → PaidSum
one_paid amount sum = record { purchases = (sum_or_none sum).purchases + 1; cents = (sum_or_none sum).cents + amount }

-- each customer's sum is of the customer's payments in the month
abbrev pub AreSummed : ℤ × ℤ → BTreeMap ℕ PaidSum → List Payment → Type 0
AreSummed month sums payments =
    (c : ℕ) → sum_or_none (get nat_cmp sums c) ≡ record { purchases = length (paid_in month c payments); cents = sum_by amount_of (paid_in month c payments) }

-- no sum is of more than so many payments, each of at most 999.99
abbrev pub AreSmall : ℕ → BTreeMap ℕ PaidSum → Type 0
AreSmall n sums = (c : ℕ) → IfSome (get nat_cmp sums c) (λ sum. (sum.purchases ≤ n) × (sum.cents ≤ 99999 * n))

-- the customers among the first n whose payments pass both thresholds in the month
abbrev pub rewarded_numbers : ℤ × ℤ → ℕ → ℕ → ℕ → List Payment → List ℕ
rewarded_numbers month purchases cents n payments = filter (passes_for month purchases cents payments) (numbers_to n)
