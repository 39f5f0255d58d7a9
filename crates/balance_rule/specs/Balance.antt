-- Defines what is owed for the given rows, and which rows are a customer's.
use Rattle.std.specs.Prelude.{◌≡◌, ℕ, ℤ, pos, ◌+◌, ◌*◌, ◌-ℤ◌, ◌==◌, nat_lt, if◌then◌else◌, Some, List, map, filter, sum_by}
use Rattle.shop_model.specs.Calendar.{Moment, is_by}
use Rattle.shop_model.specs.Values.{Rental, Terms, Payment, Rule, ByCode, ByComment}
use Rattle.shop_model.specs.Shop.{Shop}
use Rattle.shop_model.specs.Stock.{termed, late_days, end_at}
use Rattle.balance_rule.specs.declared.rows.RentalTerms.{RentalTerms}
use Rattle.balance_rule.specs.declared.rows.Paid.{Paid}

-- ---- the sums

-- by the code: the rate, and 100 cents for each late day
abbrev pub code_fee_of : RentalTerms → ℕ
code_fee_of terms = terms.rate + 100 * late_days terms.rented terms.returned terms.period

-- the days past the period at a moment
abbrev pub days_past_of : Moment → RentalTerms → ℕ
days_past_of at terms = late_days terms.rented (Some (end_at at terms.returned)) terms.period

-- by the comment: the rate, 100 cents for each day past, and the replacement cost once if the days past are more than twice the period
abbrev pub comment_fee_of : Moment → RentalTerms → ℕ
comment_fee_of at terms = terms.rate + 100 * days_past_of at terms + (if nat_lt (2 * terms.period) (days_past_of at terms) then terms.replacement else 0)

abbrev pub fee_of : Rule → Moment → RentalTerms → ℕ
fee_of ByCode at terms = code_fee_of terms
fee_of ByComment at terms = comment_fee_of at terms

abbrev pub amount_of : Paid → ℕ
amount_of paid = paid.amount

-- what the rentals up to that moment cost
abbrev pub fees_by : Rule → Moment → List RentalTerms → ℕ
fees_by rule at rentals = sum_by (fee_of rule at) (filter (λ terms. is_by terms.rented at) rentals)

-- what the payments up to that moment are of
abbrev pub paid_by : Moment → List Paid → ℕ
paid_by at payments = sum_by amount_of (filter (λ paid. is_by paid.at at) payments)

abbrev pub owed_at : Rule → List RentalTerms → List Paid → Moment → ℤ
owed_at rule rentals payments at = pos (fees_by rule at rentals) -ℤ pos (paid_by at payments)

-- ---- the rows of a customer

abbrev pub terms_of : Rental × Terms → RentalTerms
terms_of it = record { rented = it.0.rented; returned = it.0.returned; rate = it.1.rate; period = it.1.period; replacement = it.1.replacement }

-- the rows are the customer's rentals in that shop, in their order, each with its terms
abbrev pub AreTermsOf : Shop → ℕ → List RentalTerms → Type 0
AreTermsOf shop customer rows = rows ≡ map terms_of (filter (λ (it : Rental × Terms). it.0.customer == customer) (termed shop))

abbrev pub paid_of : Payment → Paid
paid_of payment = record { amount = payment.amount; at = payment.paid }

-- the rows are the customer's payments in that shop, in their order
abbrev pub ArePaidBy : Shop → ℕ → List Paid → Type 0
ArePaidBy shop customer rows = rows ≡ map paid_of (filter (λ payment. payment.customer == customer) shop.payments)
