-- Who is rewarded, by the payments that are handed in.
use Rattle.std.specs.Prelude.{ℕ, ℤ, pos, ◌&&◌, Bool, List, length, filter, sum_by, nat_lt, int_le}
use Rattle.shop_model.specs.Rows.{total}
use Rattle.shop_model.specs.Calendar.{day_of}
use Rattle.shop_model.specs.Shop.{Shop}
use Rattle.shop_model.specs.Stock.{paid_within}
use Rattle.balance_rule.specs.declared.rows.Paid.{Paid}
use Rattle.balance_rule.specs.Balance.{amount_of}

-- the numbers of a first and a last day, as the program has them
abbrev pub seen_days : ℕ × ℕ → ℤ × ℤ
seen_days days = (pos days.0, pos days.1)

-- the payment is of a day from the first to the last
abbrev pub is_on : ℤ × ℤ → Paid → Bool
is_on month paid = int_le month.0 (pos (day_of paid.at)) && int_le (pos (day_of paid.at)) month.1

-- on those days there are more payments than the one number, of more cents than the other
abbrev pub passes : ℤ × ℤ → ℕ → ℕ → List Paid → Bool
passes month purchases cents payments =
    nat_lt purchases (length (filter (is_on month) payments)) && nat_lt cents (sum_by amount_of (filter (is_on month) payments))

-- the test by which `rewarded_in` of the model finds its customers
abbrev pub is_rewarded : ℕ × ℕ → Shop → ℕ → ℕ → ℕ → Bool
is_rewarded days shop purchases cents customer =
    nat_lt purchases (length (paid_within days customer shop.payments))
    && nat_lt cents (total (λ payment. payment.amount) (paid_within days customer shop.payments))
