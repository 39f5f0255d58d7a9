-- The sums over a customer's rows are the model's sums over the shop.
use Rattle.shop_types.proofs.Common.{◌≡◌, ◌∙◌, refl, sym, ap, ℕ, ℤ, pos, ◌+◌, List, [], ◌∷◌, Bool, length, map, filter, inl, inr, ◌-ℤ◌, sum_by, and_assoc}
use Rattle.shop_types.proofs.Common.{length-map, cases_Bool, sum_by-cons, total, Moment, is_by, Rental, Terms, Payment, Rule, ByCode, ByComment, Shop, termed}
use Rattle.shop_types.proofs.Common.{fee_by, balance, paid_within}
use Rattle.std.specs.Prelude.{◌==◌, ◌&&◌, nat_lt, nat_le}
use Rattle.shop_model.specs.Calendar.{day_of}
use Rattle.balance_rule.specs.declared.rows.RentalTerms.{RentalTerms}
use Rattle.balance_rule.specs.declared.rows.Paid.{Paid}
use Rattle.balance_rule.specs.Balance.{fee_of, amount_of, fees_by, paid_by, owed_at, terms_of, paid_of, AreTermsOf, ArePaidBy}
use Rattle.balance_rule.specs.Rewards.{seen_days, is_on, passes, is_rewarded}

-- a sum of std over rows that are made is the model's sum over those that they are made of
sum_by-map : {A B : Type 0} (w : B → ℕ) (g : A → B) (xs : List A) → sum_by w (map g xs) ≡ total (λ x. w (g x)) xs
sum_by-map w g [] = refl
sum_by-map w g (x ∷ xs) = sum_by-cons w (g x) (map g xs) ∙ ap (λ n. w (g x) + n) (sum_by-map w g xs)

-- a test of the rows that are made is a test of those that they are made of
filter_made : {A B : Type 0} (p : A → Bool) (q : B → Bool) (g : A → B) (xs : List A)
    → filter q (map g (filter p xs)) ≡ map g (filter (λ x. p x && q (g x)) xs)
filter_made p q g [] = refl
filter_made p q g (x ∷ xs) = elim (cases_Bool (p x)) [
  | inl is ↦ rw is (elim (cases_Bool (q (g x))) [
    | inl too ↦ rw too (ap (λ ys. g x ∷ ys) (filter_made p q g xs))
    | inr isnt ↦ rw isnt (filter_made p q g xs)
  ])
  | inr isnt ↦ rw isnt (filter_made p q g xs)
]

-- ---- fees

-- a rental's row costs what the rental does
fee_is : (rule : Rule) (at : Moment) (it : Rental × Terms) → fee_of rule at (terms_of it) ≡ fee_by rule at it
fee_is ByCode at it = refl
fee_is ByComment at it = refl

total_same : {A : Type 0} (v w : A → ℕ) (xs : List A) → ((x : A) → v x ≡ w x) → total v xs ≡ total w xs
total_same v w [] same = refl
total_same v w (x ∷ xs) same = λ i. same x i + total_same v w xs same i

fees_are : (rule : Rule) (customer : ℕ) (at : Moment) (rentals : List (Rental × Terms))
    → fees_by rule at (map terms_of (filter (λ (it : Rental × Terms). it.0.customer == customer) rentals))
    ≡ total (fee_by rule at) (filter (λ (it : Rental × Terms). it.0.customer == customer && is_by it.0.rented at) rentals)
fees_are rule customer at rentals =
    ap (λ rows. sum_by (fee_of rule at) rows)
    (filter_made (λ (it : Rental × Terms). it.0.customer == customer) (λ (it : RentalTerms). is_by it.rented at) terms_of rentals)
    ∙ sum_by-map (fee_of rule at) terms_of (filter (λ (it : Rental × Terms). it.0.customer == customer && is_by it.0.rented at) rentals)
    ∙ total_same (λ (it : Rental × Terms). fee_of rule at (terms_of it)) (fee_by rule at)
    (filter (λ (it : Rental × Terms). it.0.customer == customer && is_by it.0.rented at) rentals) (fee_is rule at)

-- ---- payments

paid_are : (customer : ℕ) (at : Moment) (payments : List Payment)
    → paid_by at (map paid_of (filter (λ (payment : Payment). payment.customer == customer) payments))
    ≡ total (λ (payment : Payment). payment.amount) (filter (λ (payment : Payment). payment.customer == customer && is_by payment.paid at) payments)
paid_are customer at payments =
    ap (λ rows. sum_by amount_of rows) (filter_made (λ (payment : Payment). payment.customer == customer) (λ (paid : Paid). is_by paid.at at) paid_of payments)
    ∙ sum_by-map amount_of paid_of (filter (λ (payment : Payment). payment.customer == customer && is_by payment.paid at) payments)

-- what is owed by a customer's rows is the model's balance
pub owed_is : (rule : Rule) (shop : Shop) (customer : ℕ) (at : Moment) (rentals : List RentalTerms) (payments : List Paid)
    → AreTermsOf shop customer rentals → ArePaidBy shop customer payments → owed_at rule rentals payments at ≡ balance rule shop customer at
owed_is rule shop customer at rentals payments of by =
    let fees = ap (fees_by rule at) of ∙ fees_are rule customer at (termed shop) in
    let paid = ap (paid_by at) by ∙ paid_are customer at shop.payments in
    λ i. pos (fees i) -ℤ pos (paid i)

-- the payments on the days of a month
on_days : (days : ℕ × ℕ) (customer : ℕ) (payments : List Payment)
    → filter (is_on (seen_days days)) (map paid_of (filter (λ (payment : Payment). payment.customer == customer) payments))
    ≡ map paid_of (paid_within days customer payments)
on_days days customer payments =
    let low = λ (payment : Payment). nat_le days.0 (day_of payment.paid) in
    let high = λ (payment : Payment). nat_le (day_of payment.paid) days.1 in
    filter_made (λ (payment : Payment). payment.customer == customer) (is_on (seen_days days)) paid_of payments
    ∙ (λ i. map paid_of (filter (λ (payment : Payment). sym (and_assoc (payment.customer == customer) (low payment) (high payment)) i) payments))

-- and the test of the payments is the model's
pub passes_are : (shop : Shop) (customer : ℕ) (days : ℕ × ℕ) (month : ℤ × ℤ) (purchases cents : ℕ) (payments : List Paid)
    → month ≡ seen_days days → ArePaidBy shop customer payments → passes month purchases cents payments ≡ is_rewarded days shop purchases cents customer
passes_are shop customer days month purchases cents payments is by =
    let rows = (λ i. filter (is_on (is i)) (by i)) ∙ on_days days customer shop.payments in
    let count = ap length rows ∙ length-map (paid_within days customer shop.payments) paid_of in
    let sum = ap (λ (it : List Paid). sum_by amount_of it) rows ∙ sum_by-map amount_of paid_of (paid_within days customer shop.payments) in
    λ i. nat_lt purchases (count i) && nat_lt cents (sum i)
