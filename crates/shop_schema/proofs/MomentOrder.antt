-- The texts of moments are in the order of the moments.
use Rattle.shop_schema.proofs.Common.{◌≡◌, ◌∙◌, inl, inr, refl, sym, ap, arith, true, false, ℕ, ◌+◌, ◌*◌, ◌/◌, ◌%◌, ◌<◌, ◌≤◌, Ordering, Less, Equal, Greater}
use Rattle.shop_schema.proofs.Common.{is_lt, nat_lt, nat_le, MatchOrdering, nat_cmp, ordering_then, is_ge, nat_cmp_is, ranks, slice_cmp, cases_Bool, nat_tests}
use Rattle.shop_schema.proofs.Common.{Moment, IsMoment, digit, moment_text, is_by, is_earlier, then-Equal}
use Rattle.shop_model.specs.Calendar.{day_of, seconds_of}
use Rattle.shop_model.proofs.NumberLemmas.{few_days}
use Rattle.shop_schema.proofs.Days.{later_year, later_month, same_days}

-- two numbers and then two others are in the order of a third pair
lex : (x y r s u v : ℕ) → (x < y → u < v) → (y < x → v < u) → (x ≡ y → r < s → u < v) → (x ≡ y → s < r → v < u) → (x ≡ y → r ≡ s → u ≡ v)
    → ordering_then (nat_cmp x y) (nat_cmp r s) ≡ nat_cmp u v
lex x y r s u v less more then_less then_more then_same = nat_cmp_is u v _ (first (nat_cmp x y) (ranks x y))
  where
    second : x ≡ y → (o : Ordering) → MatchOrdering o (r < s) (r ≡ s) (s < r) → MatchOrdering o (u < v) (u ≡ v) (v < u)
    second e Less h = then_less e h
    second e Equal h = then_same e h
    second e Greater h = then_more e h

    first : (o : Ordering) → MatchOrdering o (x < y) (x ≡ y) (y < x) → MatchOrdering (ordering_then o (nat_cmp r s)) (u < v) (u ≡ v) (v < u)
    first Less h = less h
    first Equal e = second e (nat_cmp r s) (ranks r s)
    first Greater h = more h

grouped : (a b c : Ordering) → ordering_then a (ordering_then b c) ≡ ordering_then (ordering_then a b) c
grouped Less b c = refl
grouped Equal b c = refl
grouped Greater b c = refl

-- ---- digits

abbrev by_digit : ℕ → ℕ → Ordering
by_digit m n = nat_cmp (digit m) (digit n)

two_digits : (m n : ℕ) → m < 100 → n < 100 → (o : Ordering)
    → ordering_then (by_digit (m / 10) (n / 10)) (ordering_then (by_digit m n) o) ≡ ordering_then (nat_cmp m n) o
two_digits m n p q o =
    grouped (by_digit (m / 10) (n / 10)) (by_digit m n) o
    ∙ ap (λ c. ordering_then c o)
    (lex (digit (m / 10)) (digit (n / 10)) (digit m) (digit n) m n (λ h. omega (arith, p, q, h)) (λ h. omega (arith, p, q, h))
    (λ e h. omega (arith, p, q, e, h)) (λ e h. omega (arith, p, q, e, h)) (λ e h. omega (arith, p, q, e, h)))

four_digits : (m n : ℕ) → m < 10_000 → n < 10_000 → (o : Ordering)
    → ordering_then (by_digit (m / 1000) (n / 1000))
    (ordering_then (by_digit (m / 100) (n / 100)) (ordering_then (by_digit (m / 10) (n / 10)) (ordering_then (by_digit m n) o)))
    ≡ ordering_then (nat_cmp m n) o
four_digits m n p q o =
    let hundreds : ordering_then (by_digit (m / 1000) (n / 1000)) (by_digit (m / 100) (n / 100)) ≡ nat_cmp (m / 100) (n / 100) =
    lex (digit (m / 1000)) (digit (n / 1000)) (digit (m / 100)) (digit (n / 100)) (m / 100) (n / 100) (λ h. omega (arith, p, q, h))
    (λ h. omega (arith, p, q, h)) (λ e h. omega (arith, p, q, e, h)) (λ e h. omega (arith, p, q, e, h)) (λ e h. omega (arith, p, q, e, h)) in
    let rest : ordering_then (by_digit (m / 10) (n / 10)) (by_digit m n) ≡ nat_cmp (m % 100) (n % 100) =
    lex (digit (m / 10)) (digit (n / 10)) (digit m) (digit n) (m % 100) (n % 100) (λ h. omega (arith, h))
    (λ h. omega (arith, h)) (λ e h. omega (arith, e, h)) (λ e h. omega (arith, e, h)) (λ e h. omega (arith, e, h)) in
    let both : ordering_then (nat_cmp (m / 100) (n / 100)) (nat_cmp (m % 100) (n % 100)) ≡ nat_cmp m n =
    lex (m / 100) (n / 100) (m % 100) (n % 100) m n (λ h. omega (arith, h)) (λ h. omega (arith, h))
    (λ e h. omega (arith, e, h)) (λ e h. omega (arith, e, h)) (λ e h. omega (arith, e, h)) in
    grouped (by_digit (m / 1000) (n / 1000)) (by_digit (m / 100) (n / 100)) _
    ∙ (λ i. ordering_then (hundreds i) (grouped (by_digit (m / 10) (n / 10)) (by_digit m n) o i))
    ∙ ap (λ c. ordering_then (nat_cmp (m / 100) (n / 100)) (ordering_then c o)) rest
    ∙ grouped (nat_cmp (m / 100) (n / 100)) (nat_cmp (m % 100) (n % 100)) o
    ∙ ap (λ c. ordering_then c o) both

-- ---- moments

abbrev time_of : Moment → ℕ
time_of m = m.hour * 3600 + (m.minute * 60 + m.second)

-- no month has 32 days
abbrev by_month : Moment → ℕ
by_month m = m.month * 32 + m.day

abbrev clock : Moment → Moment → Ordering
clock a b = ordering_then (nat_cmp a.hour b.hour) (ordering_then (nat_cmp a.minute b.minute) (nat_cmp a.second b.second))

module _ (a b : Moment) (is : IsMoment a) (its : IsMoment b) where
  -- part by part
  parts_order : slice_cmp nat_cmp (moment_text a) (moment_text b)
      ≡ ordering_then (nat_cmp a.year b.year) (ordering_then (nat_cmp a.month b.month) (ordering_then (nat_cmp a.day b.day) (clock a b)))
  parts_order =
      let few = few_days a.year a.month in
      let fews = few_days b.year b.month in
      four_digits a.year b.year (omega (arith, is.year_high)) (omega (arith, its.year_high)) _
      ∙ ap (ordering_then (nat_cmp a.year b.year))
      (two_digits a.month b.month (omega (arith, is.month_high)) (omega (arith, its.month_high)) _
      ∙ ap (ordering_then (nat_cmp a.month b.month))
      (two_digits a.day b.day (omega (arith, is.day_high, few)) (omega (arith, its.day_high, fews)) _
      ∙ ap (ordering_then (nat_cmp a.day b.day))
      (two_digits a.hour b.hour (omega (arith, is.hour)) (omega (arith, its.hour)) _
      ∙ ap (ordering_then (nat_cmp a.hour b.hour))
      (two_digits a.minute b.minute (omega (arith, is.minute)) (omega (arith, its.minute)) _
      ∙ ap (ordering_then (nat_cmp a.minute b.minute))
      (two_digits a.second b.second (omega (arith, is.second)) (omega (arith, its.second)) Equal ∙ then-Equal (nat_cmp a.second b.second))))))

  clock_order : clock a b ≡ nat_cmp (time_of a) (time_of b)
  clock_order =
      let low : ordering_then (nat_cmp a.minute b.minute) (nat_cmp a.second b.second) ≡ nat_cmp (a.minute * 60 + a.second) (b.minute * 60 + b.second) =
      lex a.minute b.minute a.second b.second (a.minute * 60 + a.second) (b.minute * 60 + b.second)
      (λ h. omega (arith, is.second, its.second, h)) (λ h. omega (arith, is.second, its.second, h))
      (λ e h. omega (arith, e, h)) (λ e h. omega (arith, e, h)) (λ e h. omega (arith, e, h)) in
      ap (ordering_then (nat_cmp a.hour b.hour)) low
      ∙ lex a.hour b.hour (a.minute * 60 + a.second) (b.minute * 60 + b.second) (time_of a) (time_of b)
      (λ h. omega (arith, is.minute, is.second, its.minute, its.second, h)) (λ h. omega (arith, is.minute, is.second, its.minute, its.second, h))
      (λ e h. omega (arith, e, h)) (λ e h. omega (arith, e, h)) (λ e h. omega (arith, e, h))

  month_order : ordering_then (nat_cmp a.month b.month) (nat_cmp a.day b.day) ≡ nat_cmp (by_month a) (by_month b)
  month_order =
      let few = few_days a.year a.month in
      let fews = few_days b.year b.month in
      lex a.month b.month a.day b.day (by_month a) (by_month b) (λ h. omega (arith, is.day_high, its.day_high, few, fews, h))
      (λ h. omega (arith, is.day_high, its.day_high, few, fews, h))
      (λ e h. omega (arith, e, h)) (λ e h. omega (arith, e, h)) (λ e h. omega (arith, e, h))

within_year : (a b : Moment) → IsMoment a → IsMoment b → a.year ≡ b.year → by_month a < by_month b → day_of a < day_of b
within_year a b is its year h = elim (cases_Bool (nat_lt a.month b.month)) [
  | inl earlier ↦ later_month a b is its year (less_if a.month b.month earlier)
  | inr later ↦
      let most = least_if a.month b.month later in
      let few = few_days a.year a.month in
      let fews = few_days b.year b.month in
      let same : a.month ≡ b.month = omega (arith, h, most, is.day_high, its.day_high, is.day_low, its.day_low, few, fews) in
      let days = same_days a b year same in
      omega (arith, h, same, days, is.day_low, its.day_low)
]
  where
    less_if : (m n : ℕ) → nat_lt m n ≡ true → m < n
    less_if m n e = grind (arith, nat_tests)

    least_if : (m n : ℕ) → nat_lt m n ≡ false → n ≤ m
    least_if m n e = grind (arith, nat_tests)

date_order : (a b : Moment) → IsMoment a → IsMoment b
    → ordering_then (nat_cmp a.year b.year) (nat_cmp (by_month a) (by_month b)) ≡ nat_cmp (day_of a) (day_of b)
date_order a b is its =
    lex a.year b.year (by_month a) (by_month b) (day_of a) (day_of b) (later_year a b is its)
    (later_year b a its is) (within_year a b is its) (λ e h. within_year b a its is (sym e) h)
    (λ e h.
    let few = few_days a.year a.month in
    let fews = few_days b.year b.month in
    let same : a.month ≡ b.month = omega (arith, h, is.day_high, its.day_high, is.day_low, its.day_low, few, fews) in
    let days = same_days a b e same in
    omega (arith, h, same, days, is.day_low, its.day_low))

seconds_order : (a b : Moment) → IsMoment a → IsMoment b
    → ordering_then (nat_cmp (day_of a) (day_of b)) (nat_cmp (time_of a) (time_of b)) ≡ nat_cmp (seconds_of a) (seconds_of b)
unfolding seconds_of
seconds_order a b is its =
    lex (day_of a) (day_of b) (time_of a) (time_of b) (seconds_of a) (seconds_of b)
    (λ h. omega (arith, is.hour, is.minute, is.second, its.hour, its.minute, its.second, h))
    (λ h. omega (arith, is.hour, is.minute, is.second, its.hour, its.minute, its.second, h))
    (λ e h. omega (arith, e, h)) (λ e h. omega (arith, e, h)) (λ e h. omega (arith, e, h))

text_order : (a b : Moment) → IsMoment a → IsMoment b → slice_cmp nat_cmp (moment_text a) (moment_text b) ≡ nat_cmp (seconds_of a) (seconds_of b)
text_order a b is its =
    parts_order a b is its
    ∙ ap (ordering_then (nat_cmp a.year b.year)) (grouped (nat_cmp a.month b.month) (nat_cmp a.day b.day) (clock a b))
    ∙ (λ i. ordering_then (nat_cmp a.year b.year) (ordering_then (month_order a b is its i) (clock_order a b is its i)))
    ∙ grouped (nat_cmp a.year b.year) (nat_cmp (by_month a) (by_month b)) (nat_cmp (time_of a) (time_of b))
    ∙ ap (λ c. ordering_then c (nat_cmp (time_of a) (time_of b))) (date_order a b is its)
    ∙ seconds_order a b is its

-- a text is before another where its moment is, and from another on where its moment is
pub earlier_text : (a b : Moment) → IsMoment a → IsMoment b → is_lt (slice_cmp nat_cmp (moment_text a) (moment_text b)) ≡ is_earlier a b
earlier_text a b is its = ap is_lt (text_order a b is its) ∙ same (seconds_of a) (seconds_of b)
  where
    same : (m n : ℕ) → is_lt (nat_cmp m n) ≡ nat_lt m n
    same m n = grind (arith, nat_tests)

pub later_text : (a b : Moment) → IsMoment a → IsMoment b → is_ge (slice_cmp nat_cmp (moment_text a) (moment_text b)) ≡ is_by b a
later_text a b is its = ap is_ge (text_order a b is its) ∙ same (seconds_of a) (seconds_of b)
  where
    same : (m n : ℕ) → is_ge (nat_cmp m n) ≡ nat_le n m
    same m n = grind (arith, nat_tests)
