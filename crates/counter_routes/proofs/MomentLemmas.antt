-- The reading of a moment, as a function of its text.
use Rattle.shop_types.proofs.Common.{◌≡◌, ◌∙◌, ℕ, ◌<◌, ◌/◌, ◌%◌, List, [], ◌∷◌, true, ◌&&◌, cond, refl, sym, ap, subst, arith, Option, Some, None, and_parts}
use Rattle.shop_types.proofs.Common.{nat_tests, leb-true, false_from_ne_true, cond-false, bytes_eq-Decides, digit_value_digit, IfNone, digit_value, bytes_eq}
use Rattle.shop_types.proofs.Common.{digits_value, Moment, IsMoment, moment_text, digit}
use Rattle.std.specs.Prelude.{IfSome}
use Rattle.shop_model.proofs.NumberLemmas.{few_days}
use Rattle.counter_routes.specs.Moments.{moment_parts, is_moment, moment_of}

digit_value-digit : (n : ℕ) → digit_value (digit n) ≡ n % 10
digit_value-digit n = let e = digit_value_digit (digit n) (omega arith, omega arith) in omega (arith, e)

two_digits : (n : ℕ) → n < 100 → digits_value 10 (digit (n / 10) ∷ digit n ∷ []) ≡ n
two_digits n h = rw (digit_value-digit (n / 10), digit_value-digit n) (omega arith)

four_digits : (n : ℕ) → n < 10000 → digits_value 10 (digit (n / 1000) ∷ digit (n / 100) ∷ digit (n / 10) ∷ digit n ∷ []) ≡ n
four_digits n h = rw (digit_value-digit (n / 1000), digit_value-digit (n / 100), digit_value-digit (n / 10), digit_value-digit n) (omega arith)

parts_of_text : (m : Moment) → IsMoment m → moment_parts (moment_text m) ≡ m
parts_of_text m h =
    let year = four_digits m.year (omega (arith, h.year_high)) in
    let month = two_digits m.month (omega (arith, h.month_high)) in
    let day = two_digits m.day (omega (arith, h.day_high, few_days m.year m.month)) in
    let hour = two_digits m.hour (omega (arith, h.hour)) in
    let minute = two_digits m.minute (omega (arith, h.minute)) in
    let second = two_digits m.second (omega (arith, h.second)) in
    λ i. record { year = year i; month = month i; day = day i; hour = hour i; minute = minute i; second = second i }

is_moment-true : (m : Moment) → IsMoment m → is_moment m ≡ true
is_moment-true m h = grind (arith, nat_tests)

is_moment-is : (m : Moment) → is_moment m ≡ true → IsMoment m
is_moment-is m e =
    let second = and_parts _ _ e in
    let minute = and_parts _ _ second.0 in
    let hour = and_parts _ _ minute.0 in
    let day_high = and_parts _ _ hour.0 in
    let day_low = and_parts _ _ day_high.0 in
    let month_high = and_parts _ _ day_low.0 in
    let month_low = and_parts _ _ month_high.0 in
    let year = and_parts _ _ month_low.0 in
    record {
      year_low = leb-true _ _ year.0;
      year_high = leb-true _ _ year.1;
      month_low = leb-true _ _ month_low.1;
      month_high = leb-true _ _ month_high.1;
      day_low = leb-true _ _ day_low.1;
      day_high = leb-true _ _ day_high.1;
      hour = leb-true _ _ hour.1;
      minute = leb-true _ _ minute.1;
      second = leb-true _ _ second.1;
    }

-- the moment, if its text is that text
abbrev if_text : Moment → List ℕ → Option Moment
if_text m text = cond (is_moment m && bytes_eq (moment_text m) text) (Some m) None

if_text-own : (m : Moment) (text : List ℕ) → IsMoment m → moment_text m ≡ text → Some m ≡ if_text m text
if_text-own m text h e =
    let same = (bytes_eq-Decides (moment_text m) text).1 e in
    rw (is_moment-true m h, same) refl

pub read_is : (r : Option Moment) (text : List ℕ) → IfSome r (λ m. IsMoment m × (moment_text m ≡ text))
    → IfNone r ((m : Moment) → IsMoment m → ¬ (moment_text m ≡ text)) → r ≡ moment_of text
unfolding moment_of
read_is (Some m) text s n =
    let parts : moment_parts text ≡ m = ap moment_parts (sym s.1) ∙ parts_of_text m s.0 in
    let P : Moment → Type 0 = λ x. Some m ≡ if_text x text in
    subst P (sym parts) (if_text-own m text s.0 s.1)
read_is None text s n =
    let no = false_from_ne_true (is_moment (moment_parts text) && bytes_eq (moment_text (moment_parts text)) text) (λ t.
    let both = and_parts _ _ t in
    n (moment_parts text) (is_moment-is (moment_parts text) both.0) ((bytes_eq-Decides _ _).0 both.1)) in
    sym (cond-false _ _ _ no)
