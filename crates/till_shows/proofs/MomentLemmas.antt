-- The digits of a moment's text write its parts.
use Rattle.shop_types.proofs.Common.{◌≡◌, ap, arith, pos, ℕ, List, slice_index, ◌≤◌, IsDigits, Moment, IsMoment, moment_text}
use Rattle.jiff_core.proofs.CalendarLemmas.{days_in_month_bounds}

pub day_digits : (m : Moment) (text : List ℕ) → IsMoment m → text ≡ moment_text m → IsDigits m.day (slice_index text 8) (slice_index text 9)
day_digits m text is e =
    let small : m.day ≤ 31 = omega (arith, is.day_high, days_in_month_bounds (pos m.year) m.month) in
    (omega (arith, small), ap (λ (l : List ℕ). slice_index l 8) e, ap (λ (l : List ℕ). slice_index l 9) e)

pub hour_digits : (m : Moment) (text : List ℕ) → IsMoment m → text ≡ moment_text m → IsDigits m.hour (slice_index text 11) (slice_index text 12)
hour_digits m text is e = (omega (arith, is.hour), ap (λ (l : List ℕ). slice_index l 11) e, ap (λ (l : List ℕ). slice_index l 12) e)

pub minute_digits : (m : Moment) (text : List ℕ) → IsMoment m → text ≡ moment_text m → IsDigits m.minute (slice_index text 14) (slice_index text 15)
minute_digits m text is e = (omega (arith, is.minute), ap (λ (l : List ℕ). slice_index l 14) e, ap (λ (l : List ℕ). slice_index l 15) e)
