-- What the proofs on the texts of moments cite.
use Rattle.shop_model.proofs.Common.{◌≡◌, refl, sym, subst, arith, ℕ, List, slice_index, pos, ◌+◌, ◌*◌, ◌/◌, ◌%◌, ◌≤◌, IsUtf8-from_ascii, IsAscii-cons}
use Rattle.shop_model.proofs.Common.{IsAscii-nil, AllByRecursion, IsAscii, IsUtf8, Moment, IsMoment, digit, moment_text}
use Rattle.jiff_core.proofs.CalendarLemmas.{days_in_month_bounds}
use Rattle.std.specs.Prelude.{◌<◌, [], ◌∷◌}
use Rattle.shop_types.specs.Moments.{IsDigits}

abbrev Writes : Moment → List ℕ → Type 0
Writes m t = IsDigits (m.year / 100) (slice_index t 0) (slice_index t 1) × IsDigits (m.year % 100) (slice_index t 2) (slice_index t 3)
    × IsDigits m.month (slice_index t 5) (slice_index t 6) × IsDigits m.day (slice_index t 8) (slice_index t 9)
    × IsDigits m.hour (slice_index t 11) (slice_index t 12) × IsDigits m.minute (slice_index t 14) (slice_index t 15)
    × IsDigits m.second (slice_index t 17) (slice_index t 18)

-- where the digits of a moment stand in its text
writes : (m : Moment) (t : List ℕ) → IsMoment m → moment_text m ≡ t → Writes m t
writes m t h e =
    let day : m.day ≤ 31 = omega (arith, h.day_high, days_in_month_bounds (pos m.year) m.month) in
    let P : List ℕ → Type 0 = λ s. Writes m s in
    subst P e (
      (omega (arith, h.year_high), omega arith, omega arith),
      (omega arith, omega arith, omega arith),
      (omega (arith, h.month_high), refl, refl),
      (omega arith, refl, refl),
      (omega (arith, h.hour), refl, refl),
      (omega (arith, h.minute), refl, refl),
      (omega (arith, h.second), refl, refl),
    )

-- pairs that read the digits of a text read the parts of its moment
pub parts_read : (m : Moment) (t : List ℕ) (a b mo d ho mi s : ℕ) → IsMoment m → moment_text m ≡ t
    → ((n : ℕ) → IsDigits n (slice_index t 0) (slice_index t 1) → a ≡ n) → ((n : ℕ) → IsDigits n (slice_index t 2) (slice_index t 3) → b ≡ n)
    → ((n : ℕ) → IsDigits n (slice_index t 5) (slice_index t 6) → mo ≡ n) → ((n : ℕ) → IsDigits n (slice_index t 8) (slice_index t 9) → d ≡ n)
    → ((n : ℕ) → IsDigits n (slice_index t 11) (slice_index t 12) → ho ≡ n) → ((n : ℕ) → IsDigits n (slice_index t 14) (slice_index t 15) → mi ≡ n)
    → ((n : ℕ) → IsDigits n (slice_index t 17) (slice_index t 18) → s ≡ n)
    → ◌≡◌ {A = Moment} m (record { year = a * 100 + b; month = mo; day = d; hour = ho; minute = mi; second = s })
parts_read m t a b mo d ho mi s h e ra rb rmo rd rho rmi rs =
    let w = writes m t h e in
    let ea = ra _ w.0 in
    let eb = rb _ w.1 in
    let y : m.year ≡ a * 100 + b = omega (arith, ea, eb) in
    λ i.
    record {
      year = y i;
      month = sym (rmo _ w.2) i;
      day = sym (rd _ w.3) i;
      hour = sym (rho _ w.4) i;
      minute = sym (rmi _ w.5) i;
      second = sym (rs _ w.6) i;
    }

ascii_each : (bytes : List ℕ) → AllByRecursion (λ b. b < 128) bytes → IsAscii bytes
ascii_each [] h = IsAscii-nil
ascii_each (b ∷ bytes) h = IsAscii-cons b bytes h.0 (ascii_each bytes h.1)

digit_is_ascii : (n : ℕ) → digit n < 128
digit_is_ascii n = omega arith

pub moment_text-utf8 : (m : Moment) → IsUtf8 (moment_text m)
moment_text-utf8 m = IsUtf8-from_ascii (moment_text m) (ascii_each (moment_text m) (search (arith, digit_is_ascii)))
