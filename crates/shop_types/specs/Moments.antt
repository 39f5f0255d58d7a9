-- How two bytes write a number below 100, and which moment a text is of.
use Rattle.std.specs.Prelude.{◌≡◌, ℕ, ◌/◌, ◌<◌, List}
use Rattle.shop_model.specs.Calendar.{Moment, IsMoment, digit, moment_text}

-- the bytes are the digits of the number
abbrev pub IsDigits : ℕ → ℕ → ℕ → Type 0
IsDigits n tens ones = (n < 100) × (tens ≡ digit (n / 10)) × (ones ≡ digit n)

-- the text is that of the moment, which the calendar has
abbrev pub IsTextOf : List ℕ → Moment → Type 0
IsTextOf text m = IsMoment m × (moment_text m ≡ text)
