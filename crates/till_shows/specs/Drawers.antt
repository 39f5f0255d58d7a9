-- The lines that say what is in the drawer, and how it was closed.
use Rattle.std.specs.Prelude.{ℕ, ◌-◌, ◌==◌, nat_lt, if◌then◌else◌, [], ◌++◌, Option, None, Some, codes, decimal}
use Rattle.shop_model.specs.Values.{Text}
use Rattle.shop_model.specs.Calendar.{Moment}
use Rattle.till_shows.specs.Money.{amount_text}
use Rattle.till_shows.specs.Times.{counted_text, moment_text}

abbrev pub since_text : Option Moment → Text
since_text None = codes "since this book was made"
since_text (Some m) = codes "since " ++ moment_text m

-- the moment of the last closing, and how many entries came since: rents and returns that were accepted, refused ones, and those that wait
abbrev pub came_text : Option Moment → ℕ → ℕ → ℕ → ℕ → Text
came_text last rents returns refused waiting =
    since_text last ++ (codes ": " ++ (counted_text rents (codes "rent") ++ (codes ", " ++ (counted_text returns (codes "return") ++ (codes ", "
    ++ (decimal refused ++ (codes " refused, " ++ (decimal waiting ++ codes " waiting"))))))))

abbrev pub taken_text : ℕ → ℕ → Text
taken_text staff cents = codes "staff " ++ (decimal staff ++ (codes " took " ++ amount_text cents))

abbrev pub all_text : ℕ → Text
all_text cents = codes "in all " ++ amount_text cents

-- how far what was counted is from what was expected
abbrev pub difference_text : ℕ → ℕ → Text
difference_text expected counted =
    if counted == expected then codes "no difference"
    else (if nat_lt expected counted then amount_text (counted - expected) ++ codes " too much"
    else amount_text (expected - counted) ++ codes " missing")

abbrev pub counting_text : ℕ → ℕ → Text
counting_text expected counted =
    codes "expected " ++ (amount_text expected ++ (codes ", counted " ++ (amount_text counted ++ (codes ", " ++ difference_text expected counted))))

abbrev pub closing_text : Moment → ℕ → ℕ → Text
closing_text m expected counted = codes "closed " ++ (moment_text m ++ (codes ": " ++ counting_text expected counted))

abbrev pub not_closed_text : Text → Text
not_closed_text day = codes "the drawer wasn't closed on " ++ day
