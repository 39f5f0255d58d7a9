-- The line that says why a word wasn't done.
use Rattle.std.specs.Prelude.{◌≡◌, ◌≢◌, ◌<◌, ◌⊎◌, ◌*◌, ℕ, ℤ, List, [], ◌++◌, length, take, Option, Some, None, codes, decimal, unsigned_abs}
use Rattle.std.specs.Io.KnownBytes.{Appends}
use Rattle.shop_model.specs.Calendar.{Moment, seconds_of, moment_text}
use Rattle.shop_model.specs.Values.{Text}
use Rattle.till_cashier.specs.declared.fault.TillFault.{TillFault}
use Rattle.till_cashier.specs.declared.fault.TillFault.TheVariants as word
use Rattle.till_requests.specs.Moments.{last_second}
use Rattle.till_cashier.specs.Faults.{fault_text}

-- a front of the bytes was written, and not all of them
abbrev pub IsCutOff : List ℕ → Option (List ℕ) → Option (List ℕ) → Type 0
IsCutOff whole output written = (front : List ℕ) × (rest : List ℕ) × (whole ≡ front ++ rest) × (0 < length rest) × Appends output written front

-- a date of a moment's text
abbrev pub date_in : Option Text → Text
date_in None = []
date_in (Some text) = take 10 text

-- the text of the day of that number, or nothing if it is after the year 9999
abbrev pub IsDate : ℤ → Text → Type 0
IsDate day date =
    ((at : Moment) × (seconds_of at ≡ unsigned_abs day * 86_400) × (date ≡ take 10 (moment_text at)))
    ⊎ ((last_second < unsigned_abs day * 86_400) × (date ≡ []))

-- what follows the sentences of three faults, with numbers and dates
abbrev pub IsAhead : TillFault → Text → Type 0
IsAhead fault more =
    (seconds : ℕ) × (fault ≡ word.Ahead seconds) × (more ≡ codes " Wait " ++ (decimal seconds ++ codes " seconds, and say the word again.\n"))

abbrev pub IsJoined : TillFault → Text → Type 0
IsJoined fault more =
    (number : ℕ) × (fault ≡ word.Joined number)
    × (more ≡ codes " It is customer " ++ (decimal number ++ codes ": if this is somebody else, say --yes before the word.\n"))

-- some two dates
abbrev pub IsOtherDay : TillFault → Text → Type 0
IsOtherDay fault more =
    (clock said one_day other_day : ℤ) × (fault ≡ word.OtherDay clock said) × ((one other : Text) × IsDate one_day one × IsDate other_day other
    × (more ≡ codes " It says " ++ (one ++ (codes ", not " ++ (other ++ codes ". Mend the clock, or the zone, or say the date again.\n")))))

-- only the line's end follows those of another
abbrev pub IsPlain : TillFault → Text → Type 0
IsPlain fault more =
    (more ≡ codes "\n") × ((seconds : ℕ) → fault ≢ word.Ahead seconds) × ((number : ℕ) → fault ≢ word.Joined number)
    × ((clock said : ℤ) → fault ≢ word.OtherDay clock said)

-- the line of a fault: what it is, and what to do
abbrev pub IsFaultLine : TillFault → Text → Type 0
IsFaultLine fault line =
    (more : Text) × (IsAhead fault more ⊎ (IsJoined fault more ⊎ (IsOtherDay fault more ⊎ IsPlain fault more))) × (line ≡ fault_text fault ++ more)
