-- What is asked before a word.
use Rattle.std.specs.Prelude.{◌≡◌, ◌⊎◌, ℕ, ℤ, Bool, true, List, Option, Some, IsSome}
use Rattle.std.specs.Io.KnownBytes.{Appends}
use Rattle.jiff_tz.specs.declared.timezone.TimeZone.{TimeZone}
use Rattle.till_words.specs.declared.words.TillAct.{TillAct}
use Rattle.till_cashier.specs.Today.{enters_acts, IsDayOnWall}

-- The day that counts as said is the desk's own, or somebody was asked for it. Then the word enters commands of a branch, and the clock on the wall shows
-- that day.
abbrev pub IsSaidDay : (ℕ → Type 0) → TimeZone → ℤ → Bool → Option ℕ → TillAct → Option ℤ → Option ℤ → Type 0
IsSaidDay shows zone offset may_ask staff word own said =
    (said ≡ own)
    ⊎ ((may_ask ≡ true) × IsSome staff × (enters_acts word ≡ true) × ((day : ℤ) × (said ≡ Some day) × IsDayOnWall shows zone offset day))

-- some bytes were written, perhaps none, and nothing else
abbrev pub Grows : Option (List ℕ) → Option (List ℕ) → Type 0
Grows output written = (text : List ℕ) × Appends output written text
