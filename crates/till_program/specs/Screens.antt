-- What a program prints: on standard output, and on standard error.
use Rattle.std.specs.Prelude.{◌≡◌, ◌≢◌, ◌⊎◌, ℕ, codes, string_bytes, List, ◌++◌, Option, Result, Ok, Err}
use Rattle.std.specs.Io.KnownBytes.{Appends, Keeps}
use Rattle.shop_model.specs.Values.{Text}
use Rattle.till_cashier.specs.declared.fault.TillFault.{TillFault}
use Rattle.till_cashier.specs.declared.said.Said.{Said}
use Rattle.till_cashier.specs.Asked.{Grows}
use Rattle.till_cashier.specs.Faults.{fault_status}
use Rattle.till_cashier.specs.Telling.{IsFaultLine}

-- what was printed so far on standard output and on standard error, as far as it is known
pub record Screen : Type 0 where
  pub output : Option (List ℕ)
  pub errors : Option (List ℕ)

abbrev pub screen : Option (List ℕ) → Option (List ℕ) → Screen
screen output errors = record { output = output; errors = errors }

-- something was printed, perhaps nothing
abbrev pub PrintsMore : Screen → Screen → Type 0
PrintsMore before after = Grows before.output after.output × Grows before.errors after.errors

-- a front of the bytes was printed, perhaps all of them
abbrev pub IsFront : List ℕ → Option (List ℕ) → Option (List ℕ) → Type 0
IsFront bytes before after = (front : List ℕ) × (rest : List ℕ) × (bytes ≡ front ++ rest) × Appends before after front

-- The text is printed whole, and the status is the one that is wanted. If the stream fails, a front of the text is printed, and the status is 3.
abbrev pub IsPrinted : Text → ℕ → ℕ → Option (List ℕ) → Option (List ℕ) → Type 0
IsPrinted text wanted status before after = ((status ≡ wanted) × Appends before after text) ⊎ ((status ≡ 3) × IsFront text before after)

-- With status 0 a text is printed on standard output, and with another status on standard error. Nothing is printed on the other stream.
pub record IsShown (text : Text) (wanted status : ℕ) (before after : Screen) : Type 0 where
  pub done : wanted ≡ 0 → IsPrinted text 0 status before.output after.output × Keeps before.errors after.errors
  pub refused : wanted ≢ 0 → IsPrinted text wanted status before.errors after.errors × Keeps before.output after.output

-- some text is printed, and the text and its status are these
abbrev pub Shows : (Text → ℕ → Type 0) → ℕ → Screen → Screen → Type 0
Shows Says status before after = (text : Text) × (wanted : ℕ) × Says text wanted × IsShown text wanted status before after

-- the line and the status of a fault
abbrev pub SaysFaultLine : TillFault → Text → ℕ → Type 0
SaysFaultLine fault text wanted = IsFaultLine fault text × (wanted ≡ fault_status fault)

-- those of some fault
abbrev pub SaysSomeFault : Text → ℕ → Type 0
SaysSomeFault text wanted = (fault : TillFault) × SaysFaultLine fault text wanted

-- what a word says is printed, or why it wasn't done
abbrev pub ShowsSaid : Result Said TillFault → ℕ → Screen → Screen → Type 0
ShowsSaid (Ok said) status before after = IsShown (string_bytes said.text) said.status status before after
ShowsSaid (Err fault) status before after = Shows (SaysFaultLine fault) status before after

-- a fault is printed on standard error
abbrev pub PrintsFault : TillFault → ℕ → Option (List ℕ) → Option (List ℕ) → Type 0
PrintsFault fault status before after =
    (fault_status fault ≢ 0) × ((line : Text) × IsFaultLine fault line × IsPrinted line (fault_status fault) status before after)

-- what is printed if a question wasn't answered by yes
abbrev pub nothing_text : Text
nothing_text = codes "Nothing was entered.\n"

-- that, or some fault
abbrev pub SaysNotDone : Text → ℕ → Type 0
SaysNotDone text wanted = ((text ≡ nothing_text) × (wanted ≡ 1)) ⊎ SaysSomeFault text wanted
