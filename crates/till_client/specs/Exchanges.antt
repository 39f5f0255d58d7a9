-- What was written if no answer came.
use Rattle.std.specs.Prelude.{◌≡◌, ◌<◌, ◌++◌, ⊤, ℕ, List, length, Option}
use Rattle.std.specs.Io.KnownBytes.{Appends}
use Rattle.till_client.specs.declared.exchange.AskFault.{AskFault}
use Rattle.till_client.specs.declared.exchange.AskFault.TheVariants.{Write, Read, Cut, Foreign, Memory}

-- the fault came from reading, not from writing
abbrev pub IsOfReading : AskFault → Type 0
IsOfReading Write = ⊥
IsOfReading Read = ⊤
IsOfReading Cut = ⊤
IsOfReading Foreign = ⊤
IsOfReading Memory = ⊤

-- a front of the request was written, and not all
abbrev pub IsPartWritten : List ℕ → Option (List ℕ) → Option (List ℕ) → Type 0
IsPartWritten request output written = (front : List ℕ) × (rest : List ℕ) × (request ≡ front ++ rest) × (0 < length rest) × Appends output written front

-- If a write failed, a front of the request was written, and not all. After any other fault, all of it was written.
abbrev pub FailsToAsk : AskFault → List ℕ → Option (List ℕ) → Option (List ℕ) → Type 0
FailsToAsk Write request output written = IsPartWritten request output written
FailsToAsk Read request output written = Appends output written request
FailsToAsk Cut request output written = Appends output written request
FailsToAsk Foreign request output written = Appends output written request
FailsToAsk Memory request output written = Appends output written request
