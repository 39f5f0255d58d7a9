-- What the program prints, and the status that it ends with.
use Rattle.std.specs.Prelude.{◌≡◌, ◌≢◌, ◌⊎◌, ◌==◌, ◌<◌, ℕ, List, [], ◌∷◌, ◌++◌, length, Option, if◌then◌else◌}
use Rattle.std.specs.Io.KnownBytes.{Appends, Keeps}
use Rattle.shop_model.specs.Answers.{Answer}

-- the text and a line's end
abbrev pub line_bytes : List ℕ → List ℕ
line_bytes text = text ++ 10 ∷ []

-- a front of the bytes is printed, and not all of them
abbrev pub IsCutOff : List ℕ → Option (List ℕ) → Option (List ℕ) → Type 0
IsCutOff bytes output written = (front : List ℕ) × (rest : List ℕ) × (bytes ≡ front ++ rest) × (0 < length rest) × Appends output written front

-- the text is printed as a line, with status 0; if standard output fails before the line's end the status is 3
abbrev pub IsPrinted : List ℕ → ℕ → Option (List ℕ) → Option (List ℕ) → Type 0
IsPrinted text status output written = ((status ≡ 0) × Appends output written (line_bytes text)) ⊎ ((status ≡ 3) × IsCutOff (line_bytes text) output written)

-- nothing is printed on standard output, with that status
abbrev pub IsSilent : ℕ → ℕ → Option (List ℕ) → Option (List ℕ) → Type 0
IsSilent wanted status output written = (status ≡ wanted) × Keeps output written

-- with status 0 nothing is written on standard error
abbrev pub IsQuiet : ℕ → Option (List ℕ) → Option (List ℕ) → Type 0
IsQuiet status errors told = status ≡ 0 → Keeps errors told

-- the text is written as a line on standard error, or a front of the line if standard error fails, and nothing else
abbrev pub IsComplaint : List ℕ → Option (List ℕ) → Option (List ℕ) → Type 0
IsComplaint text errors told = (front : List ℕ) × (rest : List ℕ) × (line_bytes text ≡ front ++ rest) × Appends errors told front

-- 3 if the chain ran out of memory or room, or its store failed, and 1 for any other refusal
abbrev pub refused_status : ℕ → ℕ
refused_status status = if status == 503 then 3 else 1

-- The body of an accepted answer is printed on standard output, and nothing on standard error. The body of a refusal is written on standard error, and nothing
-- on standard output.
pub record IsTold (answer : Answer) (status : ℕ) (output written errors told : Option (List ℕ)) : Type 0 where
  pub accepted : answer.status ≡ 200 → IsPrinted answer.body status output written × Keeps errors told
  pub refused : answer.status ≢ 200 → IsSilent (refused_status answer.status) status output written × IsComplaint answer.body errors told
