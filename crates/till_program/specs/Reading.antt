-- Reading from left to right, with the first fault that is met.
use Rattle.std.specs.Prelude.{◌≡◌, ◌≢◌, ◌<◌, ◌≤◌, ℕ, zero, suc, List, [], ◌∷◌, ◌++◌, length, take, drop, Result, Ok, Err, nat_lt, ◌==◌, if◌then◌else◌}
use Rattle.std.specs.Int.{Width, w32, byte_len, from_be_bytes}
use Rattle.till_program.specs.declared.fault.NoFrame.{NoFrame}
use Rattle.till_program.specs.declared.fault.NoFrame.TheVariants.{Short, Foreign, Denied, Long, Trailing}
use Rattle.till_program.specs.declared.fault.NoLine.{NoLine}
use Rattle.till_program.specs.declared.fault.NoLine.TheVariants as lacks
use Rattle.till_program.specs.Frames.{most, most_said, beginning}

infixl 10 ◌>>=◌
abbrev pub ◌>>=◌ : {A B : Type 0} → Result A NoFrame → (A → Result B NoFrame) → Result B NoFrame
(Ok x) >>= f = f x
(Err e) >>= f = Err e

-- what a function returned, seen by view, is what reading gives
abbrev pub Is : {X Y : Type 0} → (X → Y) → Result X NoFrame → Result Y NoFrame → Type 0
Is view (Ok x) read = read ≡ Ok (view x)
Is view (Err e) read = read ≡ Err e

-- unless memory ran out, or a word isn't text
abbrev pub Fails : {Y : Type 0} → NoLine → Result Y NoFrame → Type 0
Fails lacks.Memory read = Unit {0}
Fails lacks.NotText read = Unit {0}
Fails (lacks.Form f) read = read ≡ Err f

abbrev pub Gives : {X Y : Type 0} → (X → Y) → Result X NoLine → Result Y NoFrame → Type 0
Gives view (Ok x) read = read ≡ Ok (view x)
Gives view (Err e) read = Fails e read

-- A field is a value and the bytes after it.
abbrev pub number_at : Width → List ℕ → Result (ℕ × List ℕ) NoFrame
number_at w bytes = if nat_lt (length bytes) (byte_len w) then Err Short else Ok (from_be_bytes w (take (byte_len w) bytes), drop (byte_len w) bytes)

unfoldable pub field_at : ℕ → List ℕ → Result (List ℕ × List ℕ) NoFrame
field_at limit bytes = do
  n ← number_at w32 bytes
  if nat_lt limit n.0 then Err Long else (if nat_lt (length n.1) n.0 then Err Short else Ok (take n.0 n.1, drop n.0 n.1))

unfoldable pub words_at : ℕ → List ℕ → Result (List (List ℕ) × List ℕ) NoFrame
words_at zero bytes = Ok ([], bytes)
words_at (suc n) bytes = do
  first ← field_at most bytes
  others ← words_at n first.1
  Ok (first.0 ∷ others.0, others.1)

-- all of the bytes
unfoldable pub line_at : List ℕ → Result (List (List ℕ)) NoFrame
line_at bytes = do
  n ← number_at w32 bytes
  words ← words_at n.0 n.1
  if length words.1 == 0 then Ok words.0 else Err Trailing

-- the line and the file, all of the bytes
unfoldable pub body_at : List ℕ → Result (List ℕ × List ℕ) NoFrame
body_at bytes = do
  text ← field_at most bytes
  file ← field_at most text.1
  if length file.1 == 0 then Ok (text.0, file.0) else Err Trailing

-- the status and the two texts, all of the bytes
unfoldable pub reply_at : List ℕ → Result (ℕ × (List ℕ × List ℕ)) NoFrame
reply_at [] = Err Short
reply_at (status ∷ bytes) = do
  out ← field_at most_said bytes
  err ← field_at most_said out.1
  if length err.1 == 0 then Ok (status, (out.0, err.0)) else Err Trailing

-- which fault it is that no beginning with that secret is there
abbrev pub IsHeadFault : List ℕ → List ℕ → NoFrame → Type 0
IsHeadFault secret bytes Short = length bytes < 44
IsHeadFault secret bytes Foreign = (44 ≤ length bytes) × (take 12 bytes ≢ beginning)
IsHeadFault secret bytes Denied = (44 ≤ length bytes) × (take 32 (drop 12 bytes) ≢ secret)
IsHeadFault secret bytes Long = ⊥
IsHeadFault secret bytes Trailing = ⊥
