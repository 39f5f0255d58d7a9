-- What the lines that are typed at a prompt do, one after another, each once.
use Rattle.std.specs.Prelude.{◌≡◌, ◌⊎◌, ◌||◌, ℕ, Bool, true, false, List, [], ◌∷◌, ◌++◌, map, codes, Option, Some, None, Result, Ok, Err, if◌then◌else◌}
use Rattle.std.specs.Option.{option_or}
use Rattle.std.specs.Str.{bytes_eq}
use Rattle.std.specs.Iterator.{Yields}
use Rattle.shop_model.specs.Values.{Text}
use Rattle.shop_types.specs.Numbers.{row_number_of}
use Rattle.till_requests.specs.SheetRows.{number_in_sheet}
use Rattle.till_words.specs.PromptLine.{words_of}
use Rattle.till_words.specs.declared.words.TillAct.TheVariants.{Prompt}
use Rattle.till_words.specs.declared.words.TillLine.{TillLine}
use Rattle.till_words.specs.Line.{till_line_of}
use Rattle.till_program.specs.declared.opening.OpenBook.{OpenBook}
use Rattle.till_program.specs.Screens.{PrintsMore, Screen}
use Rattle.till_program.specs.Lines.{IsNotBegun, DoesWords}

-- `exit` or `quit` alone ends the prompt
abbrev pub is_end : List Text → Bool
is_end [] = false
is_end (word ∷ []) = bytes_eq word (codes "exit") || bytes_eq word (codes "quit")
is_end (word ∷ (next ∷ more)) = false

-- the words that nothing is done for
abbrev pub is_idle : List Text → Bool
is_idle [] = true
is_idle (word ∷ words) = is_end (word ∷ words)

-- the number or the name in `staff N` and `staff FIRST LAST`
abbrev pub staff_number : List Text → Option Text
staff_number [] = None
staff_number (word ∷ []) = None
staff_number (word ∷ (number ∷ [])) = if bytes_eq word (codes "staff") then Some number else None
staff_number (word ∷ (first ∷ (last ∷ []))) = if bytes_eq word (codes "staff") then Some (first ++ (codes " " ++ last)) else None
staff_number (word ∷ (first ∷ (last ∷ (fourth ∷ more)))) = None

-- some sheet has that number for the member of staff of that name
abbrev pub IsNamedStaff : Text → ℕ → Type 0
IsNamedStaff name staff = (sheet : Text) × (number_in_sheet (codes "staff") name sheet ≡ Some (Some staff))

-- The member of staff of that number stands there, or else the member of that name. If it is neither, whoever stood there stands there.
abbrev pub StandsBy : Text → Option ℕ → Option ℕ → Type 0
StandsBy number stands next =
    (next ≡ option_or (row_number_of number) stands)
    ⊎ ((row_number_of number ≡ None) × ((staff : ℕ) × IsNamedStaff number staff × (next ≡ Some staff)))

-- `staff N` lets the member of staff of that number or name stand there, if there is one. Other words are done once, after those before the prompt's own.
abbrev pub StandsOrDoes : List Text → List Text → Option ℕ → Option ℕ → Screen → Screen → Option OpenBook → Option OpenBook → Type 0
StandsOrDoes before words stands next first final held now =
    ((number : Text) × (staff_number words ≡ Some number) × StandsBy number stands next × (now ≡ held))
    ⊎ ((staff_number words ≡ None) × (next ≡ stands) × ((status : ℕ) × DoesWords (before ++ words) stands None status first final held now))

-- nothing is done, and whoever stood there stands there
abbrev pub IsIdle : Option ℕ → Option ℕ → Option OpenBook → Option OpenBook → Type 0
IsIdle stands next held now = (next ≡ stands) × (now ≡ held)

-- what the words of a line do: who stands there before it and after it, and the book that is held
abbrev pub DoesSaid : List Text → List Text → Option ℕ → Option ℕ → Screen → Screen → Option OpenBook → Option OpenBook → Type 0
DoesSaid before words stands next first final held now =
    ((is_idle words ≡ true) × IsIdle stands next held now) ⊎ ((is_idle words ≡ false) × StandsOrDoes before words stands next first final held now)

-- A line with an open quotation mark does nothing.
abbrev pub DoesTyped : List Text → Text → Option ℕ → Option ℕ → Screen → Screen → Option OpenBook → Option OpenBook → Type 0
DoesTyped before line stands next first final held now =
    ((words_of line ≡ None) × IsIdle stands next held now)
    ⊎ ((words : List Text) × (words_of line ≡ Some words) × DoesSaid before words stands next first final held now)

-- what was read does as a line, and nothing if it isn't text
abbrev pub DoesRead : List Text → Option Text → Option ℕ → Option ℕ → Screen → Screen → Option OpenBook → Option OpenBook → Type 0
DoesRead before None stands next first final held now = IsIdle stands next held now
DoesRead before (Some line) stands next first final held now = DoesTyped before line stands next first final held now

-- One after another, each once. While a line is waited for, the book may be closed. What was printed before a line stays, and more is printed between lines.
abbrev pub DoesLines : List Text → List (Option Text) → Option ℕ → Option ℕ → Screen → Screen → Option OpenBook → Option OpenBook → Type 0
DoesLines before [] stands next first final held now = (next ≡ stands) × IsNotBegun held now × PrintsMore first final
DoesLines before (line ∷ lines) stands next first final held now =
    (middle : Option ℕ) × (found after : Option OpenBook) × (invited printed : Screen) × IsNotBegun held found × PrintsMore first invited
    × DoesRead before line stands middle invited printed found after × PrintsMore invited printed × DoesLines before lines middle next printed final after now

-- the line ends the prompt
abbrev pub EndsPrompt : Text → Type 0
EndsPrompt line = (words : List Text) × (words_of line ≡ Some words) × (is_end words ≡ true)

abbrev pub IsLastLine : Option Text → Type 0
IsLastLine None = ⊥
IsLastLine (Some line) = EndsPrompt line

-- ---- the lines of an input

-- the text that was read, or none if it isn't one
abbrev pub text_read : {A E : Type 0} → (A → Text) → Result A E → Option Text
text_read view (Ok line) = Some (view line)
text_read view (Err e) = None

-- The input gave these lines, and they were done.
pub record HasDone {I A E : Type 0} (gives : I → Option (Result A E) → I → Type 0) (view : A → Text) (before : List Text)
    (lines last : I) (next : Option ℕ) (first final : Screen) (held now : Option OpenBook) : Type 0 where
  pub items : List (Result A E)
  pub reads : Yields gives lines items last
  pub does : DoesLines before (map (text_read view) items) None next first final held now

-- The lines that the input gave were done. It gave no more, or the last of them ends the prompt. If reading or writing failed, or memory ran out, one more
-- line may have been read, and nothing was done for it.
pub record PerformsLines {I A E : Type 0} (gives : I → Option (Result A E) → I → Type 0) (view : A → Text) (before : List Text) (is_ok : Bool)
    (lines rest : I) (first final : Screen) (held now : Option OpenBook) : Type 0 where
  pub last : I
  pub next : Option ℕ
  pub done : HasDone gives view before lines last next first final held now
  pub ends : gives last None rest
      ⊎ (((front : List (Result A E)) × (item : Result A E) × (done.items ≡ front ++ item ∷ []) × IsLastLine (text_read view item) × (last ≡ rest))
      ⊎ ((is_ok ≡ false) × ((last ≡ rest) ⊎ ((item : Result A E) × gives last (Some item) rest))))

-- Some lines were done at a prompt that began with no book. The book that was held at its end was closed.
abbrev pub PerformsSome : List Text → Screen → Screen → Type 0
PerformsSome before first final =
    (lines : List (Option Text)) × (next : Option ℕ) × (now : Option OpenBook) × DoesLines before lines None next first final None now

-- ---- a till

-- the words are a line that asks for a prompt
abbrev pub AsksForPrompt : List Text → Type 0
AsksForPrompt words = (line : TillLine) × (till_line_of words ≡ Some line) × (line.act ≡ Prompt)

-- The words were done once, with that status. No book was held before, and the one that was held after them was closed.
abbrev pub PerformsOnce : List Text → ℕ → Screen → Screen → Type 0
PerformsOnce words status first final = (now : Option OpenBook) × DoesWords words None None status first final None now

-- The words were done once. Or they ask for a prompt, and the lines that were read at it were done, one after another.
abbrev pub RunsTill : List Text → ℕ → Screen → Screen → Type 0
RunsTill words status first final = PerformsOnce words status first final ⊎ (AsksForPrompt words × PerformsSome words first final)
