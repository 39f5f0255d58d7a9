-- What a desk does to the book that it holds, for what its windows sent.
use Rattle.std.specs.Prelude.{◌≡◌, ◌≢◌, ◌⊎◌, ℕ, List, [], ◌∷◌, codes, drop, Option, Some, None, Ok}
use Rattle.sqlite.specs.Files.{file_state}
use Rattle.sqlite.specs.State.{HasCleanDisk}
use Rattle.shop_model.specs.Values.{Text}
use Rattle.till_book.specs.Steps.{Stays}
use Rattle.till_program.specs.declared.opening.OpenBook.{OpenBook}
use Rattle.till_program.specs.Frames.{frame, reply}
use Rattle.till_program.specs.Reading.{line_at}
use Rattle.till_program.specs.Screens.{Screen, screen}
use Rattle.till_program.specs.Lines.{DoesWords}

-- The words of a window's line, with the name of the desk's book before them. The line's first word says who is asked.
abbrev pub desk_words : Text → List Text → List Text
desk_words name line = codes "--book" ∷ (name ∷ drop 1 line)

-- the texts that were printed on standard output and on standard error, and nothing before them
abbrev pub printed : List ℕ → List ℕ → Screen
printed out err = screen (Some out) (Some err)

-- the words of the line were done at the desk's book with that status, with the file for the stock file, and printed those texts; nobody else stands there
abbrev pub DoesFrame : Text → List ℕ → List ℕ → ℕ → List ℕ → List ℕ → Option OpenBook → Option OpenBook → Type 0
DoesFrame name line file status out err held now =
    (words : List Text) × (line_at line ≡ Ok words) × DoesWords (desk_words name words) None (Some file) status (printed [] []) (printed out err) held now

-- The bytes are a frame with the secret, and its words were done once. Or what is held is as it was.
abbrev pub Handles : Text → List ℕ → List ℕ → Option OpenBook → Option OpenBook → Type 0
Handles name secret bytes held now =
    (now ≡ held)
    ⊎ ((line file : List ℕ) × (bytes ≡ frame secret line file)
    × ((status : ℕ) × (out err : List ℕ) × DoesFrame name line file status out err held now))

-- the text is a reply with such a status and such texts
abbrev pub IsReplyOf : List ℕ → (ℕ → List ℕ → List ℕ → Type 0) → Type 0
IsReplyOf text Has = (status : ℕ) × (out err : List ℕ) × (text ≡ reply status out err) × Has status out err

-- nothing is said of standard output, and the status isn't 0
abbrev pub IsDeskRefusal : ℕ → List ℕ → List ℕ → Type 0
IsDeskRefusal status out err = (status ≢ 0) × (out ≡ [])

-- A reply says that the words of a frame were done with its status, and its texts are what they printed. Or it is a refusal of the desk's own.
abbrev pub RepliesTo : Text → List ℕ → List ℕ → Option OpenBook → Option OpenBook → ℕ → List ℕ → List ℕ → Type 0
RepliesTo name secret bytes held now status out err =
    ((line file : List ℕ) × (bytes ≡ frame secret line file) × DoesFrame name line file status out err held now) ⊎ IsDeskRefusal status out err

-- ---- windows side by side

-- the book that is held was looked at
abbrev pub IsLooked : Option OpenBook → Option OpenBook → Type 0
IsLooked None now = now ≡ None
IsLooked (Some before) None = ⊥
IsLooked (Some before) (Some after) =
    (after.tools ≡ before.tools) × (HasCleanDisk (file_state after.conn) → Stays (file_state before.conn) (file_state after.conn))

-- the words by which the desk sends what waits
abbrev pub own_words : Text → List Text
own_words name = codes "--book" ∷ (name ∷ (codes "send" ∷ []))

-- What the desk does by itself: it closes the book, or sends what waits, or looks whether an entry waits.
abbrev pub ActsAlone : Text → Option OpenBook → Option OpenBook → Type 0
ActsAlone name held now =
    IsLooked held now
    ⊎ ((now ≡ None)
    ⊎ ((status : ℕ) × (out err : List ℕ) × DoesWords (own_words name) None (Some []) status (printed [] []) (printed out err) held now))

-- a window's bytes are handled, or the desk acts by itself
abbrev pub Steps : Text → List ℕ → Option (List ℕ) → Option OpenBook → Option OpenBook → Type 0
Steps name secret None held now = ActsAlone name held now
Steps name secret (Some bytes) held now = Handles name secret bytes held now

-- One after another: each finds what is held as the one before it left it.
abbrev pub Serves : Text → List ℕ → List (Option (List ℕ)) → Option OpenBook → Option OpenBook → Type 0
Serves name secret [] held now = now ≡ held
Serves name secret (step ∷ steps) held now = (between : Option OpenBook) × Steps name secret step held between × Serves name secret steps between now

-- What is held is so by such steps alone.
abbrev pub IsServed : Text → List ℕ → Option OpenBook → Option OpenBook → Type 0
IsServed name secret held now = (steps : List (Option (List ℕ))) × Serves name secret steps held now
