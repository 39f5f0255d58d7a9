-- Many windows at one book.
use Rattle.std.specs.Prelude.{◌≡◌, ⊤, ℕ, ℤ, Bool, false, List, [], ◌∷◌, ◌++◌, length, IsTrue, Option, IsSome, Result, Ok}
use Rattle.std.specs.List.{AllByRecursion}
use Rattle.sqlite_trees.specs.declared.store.Store.{Ghosts}
use Rattle.sqlite.specs.Held.{Held, state}
use Rattle.sqlite.specs.State.{State}
use Rattle.jiff_tz.specs.declared.timezone.TimeZone.{TimeZone}
use Rattle.shop_model.specs.Values.{Text, Act, Command}
use Rattle.shop_model.specs.Answers.{Answer}
use Rattle.shop_types.specs.Seen.{seen_act}
use Rattle.shop_types.specs.declared.command.Act.{Act as Typed}
use Rattle.shop_types.specs.declared.command.Act.TheVariants.{TakeBack}
use Rattle.till_book.specs.Journal.{Journal}
use Rattle.till_book.specs.Steps.{Rests}
use Rattle.till_book.specs.declared.rents.HeldRental.{HeldRental}
use Rattle.till_work.specs.Entering.{IsTillsBook}
use Rattle.till_words.specs.declared.words.TillAct.{TillAct}
use Rattle.till_words.specs.declared.words.TillAct.TheVariants as typed
use Rattle.till_cashier.specs.declared.fault.TillFault.{TillFault}
use Rattle.till_cashier.specs.Doing.{DoesWord}
use Rattle.till_cashier.specs.Giving.{AreTries, IsBack}
use Rattle.till_cashier.specs.Returns.{IsReturned}
use Rattle.till_cashier.specs.Word.{KeepsATillsBook, EntersNothing}
use Rattle.till_program.specs.Screens.{Screen}
use Rattle.till_program.specs.Performing.{IsPerformed}

-- a word: its window, its giver, the sheet beside the book, what it asked for, whether the desk replied that it was done, the book after it
pub record Done (S : Type 0) : Type 0 where
  pub window : ℕ
  pub giver : Result ℕ TillFault
  pub sheet : Text
  pub act : TillAct
  pub is_said : Bool
  pub after : Held S

-- The word kept the book as `do_word` says. If the desk replied that it was done, it was done as `do_word` says.
pub record IsDone {S : Type 0} (g : Ghosts S) (Exchanged : List ℕ → Answer → Type 0) (shows : ℕ → Type 0)
    (mark token : Text) (before : Held S) (word : Done S) : Type 0 where
  pub keeps : KeepsATillsBook Exchanged mark (state g before) (state g word.after)
  pub does : IsTrue word.is_said → DoesWord Exchanged shows mark token word.giver word.sheet word.act (state g before) (state g word.after)

-- Words were done one after another, of any windows in any order. Each found the book as the word before it had left it.
abbrev pub AreDone : {S : Type 0} → Ghosts S → (List ℕ → Answer → Type 0) → (ℕ → Type 0) → Text → Text → Held S → List (Done S) → Type 0
AreDone g Exchanged shows mark token s [] = ⊤
AreDone g Exchanged shows mark token s (word ∷ words) = IsDone g Exchanged shows mark token s word × AreDone g Exchanged shows mark token word.after words

-- the book after the last word
abbrev pub book_after : {S : Type 0} → Held S → List (Done S) → Held S
book_after s [] = s
book_after s (word ∷ words) = book_after word.after words

-- The act is in a till's book, after what was there and before all that came later. Its tries are one after another. Each but the last was refused for its
-- moment, and the last got that answer. Each reply has the place of its own try.
pub record IsGivenIn (shows : ℕ → Type 0) (mark token : Text) (staff : ℕ) (act : Act) (answer : Answer) (said : List Command) (s : State) : Type 0 where
  pub journal : Journal
  pub commands : List Command
  pub rests : Rests s journal
  pub book : IsTillsBook mark journal commands
  pub earlier : List Command
  pub tries : List Command
  pub later : List Command
  pub says : commands ≡ ((said ++ earlier) ++ tries) ++ later
  pub first_entries : List (List ℕ)
  pub requests : List (List ℕ)
  pub more_entries : List (List ℕ)
  pub entries : journal.entries ≡ (first_entries ++ requests) ++ more_entries
  pub each : AreTries shows token staff act requests tries
  pub first_replies : List Answer
  pub backs : List Answer
  pub more_replies : List Answer
  pub replies : journal.replies ≡ (first_replies ++ (backs ++ answer ∷ [])) ++ more_replies
  pub placed : length first_replies ≡ length first_entries
  pub counted : length (backs ++ answer ∷ []) ≡ length requests
  pub tried : AllByRecursion IsBack backs

-- so its giver gave it
abbrev pub IsIn : (ℕ → Type 0) → Text → Text → Result ℕ TillFault → Act → List Command → State → Type 0
IsIn shows mark token giver act said s =
    (answer : Answer) × (staff : ℕ) × (giver ≡ Ok staff) × IsGivenIn shows mark token staff act answer said s

-- Whatever words the windows had done, in whatever order: a till's book is one still. What was entered, recorded and settled is a front part of it.
-- The commands are one sequence, with the earlier ones in front. So the laws of a till's book hold of it.
abbrev pub WindowsShareABook : {S : Type 0} → Ghosts S → (List ℕ → Answer → Type 0) → (ℕ → Type 0) → Type 0
WindowsShareABook {S} g Exchanged shows =
    (mark token : Text) (s : Held S) (words : List (Done S))
    → AreDone g Exchanged shows mark token s words → KeepsATillsBook Exchanged mark (state g s) (state g (book_after s words))

-- If the desk replied that an act was done, the act is in the book with its answer. The windows may do anything before it and after it.
abbrev pub ActsStay : {S : Type 0} → Ghosts S → (List ℕ → Answer → Type 0) → (ℕ → Type 0) → Type 0
ActsStay {S} g Exchanged shows =
    (mark token : Text) (s : Held S) (journal : Journal) (commands : List Command) (before later : List (Done S)) (word : Done S) (what : Typed)
    → Rests (state g s) journal → IsTillsBook mark journal commands
    → AreDone g Exchanged shows mark token s before → IsDone g Exchanged shows mark token (book_after s before) word
    → AreDone g Exchanged shows mark token word.after later
    → IsTrue word.is_said → word.act ≡ typed.Do what
    → IsIn shows mark token word.giver (seen_act what) commands (state g (book_after word.after later))

-- A copy that came back at any window is the return of its rental in the one book, or in the sheet. Which window entered that rental doesn't matter.
abbrev pub CopiesComeBack : {S : Type 0} → Ghosts S → (List ℕ → Answer → Type 0) → (ℕ → Type 0) → Type 0
CopiesComeBack {S} g Exchanged shows =
    (mark token : Text) (s : Held S) (journal : Journal) (commands : List Command) (before later : List (Done S)) (word : Done S) (copy : ℕ)
    → Rests (state g s) journal → IsTillsBook mark journal commands
    → AreDone g Exchanged shows mark token s before → IsDone g Exchanged shows mark token (book_after s before) word
    → AreDone g Exchanged shows mark token word.after later
    → IsTrue word.is_said → word.act ≡ typed.ReturnCopy copy
    → (held : HeldRental) × IsReturned word.sheet copy held (state g (book_after s before))
    × IsIn shows mark token word.giver (seen_act (TakeBack held.rental)) commands (state g (book_after word.after later))

-- A word that the program performed at a branch's book is two of the words above: the word, and what was made sure of after it.
abbrev pub PerformedIsDone : {S : Type 0} → Ghosts S → (List ℕ → Answer → Type 0) → (List ℕ → Answer → Type 0) → (ℕ → Type 0) → Type 0
PerformedIsDone {S} g Exchanged Answers shows =
    (mark token : Text) (own : Option ℕ) (giver : Result ℕ TillFault) (json : Bool) (sheet : Text) (act : TillAct) (status window : ℕ) (said : Bool)
    (wall : TimeZone) (offset : ℤ) (first final : Screen) (before after : Held S)
    → IsSome own → (IsTrue said → status ≡ 0)
    → (it : IsPerformed g Exchanged Answers (EntersNothing Exchanged) shows wall offset mark token own giver json sheet act false status first final
    before after)
    → AreDone g Exchanged shows mark token before
    (record { window = window; giver = giver; sheet = sheet; act = act; is_said = said; after = it.between }
    ∷ (record { window = window; giver = giver; sheet = sheet; act = act; is_said = false; after = after } ∷ []))
