-- A word at an open book as the program does it: by `do_word`, and then some refused entries are made sure of.
use Rattle.std.specs.Prelude.{◌≡◌, ◌≢◌, ◌⊎◌, ⊤, ℕ, ℤ, Bool, true, false, string_bytes, List, ◌++◌, Option, Some, None, IsSome, Result}
use Rattle.std.specs.Io.KnownBytes.{Appends, Keeps}
use Rattle.std.specs.declared.net.tcp.TcpStream.{TcpStream}
use Rattle.sqlite_disk.specs.declared.Disk as disk
use Rattle.sqlite_trees.specs.declared.store.Store.{Ghosts}
use Rattle.sqlite_store.specs.declared.store.FileStore.{FileStore}
use Rattle.sqlite.specs.Files.{over_files, file_state}
use Rattle.sqlite.specs.Held.{Held, state}
use Rattle.sqlite.specs.State.{State, HasCleanDisk}
use Rattle.jiff_tz.specs.declared.timezone.TimeZone.{TimeZone}
use Rattle.shop_model.specs.Values.{Text}
use Rattle.shop_model.specs.Answers.{Answer}
use Rattle.till_book.specs.Steps.{Stays}
use Rattle.till_requests.specs.Zones.{offset_of}
use Rattle.till_requests.specs.declared.settings.Settings.{Settings}
use Rattle.till_work.specs.Exchanged.{IsExchanged}
use Rattle.till_words.specs.declared.words.TillAct.{TillAct}
use Rattle.till_cashier.specs.declared.fault.TillFault.{TillFault}
use Rattle.till_cashier.specs.declared.fault.TillFault.TheVariants.{OtherBook}
use Rattle.till_cashier.specs.Adding.{EntersWord}
use Rattle.till_cashier.specs.Asked.{Grows}
use Rattle.till_cashier.specs.Clock.{local_clock}
use Rattle.till_cashier.specs.Faults.{IsReading, giver_of, others_fault}
use Rattle.till_cashier.specs.Asking.{IsAnswered}
use Rattle.till_cashier.specs.Doing.{DoesWord, RepeatsWord}
use Rattle.till_cashier.specs.Printing.{SaysWord}
use Rattle.till_cashier.specs.Showing.{ShowsWord}
use Rattle.till_cashier.specs.Today.{IsOnWall}
use Rattle.till_cashier.specs.Word.{KeepsATillsBook, KeepsABook, EntersNothing, EntersOrSends, IsFor, IsOwnBook}
use Rattle.till_program.specs.declared.opening.OpenBook.{OpenBook}
use Rattle.till_program.specs.Screens.{SaysFaultLine, SaysNotDone, Screen, Shows, screen}

-- the text was printed, and more after it perhaps
abbrev pub Prints : Text → Option (List ℕ) → Option (List ℕ) → Type 0
Prints text output written = (more : Text) × Appends output written (text ++ more)

-- Why a word wasn't done. At a book of the other kind it is that fault, and at another till's book that one, unless the book can't be read.
pub record IsWordFault (mark : Text) (own : Option ℕ) (act : TillAct) (s : State) (fault : TillFault) : Type 0 where
  pub others : ¬ IsFor own act → IsReading fault ⊎ (fault ≡ others_fault own)
  pub foreign : EntersOrSends act → IsFor own act → ¬ IsOwnBook mark s → IsReading fault ⊎ (fault ≡ OtherBook)

-- With status 0 the word was done, and what it says has that status and was printed on standard output, and nothing on standard error. With `--json` that is
-- a body as it came. So an act got 200. With another status, what the word says with a status that isn't 0, or why it wasn't done, is on standard error, and
-- nothing on standard output. If the stream failed, the status is 3, and a front of the text is there. Unless the book failed, the word entered what was typed
-- and nothing else, and left the book as `do_word` says. At another till's book, and for the other kind of book, it did nothing. After that some refused
-- entries may have been made sure of, and more may have been printed.
pub record IsPerformed {S : Type 0} (g : Ghosts S) (Exchanged Answers : List ℕ → Answer → Type 0) (Sure : State → State → Type 0) (shows : ℕ → Type 0)
    (wall : TimeZone) (offset : ℤ) (mark token : Text) (own : Option ℕ) (giver : Result ℕ TillFault) (json : Bool) (sheet : Text) (act : TillAct)
    (is_failed : Bool) (status : ℕ) (first final : Screen) (before after : Held S) : Type 0 where
  pub between : Held S
  pub does : status ≡ 0 → DoesWord Exchanged shows mark token giver sheet act (state g before) (state g between)
  pub says : status ≡ 0 → (text : Text)
      × SaysWord Exchanged Answers shows (IsOnWall wall offset) mark token giver json sheet act (state g before) (state g between) text 0
      × ShowsWord Exchanged shows wall offset own mark token json act (state g before) (state g between) text 0
      × Prints text first.output final.output
  pub quiet : status ≡ 0 → Keeps first.errors final.errors
  pub refuses : status ≢ 0 → Shows (λ text wanted.
      (IsFor own act
      × SaysWord Exchanged Answers shows (IsOnWall wall offset) mark token giver json sheet act (state g before) (state g between) text wanted
      × ShowsWord Exchanged shows wall offset own mark token json act (state g before) (state g between) text wanted)
      ⊎ ((fault : TillFault) × IsWordFault mark own act (state g before) fault × SaysFaultLine fault text wanted)) status first final
  pub repeats : status ≡ 0 → RepeatsWord Exchanged shows mark token own act (state g before) (state g between)
  pub kind : status ≡ 0 → IsFor own act
  pub others : ¬ IsFor own act → Stays (state g before) (state g between)
  pub untouched : EntersOrSends act → ¬ IsOwnBook mark (state g before) → Stays (state g before) (state g between)
  pub keeps : is_failed ≡ false → IsSome own → KeepsATillsBook Exchanged mark (state g before) (state g between)
  pub office : is_failed ≡ false → own ≡ None → KeepsABook Exchanged (state g before) (state g between)
  pub enters : is_failed ≡ false → EntersWord shows mark token giver sheet act (state g before) (state g between)
  pub sure : is_failed ≡ false → Sure (state g between) (state g after)

-- entries were made sure of over one way to the server or the other, and nothing else changed
abbrev pub MakesSure : (List ℕ → Answer → Type 0) → (List ℕ → Answer → Type 0) → State → State → Type 0
MakesSure One Other s t = EntersNothing One s t ⊎ EntersNothing Other s t

-- ---- a program's book

-- A reply came over some socket. Nothing is known of what sockets carry.
abbrev pub over_sockets : List ℕ → Answer → Type 0
over_sockets = IsExchanged {R = TcpStream} {W = TcpStream} (λ reader writer. ⊤) (λ reader. None) (λ writer. None)

-- so of a reply to a question that changes nothing
abbrev pub asked_over_sockets : List ℕ → Answer → Type 0
asked_over_sockets = IsAnswered {R = TcpStream} {W = TcpStream} (λ reader writer. ⊤) (λ reader. None) (λ writer. None)

-- The machine's clock showed that. Nothing is known of what it shows.
abbrev pub machine_shows : ℕ → Type 0
machine_shows seconds = ⊤

-- The word was performed at the book that has the settings, after a look at that book. There was some sheet, and some clock on the wall. Before the word a
-- question may have been printed. The word is given by the member of staff that is named, or else by the settings' own.
pub record IsPerformedFor {D : Type 0} {g : disk.Ghosts D} (settings : Settings) (json : Bool) (named : Option ℕ) (act : TillAct) (is_failed : Bool)
    (status : ℕ) (first final : Screen) (before after : Held (FileStore D g)) : Type 0 where
  pub looked : Held (FileStore D g)
  pub looks : Stays (file_state before) (file_state looked)
  pub sheet : Text
  pub wall : TimeZone
  pub asked : Option (List ℕ)
  pub grows : Grows first.output asked
  pub performs : IsPerformed over_files over_sockets asked_over_sockets (EntersNothing over_sockets) (local_clock machine_shows settings.zone)
      wall (offset_of settings.zone) settings.mark settings.token settings.staff (giver_of settings.staff named) json sheet act is_failed status
      (screen asked first.errors) final looked after

-- A word wasn't begun: a fault is printed, or that nothing was entered, or a window's question with status 5. Another question may have been printed before
-- it.
abbrev pub IsNotDone : ℕ → Screen → Screen → Type 0
IsNotDone status first final =
    (asked : Option (List ℕ)) × Grows first.output asked
    × (Shows SaysNotDone status (screen asked first.errors) final
    ⊎ ((status ≡ 5) × Grows asked final.output × Keeps first.errors final.errors))

-- The book stays, the status isn't 0, and that is printed, or the word was performed.
abbrev pub IsAttempted : {D : Type 0} {g : disk.Ghosts D} → Settings → Bool → Option ℕ → TillAct → Bool → ℕ → Screen → Screen
    → Held (FileStore D g) → Held (FileStore D g) → Type 0
IsAttempted settings json named act is_failed status first final before after =
    ((status ≢ 0) × IsNotDone status first final × Stays (file_state before) (file_state after))
    ⊎ IsPerformedFor settings json named act is_failed status first final before after

-- ---- the book that is held

-- the book was opened in some files, under that name
pub record IsOpened (name : Text) (book : OpenBook) : Type 0 where
  pub named : string_bytes book.tools.name ≡ name
  pub ended : book.conn.in_transaction ≡ false

-- it is the book that was held, if that has the name, or else it was opened
abbrev pub IsFound : Text → Option OpenBook → OpenBook → Type 0
IsFound name None book = IsOpened name book
IsFound name (Some before) book = (string_bytes before.tools.name ≡ name → book ≡ before) × (string_bytes before.tools.name ≢ name → IsOpened name book)

-- What is done to a book that was found. Either it is held after that, or it failed and was closed as it was last.
abbrev pub IsLeft : (Bool → OpenBook → OpenBook → Type 0) → OpenBook → Option OpenBook → Type 0
IsLeft Does found None = (last : OpenBook) × Does true found last
IsLeft Does found (Some after) = Does false found after

-- something is done at the book of that name: the held book is the first of the two, and the book that is held after that is the second
abbrev pub AtBook : (Bool → OpenBook → OpenBook → Type 0) → Text → Option OpenBook → Option OpenBook → Type 0
AtBook Does name held now = (found : OpenBook) × IsFound name held found × IsLeft Does found now

-- the book has the same tools; if the disk was honest, it was honest before, and the word was attempted
pub record IsAttemptedAt (json : Bool) (named : Option ℕ) (act : TillAct) (status : ℕ) (first final : Screen) (is_failed : Bool)
    (before after : OpenBook) : Type 0 where
  pub tools : after.tools ≡ before.tools
  pub clean : HasCleanDisk (file_state after.conn) → HasCleanDisk (file_state before.conn)
  pub attempts : HasCleanDisk (file_state after.conn)
      → IsAttempted before.tools.settings json named act is_failed status first final before.conn after.conn
