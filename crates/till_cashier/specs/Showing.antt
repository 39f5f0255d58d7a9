-- What is printed of the words that show the book, and of what they entered or sent.
use Rattle.std.specs.Prelude.{◌≡◌, ◌==◌, ◌⊎◌, ⊤, ℕ, ℤ, if◌then◌else◌, Bool, false, List, [], ◌++◌, length, Option, codes}
use Rattle.sqlite.specs.State.{State}
use Rattle.jiff_tz.specs.declared.timezone.TimeZone.{TimeZone}
use Rattle.shop_model.specs.Answers.{Answer}
use Rattle.shop_model.specs.Values.{Text, Command}
use Rattle.till_book.specs.Journal.{Journal}
use Rattle.till_book.specs.Steps.{Rests, Stays}
use Rattle.till_requests.specs.Requests.{is_reading}
use Rattle.till_shows.specs.Slips.{last_slip}
use Rattle.till_work.specs.Desk.{IsAt, Extends}
use Rattle.till_work.specs.Entering.{IsTillsBook}
use Rattle.till_work.specs.declared.place.Place.{Place}
use Rattle.till_words.specs.declared.words.TillAct.{TillAct}
use Rattle.till_words.specs.declared.words.TillAct.TheVariants as typed
use Rattle.till_cashier.specs.declared.word.Plan.{Plan}
use Rattle.till_cashier.specs.declared.word.Plan.TheVariants as plan
use Rattle.till_cashier.specs.Again.{AreLeftIn, GivesLeft}
use Rattle.till_cashier.specs.Faults.{SaysFault}
use Rattle.till_cashier.specs.Following.{AddsWaited}
use Rattle.till_cashier.specs.Listing.{OfBook, OfEach, ShowsEntries, ShowsLast, ShowsSent, ShowsWaiting}
use Rattle.till_cashier.specs.Office.{AnswersInTurn, HasAnswered, IsNoCommand}
use Rattle.till_cashier.specs.Saying.{SaysOfficeAnswer, ended, status_of}
use Rattle.till_cashier.specs.Today.{SaysToday}
use Rattle.till_cashier.specs.Word.{IsPlaceOf}

-- ---- head office's words that were entered

-- The answer, the outcomes of what had waited, and which earlier entry was done after all.
pub record SaysTurn (json : Bool) (answer : Answer) (text : Text) (status : ℕ) : Type 0 where
  pub said : Text
  pub says : SaysOfficeAnswer json answer said
  pub behind : Text
  pub waited : AddsWaited said behind
  pub more : Text
  pub whole : text ≡ behind ++ more
  pub done : status ≡ status_of answer.status

-- The words were entered in turn, and the reply to the last of their entries is printed, also if it refuses. Or it says a fault. Or the words are no command,
-- and it says how words are given, with status 2.
abbrev pub SaysInTurn : (List ℕ → Answer → Type 0) → Text → Text → Bool → List Text → Place → State → Place → State → Text → ℕ → Type 0
SaysInTurn Exchanged mark token json words before old after new text status =
    ((status ≡ 2) × IsNoCommand mark words)
    ⊎ (SaysFault text status
    ⊎ ((answer : Answer) × AnswersInTurn Exchanged mark token words answer before old after new × SaysTurn json answer text status))

-- so of a book
abbrev pub SaysEntered : (List ℕ → Answer → Type 0) → Text → Text → Bool → List Text → State → State → Text → ℕ → Type 0
SaysEntered Exchanged mark token json words old new text status =
    ((status ≡ 2) × IsNoCommand mark words)
    ⊎ (SaysFault text status
    ⊎ ((answer : Answer) × OfEach old (λ journal. (place : Place) × HasAnswered Exchanged mark token words answer place new journal)
    × SaysTurn json answer text status))

-- ---- acts that were given once more

-- something may have been added to the text, but nothing if the status is 0
abbrev pub AddsMore : Text → Text → ℕ → Type 0
AddsMore old new status = (more : Text) × (new ≡ old ++ more) × (status ≡ 0 → more ≡ [])

-- nothing is to be entered again, or the status is 1: what is left out is printed
abbrev pub SaysNothing : Text → ℕ → Type 0
SaysNothing text status = ((text ≡ ended (codes "nothing is to be entered again")) × (status ≡ 0)) ⊎ (status ≡ 1)

-- A till's book that was that one, and goes on. Its entries that had waited, and those that were entered, are shown. Below them may be what was left out, and
-- a fault.
pub record ShowsAgain (Exchanged : List ℕ → Answer → Type 0) (wall : TimeZone) (offset : ℤ) (own : Option ℕ) (mark : Text) (place : Place) (s : State)
    (old : Journal) (text : Text) (status : ℕ) : Type 0 where
  pub journal : Journal
  pub commands : List Command
  pub is_at : IsAt mark place s journal commands
  pub extends : Extends Exchanged old journal
  pub table : Text
  pub shows : ShowsEntries wall offset own [] (length old.replies) journal table
  pub more : AddsMore table text status

-- The book stays and there is nothing to enter, or what was sent and entered is shown. With status 0 nothing is left: all that was refused for its moment,
-- and not repeated, was given.
abbrev pub SaysAgain : (List ℕ → Answer → Type 0) → (ℕ → Type 0) → TimeZone → ℤ → Option ℕ → Text → Text → Place → State → Place → State → Text → ℕ → Type 0
SaysAgain Exchanged shows wall offset own mark token before old after new text status =
    (Stays old new × SaysNothing text status × (status ≡ 0 → AreLeftIn old []))
    ⊎ ((status ≡ 0 → GivesLeft Exchanged shows mark token own before old after new)
    × ((journal : Journal) (commands : List Command) → IsAt mark before old journal commands
    → ShowsAgain Exchanged wall offset own mark after new journal text status))

-- so of a book
abbrev pub RepeatsSaying : (List ℕ → Answer → Type 0) → (ℕ → Type 0) → TimeZone → ℤ → Option ℕ → Text → Text → State → State → Text → ℕ → Type 0
RepeatsSaying Exchanged shows wall offset own mark token old new text status =
    (Stays old new × SaysNothing text status × (status ≡ 0 → AreLeftIn old []))
    ⊎ ((status ≡ 0 → (before after : Place) × IsPlaceOf before old × GivesLeft Exchanged shows mark token own before old after new)
    × ((journal : Journal) (commands : List Command) → Rests old journal → IsTillsBook mark journal commands
    → (place : Place) × ShowsAgain Exchanged wall offset own mark place new journal text status))

-- ---- slips

-- the last whole slip of some text of slips, or nothing
abbrev pub IsLastSlip : Text → Type 0
IsLastSlip slip = (written : Text) × (slip ≡ last_slip written)

abbrev pub slip_or_none : Text → Text
slip_or_none slip = if length slip == 0 then ended (codes "no slip was written yet") else ended slip

abbrev pub unread_text : Text
unread_text = ended (codes "The slips can't be read. What was done is in the book: last.")

-- Of what was written as slips nothing is known.
abbrev pub SaysSlip : Text → ℕ → Type 0
SaysSlip text status =
    ((slip : Text) × IsLastSlip slip × (text ≡ slip_or_none slip) × (status ≡ 0)) ⊎ ((text ≡ unread_text) × (status ≡ 3))

-- ---- all words

-- What a plan prints of the book. Of what other plans print `SaysPlan` says more.
abbrev pub ShowsPlan : (List ℕ → Answer → Type 0) → (ℕ → Type 0) → TimeZone → ℤ → Option ℕ
    → Text → Text → Bool → Plan → Place → State → Place → State → Text → ℕ → Type 0
ShowsPlan Exchanged shows wall offset own mark token json (plan.Give what customer) before old after new text status = ⊤
ShowsPlan Exchanged shows wall offset own mark token json (plan.Office words) before old after new text status =
    SaysInTurn Exchanged mark token json words before old after new text status
ShowsPlan Exchanged shows wall offset own mark token json plan.Send before old after new text status =
    (status ≡ 0) × OfBook before old (λ journal. ShowsSent Exchanged wall offset own journal new text)
ShowsPlan Exchanged shows wall offset own mark token json (plan.Look look) before old after new text status = ⊤
ShowsPlan Exchanged shows wall offset own mark token json (plan.ReadOffice words) before old after new text status = ⊤
ShowsPlan Exchanged shows wall offset own mark token json plan.Waiting before old after new text status =
    (status ≡ 0) × OfBook before old (λ journal. ShowsWaiting wall offset own journal text)
ShowsPlan Exchanged shows wall offset own mark token json (plan.Last count) before old after new text status =
    (status ≡ 0) × OfBook before old (λ journal. ShowsLast wall offset own count journal text)
ShowsPlan Exchanged shows wall offset own mark token json (plan.Day asked) before old after new text status = ⊤
ShowsPlan Exchanged shows wall offset own mark token json (plan.Today date) before old after new text status =
    (status ≡ 0) × SaysToday shows wall offset text
ShowsPlan Exchanged shows wall offset own mark token json (plan.Again late) before old after new text status =
    SaysAgain Exchanged shows wall offset own mark token before old after new text status
ShowsPlan Exchanged shows wall offset own mark token json plan.Slip before old after new text status = SaysSlip text status
ShowsPlan Exchanged shows wall offset own mark token json plan.Usage before old after new text status = ⊤

-- What is printed of the words that show the book. After `waiting` the entries without a reply are shown, and after `last` the last ones. After `send` those
-- that
-- waited are shown with their replies, and after `again` those too that were entered. Of head office's words that are entered it is the reply to the last of
-- their entries. `today` prints a date that the clock on the wall showed, and `slip` the last of some slips. Of other words `SaysWord` says more.
abbrev pub ShowsWord : (List ℕ → Answer → Type 0) → (ℕ → Type 0) → TimeZone → ℤ → Option ℕ → Text → Text → Bool → TillAct → State → State → Text → ℕ → Type 0
ShowsWord Exchanged shows wall offset own mark token json (typed.Do what) old new text status = ⊤
ShowsWord Exchanged shows wall offset own mark token json (typed.ReturnCopy copy) old new text status = ⊤
ShowsWord Exchanged shows wall offset own mark token json (typed.Office words) old new text status =
    is_reading words ≡ false → SaysEntered Exchanged mark token json words old new text status
ShowsWord Exchanged shows wall offset own mark token json typed.Send old new text status =
    (status ≡ 0) × OfEach old (λ journal. ShowsSent Exchanged wall offset own journal new text)
ShowsWord Exchanged shows wall offset own mark token json (typed.Look look) old new text status = ⊤
ShowsWord Exchanged shows wall offset own mark token json typed.Waiting old new text status =
    (status ≡ 0) × OfEach old (λ journal. ShowsWaiting wall offset own journal text)
ShowsWord Exchanged shows wall offset own mark token json (typed.Last count) old new text status =
    (status ≡ 0) × OfEach old (λ journal. ShowsLast wall offset own count journal text)
ShowsWord Exchanged shows wall offset own mark token json (typed.Day asked) old new text status = ⊤
ShowsWord Exchanged shows wall offset own mark token json (typed.Today date) old new text status = (status ≡ 0) × SaysToday shows wall offset text
ShowsWord Exchanged shows wall offset own mark token json (typed.Again late) old new text status =
    RepeatsSaying Exchanged shows wall offset own mark token old new text status
ShowsWord Exchanged shows wall offset own mark token json typed.Slip old new text status = SaysSlip text status
ShowsWord Exchanged shows wall offset own mark token json typed.Help old new text status = ⊤
ShowsWord Exchanged shows wall offset own mark token json (typed.Zone name) old new text status = ⊤
ShowsWord Exchanged shows wall offset own mark token json (typed.Init beginning) old new text status = ⊤
ShowsWord Exchanged shows wall offset own mark token json (typed.Import file lot) old new text status = ⊤
ShowsWord Exchanged shows wall offset own mark token json (typed.JoinIn who) old new text status = ⊤
ShowsWord Exchanged shows wall offset own mark token json typed.Prompt old new text status = ⊤
