-- Head office's words: each is entered once every earlier entry has its reply, and a refused entry leaves its key to the next word.
use Rattle.std.specs.Prelude.{◌≡◌, ◌<◌, ◌≤◌, ◌+◌, ◌==◌, ◌||◌, ⊤, ℕ, Bool, true, if◌then◌else◌, List, [], ◌∷◌, ◌++◌, length, take, slice_get, Some, unwrap_or}
use Rattle.sqlite.specs.State.{State}
use Rattle.shop_model.specs.Values.{Text, OfficeCommand}
use Rattle.shop_model.specs.Refusals.{Decision, KeyUsed}
use Rattle.shop_model.specs.Answers.{Answer}
use Rattle.till_model.specs.Numbered.{key_of}
use Rattle.till_book.specs.Ends.{last_accepted}
use Rattle.till_book.specs.Journal.{Journal}
use Rattle.till_book.specs.Marks.{is_reply_to}
use Rattle.till_book.specs.Steps.{Rests}
use Rattle.till_requests.specs.Requests.{IsNoLine, SaysOffice, with_key}
use Rattle.till_work.specs.Desk.{HasPlace, Extends}
use Rattle.till_work.specs.declared.place.Place.{Place}

-- ---- keys

-- the entry was accepted, or another one was accepted under the same key
abbrev pub shows_used : Answer → Bool
shows_used answer = answer.status == 200 || is_reply_to (Decision KeyUsed) answer

-- the number in the next key after those replies; `n` is the number of the first of them, and `key` was the number in the next key before it
abbrev pub key_after : ℕ → ℕ → List Answer → ℕ
key_after key n [] = key
key_after key n (answer ∷ answers) = key_after (if shows_used answer then n + 1 else key) (n + 1) answers

-- The number in the next key. It is that of the entry after the last one whose key is used. So the entries that were refused since then have the same key.
abbrev pub open_key : List Answer → ℕ
open_key replies = key_after 1 1 replies

-- the number of the last entry that its reply accepted, or 0
abbrev pub last_number : Journal → ℕ
last_number journal = unwrap_or (last_accepted journal) 0

-- that is the number in the next key, in each journal that the book stands for
abbrev pub HasOpenKey : ℕ → State → Type 0
HasOpenKey n s = (journal : Journal) → Rests s journal → n ≡ open_key journal.replies

-- ---- entries

-- the request says the words, under the key with that number
abbrev pub SaysUnder : Text → Text → List Text → ℕ → List ℕ → Type 0
SaysUnder mark token words n request =
    (command : OfficeCommand) × SaysOffice request token (with_key (key_of mark n) words) command × (command.key ≡ key_of mark n)

-- under the till's first key the words are no line of head office
abbrev pub IsNoCommand : Text → List Text → Type 0
IsNoCommand mark words = IsNoLine (with_key (key_of mark 1) words)

-- The request was entered after so many entries, and each of them had its reply. It says the words under the key that was open then.
pub record IsInTurn (mark token : Text) (words : List Text) (replies : List Answer) (i : ℕ) (request : List ℕ) : Type 0 where
  pub answered : i ≤ length replies
  pub says : SaysUnder mark token words (open_key (take i replies)) request

-- so was each of the requests, one after another
abbrev pub AreInTurn : Text → Text → List Text → List Answer → ℕ → List (List ℕ) → Type 0
AreInTurn mark token words replies i [] = ⊤
AreInTurn mark token words replies i (request ∷ requests) =
    IsInTurn mark token words replies i request × AreInTurn mark token words replies (i + 1) requests

-- the reply to the entry at that place is that another command has its key; the first place is 0
abbrev pub IsUsedAt : List Answer → ℕ → Type 0
IsUsedAt replies i = (answer : Answer) × (slice_get replies i ≡ Some answer) × (is_reply_to (Decision KeyUsed) answer ≡ true)

-- Requests for the words were entered so, and nothing else. Each but the last got the reply that another command has its key.
pub record EntersInTurn (mark token : Text) (words : List Text) (old new : Journal) : Type 0 where
  pub requests : List (List ℕ)
  pub entries : new.entries ≡ old.entries ++ requests
  pub each : AreInTurn mark token words new.replies (length old.entries) requests
  pub again : (k : ℕ) → k + 1 < length requests → IsUsedAt new.replies (length old.entries + k)

-- so it was at a book with so many entries and replies
abbrev pub AddsInTurn : Text → Text → List Text → Place → State → Place → State → Type 0
AddsInTurn mark token words before old after new =
    (journal : Journal) → HasPlace before old journal → (next : Journal) × HasPlace after new next × EntersInTurn mark token words journal next

-- so it was at a book, whatever its entries say
abbrev pub AddsWords : Text → Text → List Text → State → State → Type 0
AddsWords mark token words old new = (journal : Journal) → Rests old journal → (next : Journal) × Rests new next × EntersInTurn mark token words journal next

-- ---- what is added, and what stays

-- a book that was that one and has what was in it; requests for the words were entered so, and nothing else
pub record HasTurn (Exchanged : List ℕ → Answer → Type 0) (mark token : Text) (words : List Text) (place : Place) (s : State) (old : Journal) : Type 0 where
  pub journal : Journal
  pub has : HasPlace place s journal
  pub extends : Extends Exchanged old journal
  pub turn : EntersInTurn mark token words old journal

abbrev pub GrowsInTurn : (List ℕ → Answer → Type 0) → Text → Text → List Text → Place → State → Place → State → Type 0
GrowsInTurn Exchanged mark token words before old after new = (journal : Journal) → HasPlace before old journal
    → HasTurn Exchanged mark token words after new journal

-- each request that was entered got the reply that another command has its key
abbrev pub HasUsedTurn : (List ℕ → Answer → Type 0) → Text → Text → List Text → Place → State → Journal → Type 0
HasUsedTurn Exchanged mark token words place s old =
    (it : HasTurn Exchanged mark token words place s old)
    × ((k : ℕ) → k < length it.turn.requests → IsUsedAt it.journal.replies (length old.entries + k))

abbrev pub GrowsUsed : (List ℕ → Answer → Type 0) → Text → Text → List Text → Place → State → Place → State → Type 0
GrowsUsed Exchanged mark token words before old after new = (journal : Journal) → HasPlace before old journal
    → HasUsedTurn Exchanged mark token words after new journal

-- a book that was that one and has what was in it; that request was entered, and got that reply
pub record HasGiven (Exchanged : List ℕ → Answer → Type 0) (request : List ℕ) (answer : Answer) (place : Place) (s : State) (old : Journal) : Type 0 where
  pub journal : Journal
  pub has : HasPlace place s journal
  pub extends : Extends Exchanged old journal
  pub entries : journal.entries ≡ old.entries ++ request ∷ []
  pub reply : slice_get journal.replies (length old.entries) ≡ Some answer

abbrev pub GivesOne : (List ℕ → Answer → Type 0) → List ℕ → Answer → Place → State → Place → State → Type 0
GivesOne Exchanged request answer before old after new = (journal : Journal) → HasPlace before old journal → HasGiven Exchanged request answer after new journal

-- Requests for the words were entered so, one at least, and the last of them got that reply.
pub record HasAnswered (Exchanged : List ℕ → Answer → Type 0) (mark token : Text) (words : List Text) (answer : Answer) (place : Place) (s : State)
    (old : Journal) : Type 0 where
  pub turn : HasTurn Exchanged mark token words place s old
  pub last : ℕ
  pub is_new : length old.entries ≤ last
  pub is_last : length turn.journal.entries ≡ last + 1
  pub reply : slice_get turn.journal.replies last ≡ Some answer

abbrev pub AnswersInTurn : (List ℕ → Answer → Type 0) → Text → Text → List Text → Answer → Place → State → Place → State → Type 0
AnswersInTurn Exchanged mark token words answer before old after new = (journal : Journal) → HasPlace before old journal
    → HasAnswered Exchanged mark token words answer after new journal
