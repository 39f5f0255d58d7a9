-- A till: its entries, the commands that its branch served, and how entries and served commands agree.
use Rattle.std.specs.Prelude.{◌≡◌, ℕ, ◌<◌, Bool, true, if◌then◌else◌, List, [], ◌∷◌, ◌++◌, slice_get, Option, Some}
use Rattle.std.specs.List.{list_all}
use Rattle.std.specs.Str.{bytes_eq}
use Rattle.shop_model.specs.Calendar.{is_earlier}
use Rattle.shop_model.specs.Values.{Text, Command, Rules}
use Rattle.shop_model.specs.Links.{are_different}
use Rattle.shop_model.specs.Machine.{Do, Reply, Input, Own, State, reply_to, moved}
use Rattle.shop_model.specs.Answers.{Answer, answer_of}

-- a command as it was entered, and its reply as the till read it, if the till read one
pub record Entry : Type 0 where
  pub command : Command
  pub reply : Option Answer

-- a command that the branch served, and the branch's reply
pub record Served : Type 0 where
  pub command : Command
  pub reply : Reply

-- ---- the commands under the till's mark that a branch served, in order; the test `has_mark` decides whether a key has the mark

abbrev pub served_by : (Text → Bool) → Rules → ℕ → Input → State → List Served
served_by has_mark rules b (Own (Do command)) s =
    if has_mark command.key then record { command = command; reply = reply_to rules b s.catalogue s.shop (Do command) } ∷ [] else []
served_by has_mark rules b input s = []

abbrev pub served_in : (Text → Bool) → Rules → ℕ → List Input → State → List Served
served_in has_mark rules b [] s = []
served_in has_mark rules b (input ∷ inputs) s = served_by has_mark rules b input s ++ served_in has_mark rules b inputs (moved rules b input s)

-- ---- what the till ensures

-- each key has the till's mark
abbrev pub are_marked : (Text → Bool) → List Entry → Bool
are_marked has_mark entries = list_all (λ (entry : Entry). has_mark entry.command.key) entries

-- no two entries have the same key
abbrev pub have_own_keys : List Entry → Bool
have_own_keys entries = are_different (λ (earlier later : Entry). bytes_eq earlier.command.key later.command.key) entries

-- every command that is served under the mark is an entry's
abbrev pub ComeFrom : List Entry → List Served → Type 0
ComeFrom entries served =
    (n : ℕ) (it : Served) → slice_get served n ≡ Some it → (i : ℕ) × (entry : Entry) × (slice_get entries i ≡ Some entry) × (entry.command ≡ it.command)

-- If an entry is served after a later entry, then its moment is earlier than the later entry's.
-- This holds if the till sends each entry after the reply to the entry before, and no command arrives late. It also holds if moments rise from entry to entry.
abbrev pub ComeInOrder : List Entry → List Served → Type 0
ComeInOrder entries served =
    (i j m n : ℕ) (earlier later : Entry) (first second : Served) → i < j → slice_get entries i ≡ Some earlier → slice_get entries j ≡ Some later → m < n
    → slice_get served m ≡ Some first → first.command ≡ later.command → slice_get served n ≡ Some second → second.command ≡ earlier.command
    → is_earlier earlier.command.moment later.command.moment ≡ true

-- a reply in the book is one that the branch gave to that entry
abbrev pub WereTold : List Entry → List Served → Type 0
WereTold entries served =
    (i : ℕ) (entry : Entry) (answer : Answer) → slice_get entries i ≡ Some entry → entry.reply ≡ Some answer
    → (n : ℕ) × (it : Served) × (slice_get served n ≡ Some it) × (it.command ≡ entry.command) × (answer ≡ answer_of it.reply)

-- the entries are the till's book of what was served
pub record IsBookOf (has_mark : Text → Bool) (entries : List Entry) (served : List Served) : Type 0 where
  pub marked : are_marked has_mark entries ≡ true
  pub keys : have_own_keys entries ≡ true
  pub come : ComeFrom entries served
  pub order : ComeInOrder entries served
  pub told : WereTold entries served
