-- Settlements, which are the replies to entries that were sent once more, and the outcome of settled entries.
use Rattle.std.specs.Prelude.{◌≡◌, ◌==◌, ◌&&◌, ◌+◌, ◌++◌, ℕ, Bool, true, false, if◌then◌else◌, List, [], ◌∷◌, map, slice_get, Option, Some, None}
use Rattle.std.specs.List.{AllByRecursion}
use Rattle.shop_model.specs.Rows.{numbered}
use Rattle.shop_model.specs.Values.{Text, Command, OfficeAsk, Rules}
use Rattle.shop_model.specs.Refusals.{MomentBack}
use Rattle.shop_model.specs.Shop.{Shop}
use Rattle.shop_model.specs.Machine.{Sorry, Done, Reply}
use Rattle.shop_model.specs.Answers.{Answer, answer_of}
use Rattle.shop_model.specs.Books.{Books, shop_of}
use Rattle.shop_model.specs.Sound.{HasNumbers}
use Rattle.shop_model.specs.Histories.{is_decided}
use Rattle.shop_model.specs.Stops.{Life, Lives}
use Rattle.till_model.specs.Tills.{Entry, Served}
use Rattle.till_model.specs.Outcomes.{IsUnused, IsKeptAs, Became, is_kept}
use Rattle.till_model.specs.Laws.{entries_of, served_over, WasAnswered, KeepsBook}

-- ---- the book's entries; a settlement is the number of an entry with the reply to its retry

-- the first settlement of the entry of that number that is a 200
abbrev pub accepted_of : ℕ → List (ℕ × Answer) → Option Answer
accepted_of n [] = None
accepted_of n (it ∷ settled) = if it.0 == n && it.1.status == 200 then Some it.1 else accepted_of n settled

abbrev pub or_reply : Option Answer → Option Answer → Option Answer
or_reply None reply = reply
or_reply (Some answer) reply = Some answer

abbrev pub settled_entry : List (ℕ × Answer) → ℕ × Entry → Entry
settled_entry settled it = record { command = it.1.command; reply = or_reply (accepted_of it.0 settled) it.1.reply }

-- the entries of a book with their recorded replies; if the retry of an entry got 200, then that 200 is the entry's reply
abbrev pub book_entries : List Command → List Answer → List (ℕ × Answer) → List Entry
book_entries commands replies settled = map (settled_entry settled) (numbered (entries_of commands replies))

-- ---- the source of settlements

-- `IsSo` holds for the command of that number, if there is one
abbrev pub OfCommand : ℕ → List Command → (Command → Type 0) → Type 0
OfCommand n commands IsSo = (i : ℕ) (command : Command) → n ≡ i + 1 → slice_get commands i ≡ Some command → IsSo command

-- The settlement is a decision that the chain gave, in some life, to the very command of that number.
pub record WasToldLater (rules : Rules) (b : ℕ) (commands : List Command) (lives : List Life) (old : Books) (it : ℕ × Answer) : Type 0 where
  pub answered : OfCommand it.0 commands (λ command. WasAnswered rules b lives old command it.1)
  pub decided : OfCommand it.0 commands (λ _. is_decided it.1 ≡ true)

abbrev pub WereToldLater : Rules → ℕ → List Command → List (ℕ × Answer) → List Life → Books → Type 0
WereToldLater rules b commands settled lives old = AllByRecursion (WasToldLater rules b commands lives old) settled

-- ---- the outcome of the entries

-- If the settlement is 200, the entry has acted once, and is kept with exactly that reply.
-- If the settlement is `moment_back`, the entry has not acted, whatever the branch got after that.
pub record SettlesIt (commands : List Command) (shop : Shop) (it : ℕ × Answer) : Type 0 where
  pub acted : it.1.status ≡ 200 → OfCommand it.0 commands (λ command. (text : Text) × (it.1 ≡ answer_of (Done text)) × IsKeptAs command text shop)
  pub never : it.1 ≡ answer_of (Sorry MomentBack) → OfCommand it.0 commands (λ command. is_kept command.key shop ≡ false)

-- The branch keeps, under the till's mark, exactly the entries that acted, also if an entry's reply is the 200 that settled it.
-- Each settlement is true of its entry.
pub record BecameSettled (has_mark : Text → Bool) (commands : List Command) (replies : List Answer)
    (settled : List (ℕ × Answer)) (served : List Served) (shop : Shop) :
    Type 0 where
  pub became : Became has_mark (book_entries commands replies settled) served shop
  pub settles : AllByRecursion (SettlesIt commands shop) settled

-- Each settlement that the chain gave in one of its lives is true after all these lives (`became`). The premise stays true as the chain lives on (`stays`).
-- So an entry that is settled with 200 has acted permanently. An entry that is settled with `moment_back` never acts, also when a command arrives late.
pub record SettledForGood : Type 0 where
  pub became :
      (has_mark : Text → Bool) (rules : Rules) (look : OfficeAsk → Books → Reply) (b : ℕ)
      (commands : List Command) (replies : List Answer) (settled : List (ℕ × Answer))
      (lives : List Life) (old new : Books) → Lives rules look lives old new → HasNumbers old → IsUnused has_mark (shop_of b old)
      → KeepsBook has_mark rules b commands replies lives old → WereToldLater rules b commands settled lives old
      → BecameSettled has_mark commands replies settled (served_over has_mark rules b lives old) (shop_of b new)
  pub stays : (rules : Rules) (b : ℕ) (commands : List Command) (settled : List (ℕ × Answer)) (lives more : List Life) (old : Books)
      → WereToldLater rules b commands settled lives old
      → WereToldLater rules b commands settled (lives ++ more) old
