-- What a reply means to the tables beside the journal.
use Rattle.std.specs.Prelude.{◌≡◌, ℕ, Bool, if◌then◌else◌, List, [], ◌∷◌, Some}
use Rattle.shop_model.specs.Values.{Act, Command}
use Rattle.shop_model.specs.Answers.{Answer}
use Rattle.till_book.specs.Saying.{Says}
use Rattle.till_book.specs.Marks.{rents_told, returns_told, is_unsure}
use Rattle.till_book.specs.Statements.{rents_marked, returns_marked, unsure_marked}
use Rattle.till_book.specs.declared.marks.EntryMark.{EntryMark}

-- the mark is what the act and its reply mean
pub record AreMarked (act : Act) (answer : Answer) (mark : EntryMark) : Type 0 where
  pub rents : (n : ℕ) → rents_marked n mark ≡ rents_told n act (Some answer)
  pub returns : (n : ℕ) → returns_marked n mark ≡ returns_told n act (Some answer)
  pub sure : (n : ℕ) → unsure_marked n mark ≡ []

-- If the request says a command, the mark is what the command and its reply mean. `doubt` says whether the mark is unsure.
pub record IsMarkOf (request : List ℕ) (answer : Answer) (doubt : Bool) (mark : EntryMark) : Type 0 where
  pub rents : (command : Command) → Says request command → (n : ℕ) → rents_marked n mark ≡ rents_told n command.act (Some answer)
  pub returns : (command : Command) → Says request command → (n : ℕ) → returns_marked n mark ≡ returns_told n command.act (Some answer)
  pub unsure : (n : ℕ) → unsure_marked n mark ≡ (if doubt then n ∷ [] else [])

-- the mark of a reply as it is recorded
abbrev pub IsReplyMark : List ℕ → Answer → EntryMark → Type 0
IsReplyMark request answer mark = IsMarkOf request answer (is_unsure answer) mark
