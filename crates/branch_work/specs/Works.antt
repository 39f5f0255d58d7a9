-- Defines what a request does inside one transaction, whoever asks it.
use Rattle.std.specs.Prelude.{◌≡◌, ℕ, false}
use Rattle.sqlite.specs.State.{State}
use Rattle.shop_types.specs.LimitValues.{Limits}
use Rattle.shop_model.specs.Rows.{lacks}
use Rattle.shop_model.specs.Values.{Text, Command}
use Rattle.shop_model.specs.Verdict.{Verdict}
use Rattle.shop_model.specs.Machine.{Request, Do, Done, reply_text, reply_by, if_accepted}
use Rattle.shop_model.specs.Answers.{Answer, answer_of}
use Rattle.shop_model.specs.Books.{Books, Caller, Counter, shop_of, book_done, known_caller, reply_for, after_for}
use Rattle.shop_model.specs.Office.{office_look}
use Rattle.shop_types.specs.Replies.{seen_reply}
use Rattle.chain_caches.specs.Films.{AreRows, KnownFilms}
use Rattle.shop_schema.specs.Held.{IsHeld}
use Rattle.shop_schema.specs.Shop.{Holds}
use Rattle.shop_ledger.specs.declared.answered.Answered.{Answered}
use Rattle.shop_ledger.specs.declared.branches.Standing.{Standing}
use Rattle.shop_ledger.specs.Standings.{HasStanding}
use Rattle.branch_core.specs.Agreed.{Agrees, ActAgrees}
use Rattle.branch_core.specs.Marked.{AreMarked}
use Rattle.branch_core.specs.declared.found.Found.{Found}
use Rattle.branch_core.specs.declared.found.RowsFound.{RowsFound}
use Rattle.branch_work.specs.Rules.{rules_of}

-- the answer to a caller's request, and the books after it
abbrev pub told_to : Limits → Caller → Request → Books → Answer
told_to limits caller request books = answer_of (reply_for (rules_of limits) office_look (known_caller books.catalogue caller) request books)

abbrev pub left_by : Limits → Caller → Request → Books → Books
left_by limits caller request books = after_for (rules_of limits) (known_caller books.catalogue caller) request books

-- books that the tables can hold, and known films that are rows of the books
abbrev pub IsHeldWith : KnownFilms → Books → Type 0
IsHeldWith films books = IsHeld books × AreRows films books.catalogue.films

-- The request is answered, and afterwards the tables hold the books after it. `is_changed` says whether there is anything to commit.
pub record IsDone (limits : Limits) (caller : Caller) (request : Request) (it : Answered) (new : State) (books : Books) : Type 0 where
  pub reply : seen_reply it.reply ≡ told_to limits caller request books
  pub holds : Holds new (left_by limits caller request books)
  pub same : it.is_changed ≡ false → left_by limits caller request books ≡ books

abbrev pub Does : Limits → Caller → Request → Answered → State → State → Type 0
Does limits caller request it old new = (books : Books) → Holds old books → IsHeld books → IsDone limits caller request it new books

-- The answer and the books depend on the verdict. If the command is accepted, they are the given text and the books `done`.
pub record GoesBy (limits : Limits) (caller : Caller) (request : Request) (verdict : Verdict) (text : Text) (done books : Books) : Type 0 where
  pub told : told_to limits caller request books ≡ answer_of (reply_by verdict text)
  pub left : left_by limits caller request books ≡ if_accepted verdict done books

-- The request of a branch that may not be there is done, and the films that are known afterwards are rows of the same books.
abbrev pub Works : Limits → ℕ → Request → KnownFilms → KnownFilms → Answered → State → State → Type 0
Works limits b request before after it old new =
    (books : Books) → Holds old books → IsHeldWith before books → IsDone limits (Counter b) request it new books × AreRows after books.catalogue.films

-- the same for a branch that is there and has this standing
abbrev pub WorksFor : Limits → ℕ → Standing → Request → KnownFilms → KnownFilms → Answered → State → State → Type 0
WorksFor limits b standing request before after it old new =
    (books : Books) → Holds old books → IsHeldWith before books → HasStanding b books standing
    → IsDone limits (Counter b) request it new books × AreRows after books.catalogue.films

-- the same for a branch that is there, if this was found for the decision
abbrev pub WorksBy : Limits → ℕ → Command → Found → Answered → State → State → Type 0
WorksBy limits b command found it old new =
    (books : Books) → Holds old books → IsHeld books → lacks books.catalogue.branches b ≡ false
    → Agrees (rules_of limits) books.catalogue (shop_of b books) command found
    → AreMarked b command.act found.rows books → IsDone limits (Counter b) (Do command) it new books

-- afterwards the tables hold the books after the accepted command, and the reply is the reply to the command
abbrev pub IsAdded : Limits → ℕ → Command → RowsFound → Answer → State → State → Type 0
IsAdded limits b command rows answer old new =
    (books : Books) → Holds old books → IsHeld books
    → ActAgrees (rules_of limits) books.catalogue (shop_of b books) command.moment command.act rows → AreMarked b command.act rows books
    → Holds new (book_done (rules_of limits) b command books) × (answer ≡ answer_of (Done (reply_text (rules_of limits) command (shop_of b books))))
