-- Defines what a branch's reading shows.
use Rattle.std.specs.Prelude.{◌≡◌, ⊤, ℕ, Bool, true, false, IsTrue, List, map, Result, Ok, Err, IfOk}
use Rattle.std.specs.Borrow.{MutBor}
use Rattle.sqlite_trees.specs.declared.store.Store.{Ghosts}
use Rattle.sqlite.specs.Held.{Held}
use Rattle.sqlite.specs.State.{State}
use Rattle.sql_rows.specs.Calls.{DoesInside, DoesWithin}
use Rattle.shop_model.specs.Rows.{lacks}
use Rattle.shop_model.specs.Values as model
use Rattle.shop_model.specs.Values.{Ask, Rules}
use Rattle.shop_model.specs.Shop.{Shop, Catalogue}
use Rattle.shop_model.specs.Stock.{film_in_stock, film_not_in_stock}
use Rattle.shop_model.specs.Views.{overdue_text, overdue_list, view_rows}
use Rattle.shop_model.specs.Machine.{Look, Shown, Shows, RowsAre, ArrivalsAre, SentAre}
use Rattle.shop_model.specs.Answers.{Answer, answer_of}
use Rattle.shop_model.specs.Books.{Books, Counter, shop_of, known_caller, reply_for}
use Rattle.shop_model.specs.Office.{office_look}
use Rattle.shop_types.specs.declared.reply.Reply.{Reply}
use Rattle.shop_types.specs.Seen.{seen_view}
use Rattle.shop_types.specs.Replies.{seen_reply}
use Rattle.shop_schema.specs.Asked.{HoldsBooks}
use Rattle.shop_ledger.specs.Asked.{HoldsBranch}
use Rattle.shop_ledger.specs.Calls.{Finds}
use Rattle.branch_reports.specs.Told.{IsDecision}
use Rattle.branch_reports.specs.Looked.{looked}
use Rattle.branch_finds.specs.declared.work.Work.{Work}
use Rattle.branch_finds.specs.declared.work.Work.TheVariants as work
use Rattle.branch_finds.specs.declared.work.Listing.{Listing}
use Rattle.branch_finds.specs.declared.work.Listing.TheVariants as list

-- ---- the result of a reading

-- the reading's answer reads a row, whatever it shows
abbrev pub reads_row : Ask → Bool
reads_row (model.Overdue at) = false
reads_row (model.Rewards at purchases cents) = false
reads_row model.Arrivals = false
reads_row model.SentOff = false
reads_row ask = true

-- A call that reads a row succeeds only in an open transaction. A call that may read no row doesn't show that the transaction was open.
abbrev pub DoesBy : {S X E : Type 0} → Bool → Ghosts S → MutBor (Held S) → MutBor (Held S) → Result X E → (X → State → State → Type 0) → Type 0
DoesBy true g old new result Says = DoesInside g old new result Says
DoesBy false g old new result Says = DoesWithin g old new result Says

-- what a list for the branch shows of the books
abbrev pub listed : ℕ → Listing → Books → Shown
listed b (list.View view) books = RowsAre (view_rows b books.catalogue (shop_of b books) (seen_view view))
listed b (list.Overdue at) books = RowsAre (map overdue_text (overdue_list books.catalogue (shop_of b books) at))
listed b list.Arrivals books = ArrivalsAre (shop_of b books).arrivals
listed b list.Sent books = SentAre (shop_of b books).sent

-- The work gives the answer, with nothing to commit, or it asks for the list that shows the answer.
abbrev pub Gives : Answer → ℕ → Work Listing → Books → Type 0
Gives answer b (work.Answered it) books = (seen_reply it.reply ≡ answer) × (it.is_changed ≡ false)
Gives answer b (work.Shows it) books = answer ≡ answer_of (Shows (listed b it books))

-- The reading is answered as the definitions say, with nothing to commit, or it asks for the list that the definitions show.
abbrev pub IsShown : ℕ → Ask → Work Listing → Books → Type 0
IsShown b ask it books = Gives (looked b ask books) b it books

-- the reading asks for a list, whose rows come one at a time outside the transaction
abbrev pub is_list : Ask → Bool
is_list (model.Overdue at) = true
is_list model.Arrivals = true
is_list model.SentOff = true
is_list (model.OneView view) = true
is_list ask = false

-- the work is answered, and has changed nothing
abbrev pub IsStill : {L : Type 0} → Work L → Type 0
IsStill (work.Answered it) = it.is_changed ≡ false
IsStill (work.Shows it) = ⊥

-- an answer is a decision, whatever the disk did
abbrev pub TellsDecision : {L : Type 0} → Work L → Type 0
TellsDecision (work.Answered it) = IsDecision (seen_reply it.reply)
TellsDecision (work.Shows it) = ⊤

-- A reading of a branch stays inside the transaction, and shows what the definitions show of the books. Its answer is a decision. If
-- it asks for no list, it is answered, and nothing is changed.
pub record LooksAt {S E : Type 0} (g : Ghosts S) (b : ℕ) (ask : Ask) (old new : MutBor (Held S)) (result : Result (Work Listing) E) : Type 0 where
  pub does : DoesBy (reads_row ask) g old new result (λ it. Finds (IsShown b ask it))
  pub decided : IfOk result TellsDecision
  pub still : is_list ask ≡ false → IfOk result IsStill

-- What the reading asks of the state before it, so that it fails only as the disk meets a fault. Rewards ask that the branch is there.
abbrev pub HoldsFor : ℕ → Ask → State → Type 0
HoldsFor b (model.Rewards at purchases cents) s = HoldsBranch b s
HoldsFor b ask s = HoldsBooks s

-- the work with the reply, which changes nothing
abbrev pub told_of : {E : Type 0} → Result Reply E → Result (Work Listing) E
told_of (Ok reply) = Ok (work.Answered (record { reply = reply; is_changed = false }))
told_of (Err fault) = Err fault

-- ---- a branch that may not be there

-- if the branch is known to be there, it is there
abbrev pub IsKnown : Bool → ℕ → Catalogue → Type 0
IsKnown is_known b catalogue = IsTrue is_known → lacks catalogue.branches b ≡ false

-- the answer to the reading of a branch, by the given rules
abbrev pub look_told : Rules → ℕ → Ask → Books → Answer
look_told rules b ask books = answer_of (reply_for rules office_look (known_caller books.catalogue (Counter b)) (Look ask) books)

-- the reading has its answer, whatever the rules are
abbrev pub IsAnswered : ℕ → Ask → Work Listing → Books → Type 0
IsAnswered b ask it books = (rules : Rules) → Gives (look_told rules b ask books) b it books

-- ---- the copies of a film

-- the reading that asks for a film's copies: the copies in stock, or the copies that aren't
abbrev pub stock_asked : Bool → ℕ → Ask
stock_asked true film = model.FilmInStock film
stock_asked false film = model.FilmNotInStock film

abbrev pub stock_listed : Bool → ℕ → Shop → List ℕ
stock_listed true film shop = film_in_stock film shop
stock_listed false film shop = film_not_in_stock film shop
