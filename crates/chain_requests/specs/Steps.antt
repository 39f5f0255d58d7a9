-- The state that the transaction of a request leaves.
use Rattle.std.specs.Prelude.{◌≡◌, ◌⊎◌, ⊤, ℕ, if◌then◌else◌, List, Some}
use Rattle.sqlite_trees.specs.Tree.{Trees}
use Rattle.sqlite.specs.State.{State}
use Rattle.shop_types.specs.LimitValues.{Limits}
use Rattle.shop_model.specs.Rows.{lacks}
use Rattle.shop_model.specs.Refusals.{NoCounter, NoRoute}
use Rattle.shop_model.specs.Machine.{Request, Unread, Do, Look, Office, OfficeLook, Shown, Shows, Sorry}
use Rattle.shop_model.specs.Shop.{Catalogue}
use Rattle.shop_model.specs.Answers.{Answer, answer_of}
use Rattle.shop_model.specs.Books.{Books, Caller, Counter, HeadOffice, Nobody, caller_of}
use Rattle.shop_types.specs.Seen.{seen_request, seen_office}
use Rattle.chain_caches.specs.Films.{AreRows, KnownFilms}
use Rattle.shop_schema.specs.Held.{IsHeld}
use Rattle.shop_schema.specs.RowValues.{IsNumber, IsKey}
use Rattle.shop_schema.specs.Forms.{IsCommand, IsOfficeAct}
use Rattle.shop_schema.specs.Shop.{StandsFor, Holds}
use Rattle.branch_work.specs.Works.{told_to, left_by, IsDone}
use Rattle.branch_finds.specs.Looks.{IsKnown}
use Rattle.branch_finds.specs.declared.work.Work.{Work}
use Rattle.branch_finds.specs.declared.work.Work.TheVariants as work
use Rattle.chain_requests.specs.declared.asked.Asked.{Asked}
use Rattle.chain_requests.specs.declared.asked.Asked.TheVariants.{OfBranch, OfOffice}
use Rattle.chain_requests.specs.declared.reports.Report.{Report}
use Rattle.chain_requests.specs.Reports.{shown_by}
use Rattle.chain_requests.specs.Chains.{Rests}

-- ---- what is asked

-- who asks, and the request
abbrev pub asker : Asked → Caller
asker (OfBranch b is_known request) = Counter b
asker (OfOffice command) = HeadOffice

abbrev pub asked_of : Asked → Request
asked_of (OfBranch b is_known request) = seen_request request.now
asked_of (OfOffice command) = Office (seen_office command.now)

-- a caller whose number the tables can hold
abbrev pub IsAsker : Caller → Type 0
IsAsker (Counter b) = IsNumber b
IsAsker HeadOffice = ⊤
IsAsker Nobody = ⊤

-- a request whose values the tables can hold
abbrev pub IsAsked : Request → Type 0
IsAsked (Unread refusal) = ⊤
IsAsked (Do command) = IsCommand command
IsAsked (Look ask) = ⊤
IsAsked (Office command) = IsKey command.key × IsOfficeAct command.act
IsAsked (OfficeLook ask) = ⊤

-- ---- what is known before the request

-- if the asking branch is said to be known, it is in the catalogue
abbrev pub IsKnownFor : Asked → Catalogue → Type 0
IsKnownFor (OfBranch b is_known request) catalogue = IsKnown is_known b catalogue
IsKnownFor (OfOffice command) catalogue = ⊤

-- the tables can hold the books, `films` are rows of the books, and `Known` holds of their catalogue
abbrev pub IsHeldBy : (Catalogue → Type 0) → KnownFilms → Books → Type 0
IsHeldBy Known films books = IsHeld books × AreRows films books.catalogue.films × Known books.catalogue

-- ---- one request

-- the answer to a branch that asks what only head office may ask: it has no route, and a branch that isn't there has no counter
abbrev pub no_route : ℕ → Books → Answer
no_route b books = answer_of (Sorry (if lacks books.catalogue.branches b then NoCounter else NoRoute))

-- The result of the request: it is done, or it asks for a list, which is still to be shown and shows what the definitions show.
abbrev pub HasCome : {L : Type 0} → (L → Books → Shown) → Limits → Caller → Request → Work L → State → Books → Type 0
HasCome shown limits caller request (work.Answered it) new books = IsDone limits caller request it new books
HasCome shown limits caller request (work.Shows it) new books =
    (told_to limits caller request books ≡ answer_of (Shows (shown it books))) × (left_by limits caller request books ≡ books)

-- Inside the transaction the request is done, or it asks for a reading, which is shown later. If `Given` held of the books before it, the films that are known
-- after it are rows of the books after it.
abbrev pub DoesRequest : Limits → Caller → Request → (Books → Type 0) → KnownFilms → Work Report → State → State → Type 0
DoesRequest limits caller request Given after work old new =
    (books : Books) → Holds old books → Given books
    → HasCome shown_by limits caller request work new books × AreRows after (left_by limits caller request books).catalogue.films

-- the step is made
pub record IsMade (limits : Limits) (caller : Caller) (request : Request) (answer : Answer) (Given : Books → Type 0) (after : KnownFilms) (old new : State) :
    Type 0 where
  pub reply : (books : Books) → Rests old books → Given books → answer ≡ told_to limits caller request books
  pub books : (books : Books) → Rests old books → Given books → Rests new (left_by limits caller request books)
  pub films : (books : Books) → Rests old books → Given books → AreRows after (left_by limits caller request books).catalogue.films

-- nothing is done
abbrev pub IsUndone : State → State → Type 0
IsUndone old new = (books : Books) → Rests old books → IsHeld books → Rests new books

-- a crash leaves the books before the request or the books after it
abbrev pub LeavesEitherOf : Limits → Caller → Request → (Books → Type 0) → State → State → Type 0
LeavesEitherOf limits caller request Given old new =
    (books : Books) → Rests old books → Given books → (db : Trees) → new.may_leave db → StandsFor db books ⊎ StandsFor db (left_by limits caller request books)

-- what the commit of a request may leave on the disk
abbrev pub LeavesAfter : Limits → Caller → Request → (Books → Type 0) → State → Trees → Type 0
LeavesAfter limits caller request Given old db = (books : Books) → Rests old books → Given books → StandsFor db (left_by limits caller request books)

-- the caller has the token, in any books on which the connection rests
abbrev pub HasCaller : List ℕ → Caller → State → Type 0
HasCaller token caller s = (books : Books) → Rests s books → IsHeld books → caller ≡ caller_of (Some token) books.catalogue
