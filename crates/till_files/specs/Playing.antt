-- How the journal's replies and settlements are played, one after another, into the tables beside it.
use Rattle.std.specs.Prelude.{◌≡◌, ℕ, List, [], ◌∷◌, ◌++◌, length}
use Rattle.sqlite.specs.State.{State}
use Rattle.sql_rows.specs.Rows.{Differ}
use Rattle.sql_rows.specs.Books.{IsOf, IsKeyed}
use Rattle.shop_model.specs.Answers.{Answer}
use Rattle.till_book.specs.Tables.{book_schema}
use Rattle.till_book.specs.Journal.{Journal, AreMarked, settled_of}

abbrev pub journal_of : List (List ℕ) → List Answer → List (ℕ × Answer) → Journal
journal_of entries replies settled = record { entries = entries; replies = replies; settled = settled }

-- the journal's tables stay; the others fitted `was`, and now fit `now`
pub record HasMarkedTo (was now : Journal) (old new : State) : Type 0 where
  pub schema_is : IsOf book_schema new
  pub keyed : IsKeyed book_schema new
  pub entries : new.now.trees 0 ≡ old.now.trees 0
  pub replies : new.now.trees 2 ≡ old.now.trees 2
  pub settled : new.now.trees 4 ≡ old.now.trees 4
  pub marked : AreMarked old.now.trees was → AreMarked new.now.trees now

abbrev pub MarksTo : Journal → Journal → State → State → Type 0
MarksTo was now old new = IsOf book_schema old → IsKeyed book_schema old → HasMarkedTo was now old new

-- after so many replies one more is played
abbrev pub MarksReply : List (List ℕ) → ℕ → Answer → State → State → Type 0
MarksReply entries at answer old new =
    (replies : List Answer) → length replies ≡ at → MarksTo (journal_of entries replies []) (journal_of entries (replies ++ answer ∷ []) []) old new

abbrev pub MarksReplies : List (List ℕ) → List Answer → State → State → Type 0
MarksReplies entries replies = MarksTo (journal_of entries [] []) (journal_of entries replies [])

-- after some settlements one more is played, of an entry that isn't settled yet
abbrev pub MarksSettlement : List (List ℕ) → List Answer → ℕ × Answer → State → State → Type 0
MarksSettlement entries replies it old new =
    (settled : List (ℕ × Answer)) → settled_of it.0 settled ≡ []
    → MarksTo (journal_of entries replies settled) (journal_of entries replies (settled ++ it ∷ [])) old new

abbrev pub MarksSettlements : List (List ℕ) → List Answer → List (ℕ × Answer) → State → State → Type 0
MarksSettlements entries replies settled old new =
    Differ (λ (it : ℕ × Answer). it.0) settled → MarksTo (journal_of entries replies []) (journal_of entries replies settled) old new
