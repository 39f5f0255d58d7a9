-- The settlements of a till's entries, and the outcome of settled entries.
use Rattle.shop_model.proofs.Common.{◌≡◌, ◌≢◌, ◌∙◌, ℕ, List, [], ◌∷◌, ◌++◌, Ordering, is_gt, cond, true, false, sym, subst, AllByRecursion, Appends, Consumes}
use Rattle.shop_model.proofs.Common.{Command, Rules, Answer, Books}
use Rattle.sqlite_keyed.specs.Lists.{insert_sorted, sort_by}
use Rattle.shop_model.proofs.Resends.{same_some}
use Rattle.till_model.specs.Numbered.{has_mark}
use Rattle.till_model.specs.Settled.{WasToldLater, WereToldLater}
use Rattle.till_model.proofs.Numbered.{numbered_own}
use Rattle.till_model.proofs.Settled.{all_of, settled_for_good}
use Rattle.till_client.specs.Replies.{answer_bytes}
use Rattle.till_book.specs.Journal.{Journal, with_entry, with_settled}
use Rattle.till_book.specs.Read.{in_order}
use Rattle.till_book.specs.Saying.{Says}
use Rattle.till_work.specs.Settling.{OfEntry}
use Rattle.till_and_server.specs.Streams.{Streams}
use Rattle.till_and_server.specs.ServedLives.{ServedLife, lives_of}
use Rattle.till_and_server.specs.Lives.{WasRecorded, IsAnsweredBy, WereNoted}
use Rattle.till_and_server.specs.Laws.{SettlementsAreNoted, SettledTillAndServer}
use Rattle.till_and_server.proofs.Recorded.{still_at, was_recorded}
use Rattle.till_and_server.proofs.Witnesses.{said_at, decision, was_answered, are_witnesses}

-- ---- lists

all_push : {X : Type 0} (P : X → Type 0) (xs : List X) (x : X) → AllByRecursion P xs → P x → AllByRecursion P (xs ++ x ∷ [])
all_push P [] x all is = (is, tt)
all_push P (y ∷ ys) x all is = (all.0, all_push P ys x all.1 is)

all_inserted : {X : Type 0} (order : X → X → Ordering) (P : X → Type 0) (new : X) (xs : List X)
    → P new → AllByRecursion P xs → AllByRecursion P (insert_sorted order new xs)
all_inserted order P new [] is all = (is, tt)
all_inserted order P new (x ∷ xs) is all =
    elim (is_gt (order new x)) as (λ b. AllByRecursion P (cond b (x ∷ insert_sorted order new xs) (new ∷ x ∷ xs))) [
      | true ↦ (all.0, all_inserted order P new xs is all.1)
      | false ↦ (is, all)
    ]

all_sorted : {X : Type 0} (order : X → X → Ordering) (P : X → Type 0) (xs : List X) → AllByRecursion P xs → AllByRecursion P (sort_by order xs)
all_sorted order P [] all = tt
all_sorted order P (x ∷ xs) all = all_inserted order P x (sort_by order xs) all.0 (all_sorted order P xs all.1)

-- ---- settlements stay recorded

module _ (rules : Rules) (b : ℕ) (lives : List ServedLife) (old : Books) where
  abbrev WasNoted : Journal → ℕ × Answer → Type 0
  WasNoted journal it = OfEntry it.0 journal (λ request. WasRecorded rules b lives old request it.1)

  one_entry : (journal : Journal) (request : List ℕ) (it : ℕ × Answer) → WasNoted journal it → WasNoted (with_entry request journal) it
  one_entry journal request it was i is = let e = was i is in (e.0, still_at journal.entries (request ∷ []) i e.0 e.1, e.2)

  settles : (journal : Journal) (n : ℕ) (answer : Answer) (till : Streams) → WereNoted rules b lives old journal
      → OfEntry n journal (λ request. Appends till.output till.written request × IsAnsweredBy rules b lives old request answer till)
      → Consumes till.input till.left (answer_bytes answer) → answer.status ≢ 503 → WereNoted rules b lives old (with_settled n answer journal)
  settles journal n answer till were of_entry reads decided = all_push (WasNoted journal) journal.settled (n, answer) were (λ i is.
      let e = of_entry i is in
      (e.0, e.1, was_recorded rules b lives old e.0 answer till e.2.0 reads decided e.2.1))

pub are_noted : SettlementsAreNoted
are_noted rules b lives old = record {
  none = tt;
  enters = λ journal request were.
      all_of (WasNoted rules b lives old journal) (WasNoted rules b lives old (with_entry request journal))
      (one_entry rules b lives old journal request) journal.settled were;
  delivers = λ journal answer were. were;
  settles = settles rules b lives old;
  replies = λ journal n answer were. were;
}

-- ---- settlements are true at the branch

pub settled_to_disk : SettledTillAndServer
settled_to_disk mark rules look b journal commands lives old new lived numbers unused book come recorded were =
    let was : (it : ℕ × Answer) → WasNoted rules b lives old journal it → WasToldLater rules b commands (lives_of lives) old it = λ it of. record {
      answered = λ i command is at_command.
          let e = of i is in
          let s = said_at journal.entries commands i e.0 book.says e.1 in
          let same : s.command ≡ command = same_some s.command command (sym s.there ∙ at_command) in
          was_answered rules b lives old e.0 command it.1 (subst (λ (c : Command). Says e.0 c) same s.says) e.2;
      decided = λ i command is at_command. decision it.1 (of i is).2.decided;
    } in
    let each : WereToldLater rules b commands journal.settled (lives_of lives) old =
    all_of (WasNoted rules b lives old journal) (WasToldLater rules b commands (lives_of lives) old) was journal.settled were in
    settled_for_good.became (has_mark mark) rules look b commands journal.replies (in_order journal.settled) (lives_of lives) old new lived numbers unused
    (record {
      own = numbered_own mark commands journal.replies book.numbered;
      witnessed = are_witnesses mark rules b journal commands lives old book come recorded;
    })
    (all_sorted _ (WasToldLater rules b commands (lives_of lives) old) journal.settled each)
