-- Tries of an act. Each but the last was refused for its moment.
use Rattle.std.proofs.Common.{◌≡◌, ◌∙◌, ◌+◌, ◌≤◌, ◌++◌, ◌∷◌, [], ℕ, List, Result, Ok, Err, length, inr, sym, ap, refl, arith}
use Rattle.std.proofs.Common.{append_assoc, length-append}
use Rattle.std.specs.List.{AllByRecursion}
use Rattle.sqlite.specs.State.{State}
use Rattle.shop_model.specs.Values.{Text, Act, Command}
use Rattle.shop_model.specs.Answers.{Answer}
use Rattle.till_book.specs.Journal.{Journal}
use Rattle.till_work.specs.declared.place.Place.{Place}
use Rattle.till_work.proofs.GoingOn.{place_of, at_place, more_then}
use Rattle.till_cashier.specs.declared.fault.TillFault.{TillFault}
use Rattle.till_cashier.specs.Giving.{AreTries, IsTried, IsBack, AreRefused, Gives}
use Rattle.till_cashier.specs.Adding.{AreTriesBy, HasTries, AddsTries, AddsOneTry}
use Rattle.till_cashier.proofs.Adding.{by_then, adds_nothing}
use Rattle.till_cashier.proofs.Giving.{SoFar, all_then}

-- each entry that was added has a reply at its own place, which refused it for its moment
abbrev pub AreAllRefused : List (List ℕ) → List Answer → List (List ℕ) → Type 0
AreAllRefused entries replies added =
    (earlier backs : List Answer) × (replies ≡ earlier ++ backs) × (length earlier ≡ length entries) × (length backs ≡ length added)
    × AllByRecursion IsBack backs

-- one entry more, or none
pub refused_then : (entries : List (List ℕ)) (mid last more : List Answer) (xs ys : List (List ℕ)) → AreAllRefused entries mid xs → last ≡ mid ++ more
    → length ys ≤ 1 → AreRefused entries last (xs ++ ys)
refused_then entries mid last more xs ys all grown few =
    let long : length (xs ++ ys) ≡ length xs + length ys = length-append xs ys in
    let counted : length all.1 ≡ length xs = all.4 in
    inr (all.0, all.1, more, grown ∙ ap (λ (r : List Answer). r ++ more) all.2, all.3, omega arith, all.5)

module _ (Exchanged : List ℕ → Answer → Type 0) (shows : ℕ → Type 0) (mark token : Text) (staff : ℕ) (act : Act) (backs : List Answer) (answer : Answer)
    (place : Place) (s : State) (old : Journal) (said : List Command) where
  -- each try but the last
  pub given_refused : AllByRecursion IsBack backs → (it : IsTried Exchanged shows mark token staff act (backs ++ answer ∷ []) place s old said)
      → AreRefused old.entries it.journal.replies it.requests
  given_refused all it =
      let counted : length (backs ++ answer ∷ []) ≡ length it.requests = it.counted in
      let long : length (backs ++ answer ∷ []) ≡ length backs + 1 = length-append backs (answer ∷ []) in
      inr (
        old.replies ++ it.waited,
        backs,
        answer ∷ [],
        it.replies ∙ sym (append_assoc (old.replies ++ it.waited) backs (answer ∷ [])),
        it.first,
        omega arith,
        all,
      )

  -- the last too
  pub all_refused : AllByRecursion IsBack backs → IsBack answer
      → (it : IsTried Exchanged shows mark token staff act (backs ++ answer ∷ []) place s old said)
      → AreAllRefused old.entries it.journal.replies it.requests
  all_refused all is it =
      (old.replies ++ it.waited, backs ++ answer ∷ [], it.replies, it.first, it.counted, all_then IsBack backs answer all is)

module _ (shows : ℕ → Type 0) (token : Text) (giver : Result ℕ TillFault) (act : Act) where
  pub by_giver : (staff : ℕ) → giver ≡ Ok staff → (requests : List (List ℕ)) (commands : List Command) → AreTries shows token staff act requests commands
      → AreTriesBy shows token giver act requests commands
  by_giver staff by [] [] each = tt
  by_giver staff by [] (command ∷ commands) each = absurd each
  by_giver staff by (request ∷ requests) [] each = absurd each
  by_giver staff by (request ∷ requests) (command ∷ commands) each = ((staff, by, each.0), by_giver staff by requests commands each.1)

module _ (Exchanged : List ℕ → Answer → Type 0) (shows : ℕ → Type 0) (mark token : Text) (giver : Result ℕ TillFault) (act : Act) where
  -- an act that was given
  pub gives_adds : (answer : Answer) (before after : Place) (old new : State) → Gives Exchanged shows mark token giver act answer before old after new
      → AddsTries shows mark token giver act before old after new
  gives_adds answer before after old new gives journal commands at =
      let given = gives.2 journal commands at in
      let it = given.2 in
      record {
        journal = it.journal;
        commands = it.commands;
        is_at = it.is_at;
        requests = it.requests;
        tries = it.tries;
        entries = it.entries;
        says = it.says;
        each = by_giver shows token giver act gives.0 gives.1 it.requests it.tries it.each;
        replies = (it.extends.replies.0, it.extends.replies.1);
        refused = given_refused Exchanged shows mark token gives.0 act given.0 answer after new journal commands given.1 it;
      }

  -- tries so far, and one more or none
  pub so_far_adds : {A : Type 0} (seen : A → Answer) (told : Result A TillFault) (before mid after : Place) (old between new : State)
      → SoFar Exchanged shows mark token giver act seen told before old mid between
      → AddsOneTry shows mark token giver act mid between after new → AddsTries shows mark token giver act before old after new
  so_far_adds seen (Ok it) before mid after old between new far one journal commands at =
      let given = far.0.2 journal commands at in
      let first = given.2 in
      let next = one first.journal first.commands first.is_at in
      record {
        journal = next.0.journal;
        commands = next.0.commands;
        is_at = next.0.is_at;
        requests = first.requests ++ next.0.requests;
        tries = first.tries ++ next.0.tries;
        entries = more_then journal.entries first.journal.entries next.0.journal.entries first.requests next.0.requests first.entries next.0.entries;
        says = more_then commands first.commands next.0.commands first.tries next.0.tries first.says next.0.says;
        each = by_then shows token giver act first.requests next.0.requests first.tries next.0.tries
            (by_giver shows token giver act far.0.0 far.0.1 first.requests first.tries first.each) next.0.each;
        replies = (
          first.extends.replies.0 ++ next.0.replies.0,
          more_then journal.replies first.journal.replies next.0.journal.replies first.extends.replies.0 next.0.replies.0 first.extends.replies.1
              next.0.replies.1,
        );
        refused = refused_then journal.entries first.journal.replies next.0.journal.replies next.0.replies.0 first.requests next.0.requests
            (all_refused Exchanged shows mark token far.0.0 act given.0 (seen it) mid between journal commands given.1 far.1 first) next.0.replies.1 next.1;
      }
  so_far_adds seen (Err fault) before mid after old between new far one journal commands at =
      let there = at_place mark before mid old between journal journal commands at refl (far journal (place_of mark before old journal commands at)) in
      (one journal commands there).0

  -- all tries
  pub all_tries_add : {A : Type 0} (seen : A → Answer) (told : Result A TillFault) (before after : Place) (old new : State)
      → SoFar Exchanged shows mark token giver act seen told before old after new → AddsTries shows mark token giver act before old after new
  all_tries_add seen (Ok it) before after old new far = gives_adds (seen it) before after old new far.0
  all_tries_add seen (Err fault) before after old new far = adds_nothing shows mark token giver act before after old new far
