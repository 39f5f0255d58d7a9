-- From the key press to the disk.
use Rattle.shop_model.proofs.Common.{◌≡◌, ℕ, zero, suc, List, [], ◌∷◌, Some, None, Option, ap, ◌∙◌, slice_get, Command, Answer}
use Rattle.shop_model.proofs.Resends.{same_some, same_none}
use Rattle.till_model.specs.Tills.{Entry}
use Rattle.till_model.specs.Laws.{entries_of, served_over, FromThePressToTheDisk}
use Rattle.till_model.proofs.Entries.{marked_at}
use Rattle.till_model.proofs.OverStops.{once_over_stops, answers_served, rising_in_order}

-- the entry at place i has the command and the reply at place i
pub record Stands (commands : List Command) (replies : List Answer) (i : ℕ) (e : Entry) (answer : Answer) : Type 0 where
  pub command : slice_get commands i ≡ Some e.command
  pub reply : slice_get replies i ≡ Some answer

pub stands : (commands : List Command) (replies : List Answer) (i : ℕ) (e : Entry) (answer : Answer)
    → slice_get (entries_of commands replies) i ≡ Some e → e.reply ≡ Some answer → Stands commands replies i e answer
stands [] replies i e answer there is = absurd (same_none e there)
stands (c ∷ cs) [] zero e answer there is =
    absurd (same_none answer (ap (λ (it : Entry). it.reply) (same_some (record { command = c; reply = None }) e there) ∙ is))
stands (c ∷ cs) [] (suc i) e answer there is = let it = stands cs [] i e answer there is in record { command = it.command; reply = absurd (none_at i it.reply) }
  where
    none_at : (i : ℕ) → ◌≡◌ {A = Option Answer} None (Some answer) → ⊥
    none_at i none = same_none answer none
stands (c ∷ cs) (a ∷ answers) zero e answer there is =
    let same = same_some (record { command = c; reply = Some a }) e there in
    record { command = ap (λ (it : Entry). Some it.command) same; reply = ap (λ (it : Entry). it.reply) same ∙ is }
stands (c ∷ cs) (a ∷ answers) (suc i) e answer there is = let it = stands cs answers i e answer there is in record { command = it.command; reply = it.reply }

pub press_to_disk : FromThePressToTheDisk
press_to_disk has_mark rules look b commands replies lives old new lived numbers fresh book =
    let entries = entries_of commands replies in
    let served = served_over has_mark rules b lives old in
    once_over_stops has_mark rules look b entries lives old new lived numbers fresh (record {
      marked = book.own.marked;
      keys = book.own.keys;
      come = book.witnessed.come;
      order = rising_in_order entries served book.own.moments;
      told = λ i e answer there is.
          let it = stands commands replies i e answer there is in
          let was = book.witnessed.answered i e.command answer it.command it.reply in
          answers_served has_mark rules look b lives old new lived numbers was.at_life was.at_place
          was.life e.command answer was.lived was.asked was.told (book.witnessed.decided i answer it.reply)
          (marked_at has_mark entries i e book.own.marked there);
    })
