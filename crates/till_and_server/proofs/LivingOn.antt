-- A till's life from a made book on.
use Rattle.shop_model.proofs.Common.{ℕ, List, [], ◌∷◌, ◌++◌, lit<, Option, Answer}
use Rattle.shop_model.specs.Values.{Text, Command}
use Rattle.std.proofs.Math.Logic.{∥∥₁_elim, ∥∥₁_map}
use Rattle.sqlite_trees.specs.declared.store.Store.{Ghosts}
use Rattle.sqlite.specs.Held.{Held, state}
use Rattle.sqlite.specs.State.{State}
use Rattle.shop_model.proofs.Resends.{same_none}
use Rattle.till_book.specs.Journal.{Journal}
use Rattle.till_book.specs.Steps.{Rests}
use Rattle.till_work.specs.Entering.{IsTillsBook}
use Rattle.till_work.specs.Exchanged.{IsExchanged}
use Rattle.till_work.specs.Stops.{IsLater}
use Rattle.till_work.proofs.Stops.{later_then}
use Rattle.till_and_server.specs.Laws.{LeadsOn, LivesOn, TillOverAStop}
use Rattle.till_and_server.proofs.Extending.{stays, words_reach}

-- ---- one state after another

module _ (Exchanged : List ℕ → Answer → Type 0) (mark : Text) where
  abbrev RestsOn : State → Journal → List Command → Type 0
  RestsOn s journal commands =
      (next : Journal) × (known : List Command) × Rests s next × IsTillsBook mark next known × IsLater Exchanged journal commands next known

  leads_then : (old mid new : State) → LeadsOn Exchanged mark old mid → LeadsOn Exchanged mark mid new → LeadsOn Exchanged mark old new
  leads_then old mid new one two journal commands rests is =
      ∥∥₁_elim (one journal commands rests is) squash₁ (λ it.
      ∥∥₁_map (two it.0 it.1 it.2 it.3) (λ next.
      let r : RestsOn new journal commands = (
        next.0,
        next.1,
        next.2,
        next.3,
        later_then Exchanged journal it.0 next.0 commands it.1 next.1 it.4 next.4,
      ) in r))

  leads_to_last : {S : Type 0} (g : Ghosts S) (made : Held S) (books : List (Held S)) (last : Held S) → LivesOn g Exchanged mark made (books ++ last ∷ [])
      → LeadsOn Exchanged mark (state g made) (state g last)
  leads_to_last g made [] last lives = lives.0
  leads_to_last g made (next ∷ books) last lives =
      leads_then (state g made) (state g next) (state g last) lives.0 (leads_to_last g next books last lives.1)

-- ---- a made book

abbrev empty : Journal
empty = record { entries = []; replies = []; settled = [] }

empty_is_tills : (mark : Text) → IsTillsBook mark empty []
empty_is_tills mark = record {
  says = tt;
  numbered = record {
    few = lit< tt;
    keys = λ i command there. absurd (same_none command there);
    moments = λ i j earlier later before first second. absurd (same_none earlier first);
  };
}

pub lives_reach : {S R W : Type 0} (g : Ghosts S) (opens : R → W → Type 0) (remaining : R → Option (List ℕ)) (contents : W → Option (List ℕ))
    → TillOverAStop g opens remaining contents
lives_reach g opens remaining contents mark made books last rests life =
    ∥∥₁_map (leads_to_last (IsExchanged opens remaining contents) mark g made books last life empty [] rests (empty_is_tills mark)) (λ it. (
      it.0,
      it.1,
      it.2,
      it.3,
      λ rules look b lives old new lived numbers unused come answered.
          let kept = stays opens remaining contents rules b lives old empty it.0 answered it.4.extends in (
            kept.0 (λ i answer there. absurd (same_none answer there)),
            kept.1 tt,
            words_reach opens remaining contents mark rules look b it.0 it.1 lives old new lived numbers unused it.3 come answered it.4.extends,
          ),
    ))
