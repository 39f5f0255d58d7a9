-- The run of a connection begins with no exchange, and one message is a run of its own.
use Rattle.shop_types.proofs.Common.{◌≡◌, ◌∙◌, List, [], ◌∷◌, ℕ, Bool, true, false, refl, sym, ap, or-false, All-nil, All-cons, is_store_failure}
use Rattle.std.specs.Prelude.{◌||◌}
use Rattle.sqlite_trees.specs.declared.store.Store.{Ghosts}
use Rattle.counter_routes.specs.Words.{Meaning}
use Rattle.chain_requests.specs.Holding.{Chained}
use Rattle.chain_requests.specs.Chains.{Takes}
use Rattle.branch_reports.specs.Told.{IsTold}
use Rattle.chain_requests.proofs.Taking.{takes_as, takes_same}
use Rattle.chain_requests.proofs.Running.{runs_none, runs_more}
use Rattle.counter_http.specs.Events.{event_of, AnswersMessage}
use Rattle.counter_http.specs.Exchanges.{Exchange, HasRun, RunsOver}

-- nothing is answered yet
pub run_starts : {S : Type 0} {g : Ghosts S} {meaning : Meaning} {chain : Chained S} → RunsOver g meaning chain chain []
run_starts {S} {g} {meaning} {chain} = record {
  takes = takes_same (λ held. runs_none held);
  same = λ none. refl;
  told = All-nil IsTold;
  fails = sym (or-false chain.is_failed);
  failed = λ was. (refl, refl);
}

fails_once : (was now last : Bool) → now ≡ last → (was ≡ true → now ≡ true) → now ≡ (was || (last || false))
fails_once true now last so stays = stays refl
fails_once false now last so stays = so ∙ sym (or-false last)

-- one message is answered
pub run_one : {S : Type 0} {g : Ghosts S} {meaning : Meaning} {old new : Chained S} (e : Exchange)
    → Takes g old new (AnswersMessage meaning e.message e.answer) → IsTold e.answer
    → new.is_failed ≡ is_store_failure e.answer → (old.is_failed ≡ true → new ≡ old) → RunsOver g meaning old new (e ∷ [])
run_one {S} {g} {meaning} {old} {new} e step told fails failed = record {
  takes = takes_as step (λ before after x. runs_more before before after [] [] (event_of meaning e.message) e.answer (runs_none before) x);
  same = λ none. absurd (some none);
  told = All-cons IsTold e.answer [] told (All-nil IsTold);
  fails = fails_once old.is_failed new.is_failed (is_store_failure e.answer) fails still;
  failed = λ was. let last : is_store_failure e.answer ≡ true = sym fails ∙ still was in (failed was, rw last refl);
}
  where
    some : e ∷ [] ≡ [] → ⊥
    some none = cc

    still : old.is_failed ≡ true → new.is_failed ≡ true
    still was = ap (λ (x : Chained S). x.is_failed) (failed was) ∙ was

-- the same with another statement on the run
pub ran_as : (Ran Ran' : List Exchange → Type 0) (read : List ℕ) (es : List Exchange) (rest : List ℕ)
    → HasRun Ran read es rest → ((es : List Exchange) → Ran es → Ran' es) → HasRun Ran' read es rest
ran_as Ran Ran' read es rest x tell = record { splits = x.splits; ran = tell es x.ran }
