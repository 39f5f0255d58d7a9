-- One connection after another: the chain ran over all of them as one history.
use Rattle.shop_types.proofs.Common.{◌≡◌, ◌∙◌, List, [], ◌∷◌, ◌++◌, refl, ap, map-append, All-append, list_any-append, has_failed, is_store_failure}
use Rattle.sqlite_trees.specs.declared.store.Store.{Ghosts}
use Rattle.shop_model.proofs.Origins.{all_append}
use Rattle.counter_routes.specs.Words.{Meaning}
use Rattle.chain_requests.specs.Holding.{Chained, Holding}
use Rattle.chain_requests.specs.Chains.{Runs}
use Rattle.chain_requests.proofs.Taking.{takes_then}
use Rattle.branch_reports.specs.Told.{IsTold}
use Rattle.chain_requests.proofs.Following.{or_then, runs_follow}
use Rattle.counter_http.specs.Events.{event_of}
use Rattle.counter_http.specs.Exchanges.{Exchange, events_of, answers_of, RunsOver}
use Rattle.counter_http.proofs.Runs.{run_starts}

pub both_run : (meaning : Meaning) (old mid new : Holding) (es more : List Exchange)
    → Runs (events_of meaning es) (answers_of es) old mid → Runs (events_of meaning more) (answers_of more) mid new
    → Runs (events_of meaning (es ++ more)) (answers_of (es ++ more)) old new
both_run meaning old mid new es more first second =
    rw (map-append (λ (x : Exchange). event_of meaning x.message) es more, map-append (λ (x : Exchange). x.answer) es more)
    (runs_follow old mid new (events_of meaning es) (events_of meaning more) (answers_of es) (answers_of more) first second)

pub run_follows : {S : Type 0} {g : Ghosts S} {meaning : Meaning} {old mid new : Chained S} (es more : List Exchange)
    → RunsOver g meaning old mid es → RunsOver g meaning mid new more → RunsOver g meaning old new (es ++ more)
run_follows {S} {g} {meaning} {old} {mid} {new} es more first second = record {
  takes = takes_then first.takes second.takes (λ old mid new x y. both_run meaning old mid new es more x y);
  same = same es more first second;
  told = rw both (All-append IsTold (answers_of es) (answers_of more) first.told second.told);
  fails = rw (both, list_any-append is_store_failure (answers_of es) (answers_of more))
      (or_then old.is_failed (has_failed (answers_of es)) mid.is_failed (has_failed (answers_of more)) new.is_failed first.fails second.fails);
  failed = λ was.
      let one = first.failed was in
      let two = second.failed (ap (λ (x : Chained S). x.is_failed) one.0 ∙ was) in
      (two.0 ∙ one.0, rw both (all_append is_store_failure (answers_of es) (answers_of more) one.1 two.1));
}
  where
    both : answers_of (es ++ more) ≡ answers_of es ++ answers_of more
    both = map-append (λ (x : Exchange). x.answer) es more

    same : (es more : List Exchange) → RunsOver g meaning old mid es → RunsOver g meaning mid new more → es ++ more ≡ [] → new ≡ old
    same [] more first second none = second.same none ∙ first.same refl
    same (e ∷ es) more first second none = cc

-- the chain ran over some exchanges
abbrev pub RunsOverSome : {S : Type 0} → Ghosts S → Meaning → Chained S → Chained S → Type 0
RunsOverSome g meaning old new = (exchanges : List Exchange) × RunsOver g meaning old new exchanges

pub some_start : {S : Type 0} {g : Ghosts S} {meaning : Meaning} {chain : Chained S} → RunsOverSome g meaning chain chain
some_start {S} {g} {meaning} {chain} = ([], run_starts)

pub some_follow : {S : Type 0} {g : Ghosts S} {meaning : Meaning} {old mid new : Chained S}
    → RunsOverSome g meaning old mid → RunsOverSome g meaning mid new → RunsOverSome g meaning old new
some_follow {S} {g} {meaning} {old} {mid} {new} first second = (first.0 ++ second.0, run_follows first.0 second.0 first.1 second.1)
