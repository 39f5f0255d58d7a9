-- A run grows by one answer at a time.
use Rattle.shop_schema.proofs.Common.{◌≡◌, List, [], ◌∷◌, ◌++◌, length, Bool, true, false, inl, inr, Some, None, refl, sym, ap, subst, arith, ◌∙◌}
use Rattle.shop_schema.proofs.Common.{if◌then◌else◌, cases_Bool, list_all, list_all-append, Limits, Answer, Books, Event, Caller, caller_in, known_caller}
use Rattle.shop_schema.proofs.Common.{after_for, after, office_look, IsStep, IsRun, is_store_failure, has_failed, run_more, run_none, failed_more, runs_resend}
use Rattle.std.specs.Prelude.{◌||◌}
use Rattle.shop_model.proofs.Callers.{known_same}
use Rattle.branch_work.specs.Rules.{rules_of}
use Rattle.chain_requests.specs.Holding.{Holding}
use Rattle.chain_requests.specs.Chains.{Runs, AnswersEvent}
use Rattle.shop_model.specs.Stops.{failing}
use Rattle.chain_requests.proofs.Branches.{runs_keep}
use Rattle.chain_requests.proofs.Requests.{failed_same}

-- a store that had failed before, or fails now, has failed after this request
pub has_failed_then : (was before mid now last : Bool) → mid ≡ (was || before) → now ≡ last → (mid ≡ true → last ≡ true) → now ≡ (was || (before || last))
has_failed_then true before mid now last so e stays = e ∙ stays so
has_failed_then false true mid now last so e stays = e ∙ stays so
has_failed_then false false mid now last so e stays = e

-- and it fails at all later requests
fails_later : (was before mid last : Bool) → mid ≡ (was || before) → (mid ≡ true → last ≡ true) → before ≡ true → last ≡ true
fails_later true before mid last so stays did = stays so
fails_later false before mid last so stays did = stays (so ∙ did)

pub runs_none : (held : Holding) → Runs [] [] held held
runs_none held = record {
  limits = refl;
  failed = or_false held.is_failed;
  stays = λ was. refl;
  same = λ was. refl;
  at_failure = λ fine event is. let no : None ≡ Some event = is in cc;
  run = run_none (rules_of held.limits) office_look held.books;
  resent = runs_resend (rules_of held.limits) office_look [] [] held.books held.books (run_none (rules_of held.limits) office_look held.books);
  branches = runs_keep (rules_of held.limits) office_look [] [] held.books held.books (run_none (rules_of held.limits) office_look held.books);
}
  where
    or_false : (b : Bool) → b ≡ (b || false)
    or_false true = refl
    or_false false = refl

run_then : (old mid new : Holding) (events : List Event) (answers : List Answer) (event : Event) (answer : Answer)
    → Runs events answers old mid → AnswersEvent event answer mid new
    → IsRun (rules_of old.limits) office_look (events ++ event ∷ []) (answers ++ answer ∷ []) old.books new.books
run_then old mid new events answers event answer runs step =
    let caller : Caller = caller_in event mid.books in
    let Step : Limits → Caller → Type 0 = λ limits asker. IsStep (rules_of limits) office_look asker (event.request caller) answer mid.books new.books in
    let found : Step mid.limits caller = subst (λ (c : Caller). Step mid.limits c) (known_same event.token mid.books.catalogue) step.step in
    let is : Step old.limits caller = subst (λ (l : Limits). Step l caller) runs.limits found in
    let later = fails_later old.is_failed (has_failed answers) mid.is_failed (is_store_failure answer) runs.failed step.stays in
    run_more (rules_of old.limits) office_look events answers event answer old.books mid.books new.books runs.run later is

-- a chain that had failed stays as it was
failed_stays : (event : Event) (answer : Answer) (mid new : Holding) → AnswersEvent event answer mid new → mid.is_failed ≡ true → new ≡ mid
failed_stays event answer mid new step was =
    let caller = caller_in event mid.books in
    step.at_failure (step.stays was) ∙ sym (failed_same caller (event.request caller) mid was)

failing_more : (events : List Event) (answers : List Answer) (event : Event) (answer : Answer) → length answers ≡ length events
    → failing (events ++ event ∷ []) (answers ++ answer ∷ [])
    ≡ (if has_failed answers then failing events answers else (if is_store_failure answer then Some event else None))
failing_more [] [] event answer same = refl
failing_more [] (a ∷ answers) event answer same = absurd (omega arith)
failing_more (e ∷ events) [] event answer same = absurd (omega arith)
failing_more (e ∷ events) (a ∷ answers) event answer same = elim (cases_Bool (is_store_failure a)) [
  | inl is ↦ rw is refl
  | inr isnt ↦ let fewer : length answers ≡ length events = omega arith in rw isnt (failing_more events answers event answer fewer)
]

-- the store fails now
fails_now : (limits : Limits) (mid new : Holding) (event : Event) (answer : Answer) → mid.limits ≡ limits
    → AnswersEvent event answer mid new → mid.is_failed ≡ false → is_store_failure answer ≡ true
    → new.besides ≡ after (rules_of limits) event new.books
fails_now limits mid new event answer same step fine is =
    let caller = caller_in event mid.books in
    let fails = step.at_failure is in
    let next : Books = after_for (rules_of mid.limits) (known_caller mid.books.catalogue caller) (event.request caller) mid.books in
    let now : new ≡ record mid { is_failed = true; besides = next } = rw fine at fails in
    let known : next ≡ after (rules_of mid.limits) event mid.books =
    ap (λ (c : Caller). after_for (rules_of mid.limits) c (event.request caller) mid.books) (known_same event.token mid.books.catalogue) in
    ap (λ (h : Holding). h.besides) now ∙ known ∙ ap (λ (l : Limits). after (rules_of l) event mid.books) same
    ∙ ap (λ (b : Books). after (rules_of limits) event b) (sym (ap (λ (h : Holding). h.books) now))

module _ (old mid new : Holding) (events : List Event) (answers : List Answer) (event : Event)
    (answer : Answer) (runs : Runs events answers old mid) (step : AnswersEvent event answer mid new) where
  more_fails : old.is_failed ≡ false → (e : Event) → failing (events ++ event ∷ []) (answers ++ answer ∷ []) ≡ Some e
      → new.besides ≡ after (rules_of old.limits) e new.books
  more_fails fine e is = elim (cases_Bool (has_failed answers)) [
    | inl did ↦
        let first : failing events answers ≡ Some e = rw did at (sym (failing_more events answers event answer runs.run.each) ∙ is) in
        let was : mid.is_failed ≡ true = rw (fine, did) at runs.failed in
        let same = failed_stays event answer mid new step was in
        ap (λ (h : Holding). h.besides) same ∙ runs.at_failure fine e first ∙ ap (λ (h : Holding). after (rules_of old.limits) e h.books) (sym same)
    | inr none ↦
        let now : (if is_store_failure answer then Some event else None) ≡ Some e =
        rw none at (sym (failing_more events answers event answer runs.run.each) ∙ is) in
        let sound : mid.is_failed ≡ false = rw (fine, none) at runs.failed in
        one_fails sound e now
  ]
    where
      one_fails : mid.is_failed ≡ false → (e : Event) → (if is_store_failure answer then Some event else None) ≡ Some e
          → new.besides ≡ after (rules_of old.limits) e new.books
      one_fails sound e now = elim (cases_Bool (is_store_failure answer)) [
        | inl does ↦
            let it : Some event ≡ Some e = rw does at now in
            let who : event ≡ e = cc in
            subst (λ (x : Event). new.besides ≡ after (rules_of old.limits) x new.books) who
            (fails_now old.limits mid new event answer runs.limits step sound does)
        | inr not ↦ let no : None ≡ Some e = rw not at now in cc
      ]

pub runs_more : (old mid new : Holding) (events : List Event) (answers : List Answer) (event : Event) (answer : Answer)
    → Runs events answers old mid → AnswersEvent event answer mid new → Runs (events ++ event ∷ []) (answers ++ answer ∷ []) old new
runs_more old mid new events answers event answer runs step = record {
  limits = step.limits ∙ runs.limits;
  failed =
      rw (failed_more answers answer)
      (has_failed_then old.is_failed (has_failed answers) mid.is_failed new.is_failed (is_store_failure answer) runs.failed step.failed step.stays);
  stays = λ was.
      let all : list_all is_store_failure answers ≡ true = runs.stays was in
      let so : mid.is_failed ≡ true = rw was at runs.failed in
      let one : is_store_failure answer ≡ true = step.stays so in
      rw (list_all-append is_store_failure answers (answer ∷ []), all, one) refl;
  same = λ was.
      let first = runs.same was in
      failed_stays event answer mid new step (ap (λ (h : Holding). h.is_failed) first ∙ was) ∙ first;
  at_failure = more_fails old mid new events answers event answer runs step;
  run = run_then old mid new events answers event answer runs step;
  resent = runs_resend (rules_of old.limits) office_look _ _ old.books new.books (run_then old mid new events answers event answer runs step);
  branches = runs_keep (rules_of old.limits) office_look _ _ old.books new.books (run_then old mid new events answers event answer runs step);
}
