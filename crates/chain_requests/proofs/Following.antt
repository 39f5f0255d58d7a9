-- One run follows another.
use Rattle.shop_schema.proofs.Common.{◌≡◌, List, [], ◌∷◌, ◌++◌, length, map, Bool, true, false, inl, inr, Some, refl, sym, ap, ap₂, subst, arith, ◌∙◌}
use Rattle.shop_schema.proofs.Common.{length-append, if◌then◌else◌, bytes_eq, cases_Bool, and_parts, or_left, or_right, list_all, map-append, filter-append}
use Rattle.shop_schema.proofs.Common.{list_any-append, Limits, OfficeAsk, Rules, StoreFailed, Reply, Answer, answer_of, problem_text, Books, Event, Caller}
use Rattle.shop_schema.proofs.Common.{after, run, last_books, office_look, IsRun, is_decided, is_store_failure, is_answer, counted_in, fails_for_good}
use Rattle.shop_schema.proofs.Common.{has_failed, run_append, last_append, runs_resend}
use Rattle.std.specs.Prelude.{◌||◌, ◌==◌}
use Rattle.shop_model.proofs.Origins.{all_append}
use Rattle.branch_work.specs.Rules.{rules_of}
use Rattle.chain_requests.specs.Holding.{Holding}
use Rattle.chain_requests.specs.Chains.{Runs}
use Rattle.shop_model.specs.Stops.{failing}
use Rattle.chain_requests.proofs.Branches.{runs_keep}

-- if the store failed at an earlier answer, all later answers are failures of the store
abbrev FailsOn : List Answer → List Answer → Type 0
FailsOn answers more = has_failed answers ≡ true → list_all is_store_failure more ≡ true

pub or_then : (was before mid more now : Bool) → mid ≡ (was || before) → now ≡ (mid || more) → now ≡ (was || (before || more))
or_then true before mid more now first second = rw first at second
or_then false before mid more now first second = rw first at second

-- ---- the counted history

-- no event at which the store failed counts
none_counts : (events : List Event) (answers : List Answer) → list_all is_store_failure answers ≡ true → counted_in events answers ≡ []
none_counts [] answers all = refl
none_counts (event ∷ events) [] all = refl
none_counts (event ∷ events) (answer ∷ answers) all =
    let failed = and_parts (is_store_failure answer) (list_all is_store_failure answers) all in
    let status = and_parts (answer.status == 503) (bytes_eq answer.body (problem_text StoreFailed)) failed.0 in
    rw (status.0, status.1) refl

counts_both : (events more : List Event) (answers others : List Answer) → length answers ≡ length events → FailsOn answers others
    → counted_in (events ++ more) (answers ++ others) ≡ counted_in events answers ++ counted_in more others
counts_both [] more [] others same on = refl
counts_both [] more (a ∷ answers) others same on = absurd (omega arith)
counts_both (e ∷ events) more [] others same on = absurd (omega arith)
counts_both (e ∷ events) more (a ∷ answers) others same on =
    let fewer : length answers ≡ length events = omega arith in
    let rest = counts_both events more answers others fewer (λ did. on (or_right (is_store_failure a) (has_failed answers) did)) in
    elim (cases_Bool (is_decided a)) [
      | inl is ↦ rw is (ap (λ (l : List Event). e ∷ l) rest)
      | inr isnt ↦ elim (cases_Bool (is_store_failure a)) [
        | inl fails ↦ rw (isnt, fails) (sym (none_counts more others (on (or_left (is_store_failure a) (has_failed answers) fails))))
        | inr not ↦ rw (isnt, not) rest
      ]
    ]

stays_both : (answers others : List Answer) → fails_for_good answers ≡ true
    → fails_for_good others ≡ true → FailsOn answers others → fails_for_good (answers ++ others) ≡ true
stays_both [] others good more on = more
stays_both (a ∷ answers) others good more on = elim (cases_Bool (is_store_failure a)) [
  | inl fails ↦ let all : list_all is_store_failure answers ≡ true = rw fails at good in
      rw fails (all_append is_store_failure answers others all (on (or_left (is_store_failure a) (has_failed answers) fails)))
  | inr not ↦ let rest : fails_for_good answers ≡ true = rw not at good in
      rw not (stays_both answers others rest more (λ did. on (or_right (is_store_failure a) (has_failed answers) did)))
]

-- ---- the run

run_follows : (rules : Rules) (look : OfficeAsk → Books → Reply) (events more : List Event) (answers others : List Answer) (old mid new : Books)
    → IsRun rules look events answers old mid → IsRun rules look more others mid new
    → FailsOn answers others → IsRun rules look (events ++ more) (answers ++ others) old new
run_follows rules look events more answers others old mid new first second on =
    let Told : List Event → Books → List Answer = λ history books. map (λ (it : Caller × Reply). answer_of it.1) (run rules look history books) in
    let history = counted_in events answers in
    let later = counted_in more others in
    let counts : counted_in (events ++ more) (answers ++ others) ≡ history ++ later = counts_both events more answers others first.each on in
    let told : Told later mid ≡ Told later (last_books rules history old) = ap (λ (b : Books). Told later b) first.books in
    record {
      each = let a = length-append answers others in let b = length-append events more in let e = first.each in let f = second.each in omega arith;
      answers_are = all_append is_answer answers others first.answers_are second.answers_are;
      stays = stays_both answers others first.stays second.stays on;
      decisions = filter-append is_decided answers others ∙ ap₂ (λ (xs ys : List Answer). xs ++ ys) first.decisions (second.decisions ∙ told)
          ∙ sym (map-append (λ (it : Caller × Reply). answer_of it.1) (run rules look history old) (run rules look later (last_books rules history old)))
          ∙ ap (map (λ (it : Caller × Reply). answer_of it.1)) (sym (run_append rules look history later old))
          ∙ ap (λ (es : List Event). Told es old) (sym counts);
      books = second.books ∙ ap (λ (b : Books). last_books rules later b) first.books ∙ sym (last_append rules history later old)
          ∙ ap (λ (es : List Event). last_books rules es old) (sym counts);
    }

-- ---- the first failure

failing_both : (events more : List Event) (answers others : List Answer) → length answers ≡ length events
    → failing (events ++ more) (answers ++ others) ≡ (if has_failed answers then failing events answers else failing more others)
failing_both [] more [] others same = refl
failing_both [] more (a ∷ answers) others same = absurd (omega arith)
failing_both (e ∷ events) more [] others same = absurd (omega arith)
failing_both (e ∷ events) more (a ∷ answers) others same = elim (cases_Bool (is_store_failure a)) [
  | inl is ↦ rw is refl
  | inr isnt ↦ let fewer : length answers ≡ length events = omega arith in rw isnt (failing_both events more answers others fewer)
]

module _ (old mid new : Holding) (events more : List Event) (answers others : List Answer)
    (first : Runs events answers old mid) (second : Runs more others mid new) where
  fails_on : FailsOn answers others
  fails_on did = second.stays (first.failed ∙ or_right old.is_failed (has_failed answers) did)

  follows : IsRun (rules_of old.limits) office_look (events ++ more) (answers ++ others) old.books new.books
  follows =
      let later = subst (λ (l : Limits). IsRun (rules_of l) office_look more others mid.books new.books) first.limits second.run in
      run_follows (rules_of old.limits) office_look events more answers others old.books mid.books new.books first.run later fails_on

  follows_failed : old.is_failed ≡ false → (e : Event) → failing (events ++ more) (answers ++ others) ≡ Some e
      → new.besides ≡ after (rules_of old.limits) e new.books
  follows_failed fine e is = elim (cases_Bool (has_failed answers)) [
    | inl did ↦
        let it : failing events answers ≡ Some e = rw did at (sym (failing_both events more answers others first.run.each) ∙ is) in
        let was : mid.is_failed ≡ true = rw (fine, did) at first.failed in
        let same = second.same was in
        ap (λ (h : Holding). h.besides) same ∙ first.at_failure fine e it ∙ ap (λ (h : Holding). after (rules_of old.limits) e h.books) (sym same)
    | inr none ↦
        let it : failing more others ≡ Some e = rw none at (sym (failing_both events more answers others first.run.each) ∙ is) in
        let sound : mid.is_failed ≡ false = rw (fine, none) at first.failed in
        second.at_failure sound e it ∙ ap (λ (l : Limits). after (rules_of l) e new.books) first.limits
  ]

-- a list that was run in two parts was run as one list
pub runs_follow : (old mid new : Holding) (events more : List Event) (answers others : List Answer)
    → Runs events answers old mid → Runs more others mid new → Runs (events ++ more) (answers ++ others) old new
runs_follow old mid new events more answers others first second = record {
  limits = second.limits ∙ first.limits;
  failed =
      rw (list_any-append is_store_failure answers others)
      (or_then old.is_failed (has_failed answers) mid.is_failed (has_failed others) new.is_failed first.failed second.failed);
  stays = λ was. all_append is_store_failure answers others (first.stays was) (second.stays (first.failed ∙ or_left old.is_failed (has_failed answers) was));
  same = λ was. second.same (first.failed ∙ or_left old.is_failed (has_failed answers) was) ∙ first.same was;
  at_failure = follows_failed old mid new events more answers others first second;
  run = follows old mid new events more answers others first second;
  resent = runs_resend (rules_of old.limits) office_look _ _ old.books new.books (follows old mid new events more answers others first second);
  branches = runs_keep (rules_of old.limits) office_look _ _ old.books new.books (follows old mid new events more answers others first second);
}
