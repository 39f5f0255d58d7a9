-- A run grows by one event at a time.
use Rattle.shop_model.proofs.Common.{◌≡◌, inl, inr, List, [], ◌∷◌, ◌++◌, length, map, filter, true, false, not, refl, sym, ap, ap₂, ◌∙◌, arith, append-nil}
use Rattle.shop_model.proofs.Common.{length-append, ◌==◌, ◌||◌, list_all, or-false, not-true, cases_Bool, and_parts, false≢true, true≢false, map-append}
use Rattle.shop_model.proofs.Common.{filter-append, OfficeAsk, Rules, TooLong, Memory, Size, StoreFailed, Reply, Sorry, Done, Shows, Answer, answer_of}
use Rattle.shop_model.proofs.Common.{problem_answer, Books, Event, Caller, counted_one, caller_in, reply_in, after, run, last_books, is_decided}
use Rattle.shop_model.proofs.Common.{is_store_failure, is_answer, outcome_of, counted_in, fails_for_good, has_failed, IsRun, IsStep, list_any-append, or_parts}
use Rattle.std.specs.Prelude.{◌⊎◌}
use Rattle.shop_model.specs.Json.{escape_byte}
use Rattle.shop_model.proofs.Origins.{all_append}

-- a decision's status is never the store's
pub decided_is : (reply : Reply) → is_decided (answer_of reply) ≡ true
decided_is (Sorry TooLong) = refl
decided_is (Sorry refusal) = refl
decided_is (Done text) = refl
decided_is (Shows shown) = refl

pub memory_failure : is_store_failure (problem_answer Memory) ≡ false
unfolding escape_byte
memory_failure = refl

pub size_failure : is_store_failure (problem_answer Size) ≡ false
unfolding escape_byte
size_failure = refl

failed_answer : is_answer (problem_answer StoreFailed) ≡ true
unfolding escape_byte
failed_answer = refl

pub failed_failure : is_store_failure (problem_answer StoreFailed) ≡ true
unfolding escape_byte
failed_failure = refl

abbrev IsRoom : Answer → Type 0
IsRoom answer = (answer ≡ problem_answer Memory) ⊎ (answer ≡ problem_answer Size)

room_is : (answer : Answer) → IsRoom answer → (is_answer answer ≡ true) × (is_store_failure answer ≡ false) × (is_decided answer ≡ false)
unfolding escape_byte
room_is answer (inl is) = rw is (refl, refl, refl)
room_is answer (inr is) = rw is (refl, refl, refl)

pub decided_failure : (answer : Answer) → is_decided answer ≡ true → is_store_failure answer ≡ false
decided_failure answer is = elim (cases_Bool (answer.status == 503)) [
  | inl bad ↦ let no : false ≡ true = rw bad at is in absurd (false≢true no)
  | inr good ↦ rw good
]

-- ---- one more

pub run_append : (rules : Rules) (look : OfficeAsk → Books → Reply) (events more : List Event) (books : Books)
    → run rules look (events ++ more) books ≡ run rules look events books ++ run rules look more (last_books rules events books)
run_append rules look [] more books = refl
run_append rules look (event ∷ events) more books =
    ap (λ r. (caller_in event books, reply_in rules look event books) ∷ r) (run_append rules look events more (after rules event books))

pub last_append : (rules : Rules) (events more : List Event) (books : Books)
    → last_books rules (events ++ more) books ≡ last_books rules more (last_books rules events books)
last_append rules [] more books = refl
last_append rules (event ∷ events) more books = last_append rules events more (after rules event books)

abbrev one_counted : (event : Event) (answer : Answer) → List Event
one_counted event answer = counted_one event (outcome_of answer) []

one_more : (event : Event) (answer : Answer) (xs ys : List Event) → not (is_store_failure answer) ≡ true
    → counted_one event (outcome_of answer) (xs ++ ys) ≡ counted_one event (outcome_of answer) xs ++ ys
one_more event answer xs ys fine = elim (cases_Bool (is_decided answer)) [
  | inl is ↦ rw is refl
  | inr isnt ↦ rw (isnt, not-true (is_store_failure answer) fine) refl
]

counted_more : (events : List Event) (answers : List Answer) (event : Event) (answer : Answer) → length answers ≡ length events
    → list_all (λ (a : Answer). not (is_store_failure a)) answers ≡ true
    → counted_in (events ++ event ∷ []) (answers ++ answer ∷ []) ≡ counted_in events answers ++ one_counted event answer
counted_more [] [] event answer same fine = refl
counted_more [] (a ∷ answers) event answer same fine = absurd (omega arith)
counted_more (e ∷ events) [] event answer same fine = absurd (omega arith)
counted_more (e ∷ events) (a ∷ answers) event answer same fine =
    let h = and_parts (not (is_store_failure a)) (list_all (λ (a : Answer). not (is_store_failure a)) answers) fine in
    let same' : length answers ≡ length events = omega arith in
    ap (λ (l : List Event). counted_one e (outcome_of a) l) (counted_more events answers event answer same' h.1)
    ∙ one_more e a (counted_in events answers) (one_counted event answer) h.0

-- an event that doesn't count leaves the counted history
counted_same : (events : List Event) (answers : List Answer) (event : Event) (answer : Answer) → length answers ≡ length events
    → one_counted event answer ≡ [] → counted_in (events ++ event ∷ []) (answers ++ answer ∷ []) ≡ counted_in events answers
counted_same [] [] event answer same none = none
counted_same [] (a ∷ answers) event answer same none = absurd (omega arith)
counted_same (e ∷ events) [] event answer same none = absurd (omega arith)
counted_same (e ∷ events) (a ∷ answers) event answer same none =
    let same' : length answers ≡ length events = omega arith in
    ap (λ (l : List Event). counted_one e (outcome_of a) l) (counted_same events answers event answer same' none)

-- ---- a store that failed

none_failed : (answers : List Answer) → has_failed answers ≡ false → list_all (λ (a : Answer). not (is_store_failure a)) answers ≡ true
none_failed [] h = refl
none_failed (a ∷ answers) h = let parts = or_parts (is_store_failure a) (has_failed answers) h in rw parts.0 (none_failed answers parts.1)

pub failed_more : (answers : List Answer) (answer : Answer) → has_failed (answers ++ answer ∷ []) ≡ (has_failed answers || is_store_failure answer)
failed_more answers answer = list_any-append is_store_failure answers (answer ∷ []) ∙ ap (λ r. has_failed answers || r) (or-false (is_store_failure answer))

stays_more : (answers : List Answer) (answer : Answer) → fails_for_good answers ≡ true
    → (has_failed answers ≡ true → is_store_failure answer ≡ true) → fails_for_good (answers ++ answer ∷ []) ≡ true
stays_more [] answer good later = elim (cases_Bool (is_store_failure answer)) [ inl is ↦ rw is | inr isnt ↦ rw isnt ]
stays_more (a ∷ answers) answer good later = elim (cases_Bool (is_store_failure a)) [
  | inl failed ↦
      let all : list_all is_store_failure answers ≡ true = rw failed at good in
      let last : is_store_failure answer ≡ true = later (rw failed) in
      rw failed (all_append is_store_failure answers (answer ∷ []) all (rw last refl))
  | inr fine ↦ rw fine (stays_more answers answer (rw fine at good) (rw fine at later))
]

never_failed : (answers : List Answer) (answer : Answer) → (has_failed answers ≡ true → is_store_failure answer ≡ true)
    → is_store_failure answer ≡ false → has_failed answers ≡ false
never_failed answers answer later isnt = elim (cases_Bool (has_failed answers)) [
  | inl did ↦ let it = later did in let no : true ≡ false = sym it ∙ isnt in absurd (true≢false no)
  | inr not ↦ not
]

-- the run goes on by one event that isn't decided and leaves the books
run_idle :
    (rules : Rules) (look : OfficeAsk → Books → Reply) (events : List Event) (answers : List Answer) (event : Event) (answer : Answer) (old mid new : Books)
    → IsRun rules look events answers old mid → (has_failed answers ≡ true → is_store_failure answer ≡ true)
    → new ≡ mid → is_decided answer ≡ false → is_answer answer ≡ true
    → one_counted event answer ≡ [] → IsRun rules look (events ++ event ∷ []) (answers ++ answer ∷ []) old new
run_idle rules look events answers event answer old mid new r later same lacks is none =
    let counts : counted_in (events ++ event ∷ []) (answers ++ answer ∷ []) ≡ counted_in events answers =
    counted_same events answers event answer r.each none in
    record {
      each = let a = length-append answers (answer ∷ []) in let b = length-append events (event ∷ []) in let e = r.each in omega arith;
      answers_are = all_append is_answer answers (answer ∷ []) r.answers_are (rw is refl);
      stays = stays_more answers answer r.stays later;
      decisions = filter-append is_decided answers (answer ∷ []) ∙ rw lacks (append-nil (filter is_decided answers)) ∙ r.decisions
          ∙ ap (λ (es : List Event). map (λ (it : Caller × Reply). answer_of it.1) (run rules look es old)) (sym counts);
      books = same ∙ r.books ∙ ap (λ (es : List Event). last_books rules es old) (sym counts);
    }

-- the run goes on by one event, which was answered by a step
pub run_more :
    (rules : Rules) (look : OfficeAsk → Books → Reply) (events : List Event) (answers : List Answer) (event : Event) (answer : Answer) (old mid new : Books)
    → IsRun rules look events answers old mid → (has_failed answers ≡ true → is_store_failure answer ≡ true)
    → IsStep rules look (caller_in event mid) (event.request (caller_in event mid)) answer mid new
    → IsRun rules look (events ++ event ∷ []) (answers ++ answer ∷ []) old new
run_more rules look events answers event answer old mid new r later (inl d) =
    let reply = reply_in rules look event mid in
    let decided : is_decided answer ≡ true = rw d.reply (decided_is reply) in
    let one : one_counted event answer ≡ event ∷ [] = rw decided refl in
    let fine = none_failed answers (never_failed answers answer later (decided_failure answer decided)) in
    let counts : counted_in (events ++ event ∷ []) (answers ++ answer ∷ []) ≡ counted_in events answers ++ event ∷ [] =
    counted_more events answers event answer r.each fine ∙ ap (λ (l : List Event). counted_in events answers ++ l) one in
    let history = counted_in events answers in
    record {
      each = let a = length-append answers (answer ∷ []) in let b = length-append events (event ∷ []) in let e = r.each in omega arith;
      answers_are = all_append is_answer answers (answer ∷ []) r.answers_are (rw decided refl);
      stays = stays_more answers answer r.stays later;
      decisions =
          filter-append is_decided answers (answer ∷ [])
          ∙ ap₂ (λ (xs ys : List Answer). xs ++ ys) r.decisions (rw decided (ap (λ (a : Answer). a ∷ []) d.reply))
          ∙ ap (λ (b : Books). map (λ (it : Caller × Reply). answer_of it.1) (run rules look history old) ++ answer_of (reply_in rules look event b) ∷ [])
          r.books
          ∙ sym (map-append (λ (it : Caller × Reply). answer_of it.1) (run rules look history old) (run rules look (event ∷ []) (last_books rules history old)))
          ∙ ap (map (λ (it : Caller × Reply). answer_of it.1)) (sym (run_append rules look history (event ∷ []) old))
          ∙ ap (λ (es : List Event). map (λ (it : Caller × Reply). answer_of it.1) (run rules look es old)) (sym counts);
      books =
          d.books ∙ ap (λ (b : Books). after rules event b) r.books ∙ sym (last_append rules history (event ∷ []) old)
          ∙ ap (λ (es : List Event). last_books rules es old) (sym counts);
    }
run_more rules look events answers event answer old mid new r later (inr (inl l)) =
    let room = room_is answer l.reply in
    let one : one_counted event answer ≡ [] = rw (room.2, room.1) refl in
    run_idle rules look events answers event answer old mid new r later l.books room.2 room.0 one
run_more rules look events answers event answer old mid new r later (inr (inr f)) =
    let lacks : is_decided answer ≡ false = rw f.reply refl in
    let failed : is_store_failure answer ≡ true = rw f.reply failed_failure in
    let is : is_answer answer ≡ true = rw f.reply failed_answer in
    let one : one_counted event answer ≡ [] = rw (lacks, failed) refl in
    run_idle rules look events answers event answer old mid new r later f.books lacks is one

-- nothing is asked
pub run_none : (rules : Rules) (look : OfficeAsk → Books → Reply) (books : Books) → IsRun rules look [] [] books books
run_none rules look books = record { each = refl; answers_are = refl; stays = refl; decisions = refl; books = refl }
