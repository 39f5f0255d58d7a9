-- However often a chain is stopped and opened again, what it answers is one history.
use Rattle.shop_model.proofs.Common.{◌≡◌, ◌⊎◌, ◌∙◌, take, inl, inr, ℕ, zero, suc, List, [], ◌∷◌, ◌++◌, length, filter, map, Bool, true, false, not, Some, refl}
use Rattle.shop_model.proofs.Common.{sym, subst, ap, ap₂, slice_get, nat_le, list_any, bytes_eq, cases_Bool, and_parts, not-true, false≢true, map-append}
use Rattle.shop_model.proofs.Common.{bytes_eq-Decides, Text, OfficeAsk, Rules, Kept, OfficeKept, KeyUsed, Full, Verdict, Again, Refused, first, refusals}
use Rattle.shop_model.proofs.Common.{office_refusals, are_different, Request, Do, Office, Reply, Done, Answer, answer_of, Books, Event, Caller, Counter}
use Rattle.shop_model.proofs.Common.{HeadOffice, Nobody, shop_of, caller_in, reply_for, after_for, reply_in, after, run, last_books, IsSound, is_decided}
use Rattle.shop_model.proofs.Common.{counted_in, marked_ones, Asks, is_command, is_nobody, Life, in_flight, acted_in, Lives, history_of, answered_of}
use Rattle.shop_model.proofs.Common.{decisions_of, begun, IsKeptWith, KeepsAcknowledged, LivesAreOneHistory, ActsOnce, EachActsOnce, ResentFirst, LivesFollow}
use Rattle.shop_model.proofs.Common.{◌+◌, arith, books_at, IsRun, resent_by, true≢false}
use Rattle.std.proofs.lemmas.List.{append_assoc, take_all}
use Rattle.shop_model.proofs.Histories.{run_append, last_append}
use Rattle.shop_model.proofs.Isolation.{alone}
use Rattle.shop_model.proofs.Soundness.{in_one_place}
use Rattle.shop_model.proofs.Repeats.{without_repeats}
use Rattle.shop_model.proofs.Resends.{caller_after, finds_counted, by_command, verdict_of, again_told, told as told_as, steps_of, same_head, same_tail}
use Rattle.shop_model.proofs.Resends.{same_some, same_none, got_at, again_through, none_under, never_again}

-- ---- the books

abbrev Reads : Type 0
Reads = OfficeAsk → Books → Reply

pub last_of : (rules : Rules) (look : Reads) (lives : List Life) (old new : Books)
    → Lives rules look lives old new → new ≡ last_books rules (history_of lives) old
last_of rules look [] old new is = is
last_of rules look (life ∷ lives) old new (mid, ran, rest) =
    last_of rules look lives (last_books rules (in_flight life) mid) new rest
    ∙ ap (λ b. last_books rules (history_of lives) (last_books rules (in_flight life) b)) ran.books
    ∙ ap (last_books rules (history_of lives)) (sym (last_append rules (counted_in life.events life.answers) (in_flight life) old))
    ∙ sym (last_append rules (acted_in life) (history_of lives) old)

-- ---- the replies

abbrev told : Rules → Reads → List Event → Books → List Answer
told rules look events books = map (λ (it : Caller × Reply). answer_of it.1) (run rules look events books)

told_append : (rules : Rules) (look : Reads) (events more : List Event) (books : Books)
    → told rules look (events ++ more) books ≡ told rules look events books ++ told rules look more (last_books rules events books)
told_append rules look events more books =
    ap (map (λ (it : Caller × Reply). answer_of it.1)) (run_append rules look events more books)
    ∙ map-append (λ (it : Caller × Reply). answer_of it.1) (run rules look events books) (run rules look more (last_books rules events books))

all_marked : (rules : Rules) (look : Reads) (events : List Event) (books : Books) (marks : List Bool) (rest : List Answer)
    → marked_ones (map (λ _. true) events ++ marks) (told rules look events books ++ rest) ≡ told rules look events books ++ marked_ones marks rest
all_marked rules look [] books marks rest = refl
all_marked rules look (e ∷ events) books marks rest =
    ap (λ (l : List Answer). answer_of (reply_in rules look e books) ∷ l) (all_marked rules look events (after rules e books) marks rest)

none_marked : (rules : Rules) (look : Reads) (events : List Event) (books : Books) (marks : List Bool) (rest : List Answer)
    → marked_ones (map (λ _. false) events ++ marks) (told rules look events books ++ rest) ≡ marked_ones marks rest
none_marked rules look [] books marks rest = refl
none_marked rules look (e ∷ events) books marks rest = none_marked rules look events (after rules e books) marks rest

told_of : (rules : Rules) (look : Reads) (lives : List Life) (old new : Books) → Lives rules look lives old new
    → decisions_of lives ≡ marked_ones (answered_of lives) (told rules look (history_of lives) old)
told_of rules look [] old new is = refl
told_of rules look (life ∷ lives) old new (mid, ran, rest) =
    let history = counted_in life.events life.answers in
    let flight = in_flight life in
    let more = history_of lives in
    let yes : List Bool = map (λ _. true) history in
    let no : List Bool = map (λ _. false) flight in
    let marks = answered_of lives in
    let behind = told_of rules look lives (last_books rules flight mid) new rest in
    let next : List Answer = told rules look more (last_books rules flight mid) in
    let parts : told rules look (history_of (life ∷ lives)) old ≡ told rules look history old ++ (told rules look flight mid ++ next) =
    ap (λ es. told rules look es old) (append_assoc history flight more)
    ∙ told_append rules look history (flight ++ more) old
    ∙ ap (λ b. told rules look history old ++ told rules look (flight ++ more) b) (sym ran.books)
    ∙ ap (λ (l : List Answer). told rules look history old ++ l) (told_append rules look flight more mid) in
    ap₂ (λ (xs ys : List Answer). xs ++ ys) ran.decisions behind
    ∙ ap (λ (l : List Answer). told rules look history old ++ l) (sym (none_marked rules look flight mid marks next))
    ∙ sym (all_marked rules look history old (no ++ marks) (told rules look flight mid ++ next))
    ∙ ap (λ (ms : List Bool). marked_ones ms (told rules look history old ++ (told rules look flight mid ++ next))) (sym (append_assoc yes no marks))
    ∙ ap (marked_ones ((yes ++ no) ++ marks)) (sym parts)

-- ---- what is kept

-- where no key is twice, one row at most is under a key
at_most_one : {A : Type 0} (key : A → Text) (t : Text) (x : A) (xs rest : List A)
    → are_different (λ (earlier later : A). bytes_eq (key earlier) (key later)) xs ≡ true
    → filter (λ y. bytes_eq (key y) t) xs ≡ x ∷ rest → rest ≡ []
at_most_one {A = A} key t x [] rest apart is = let no : ◌≡◌ {A = List A} [] (x ∷ rest) = is in cc
at_most_one {A = A} key t x (y ∷ ys) rest apart is =
    let h =
    and_parts (not (list_any (λ z. bytes_eq (key y) (key z)) ys)) (are_different (λ (earlier later : A). bytes_eq (key earlier) (key later)) ys) apart in
    elim (cases_Bool (bytes_eq (key y) t)) [
      | inl same ↦
          let both : y ∷ filter (λ z. bytes_eq (key z) t) ys ≡ x ∷ rest = rw same at is in
          let behind : filter (λ z. bytes_eq (key z) t) ys ≡ rest = same_tail y x _ _ both in
          let key_is : key y ≡ t = (bytes_eq-Decides (key y) t).0 same in
          sym behind ∙ subst (λ (k : Text). filter (λ z. bytes_eq (key z) k) ys ≡ []) key_is (none_under key y ys (not-true _ h.0))
      | inr other ↦ at_most_one key t x ys rest h.1 (rw other at is)
    ]

is_kept : {A : Type 0} (same : A → Bool) (reply : A → Text) (ks : List A) (v : Verdict) (text : Text)
    → (v ≡ Again text → ⊥) → ((x : A) (rest : List A) → ks ≡ x ∷ rest → rest ≡ [])
    → resent_by same reply ks v ≡ Again text → (it : A) × (ks ≡ it ∷ []) × (same it ≡ true) × (reply it ≡ text)
is_kept same reply [] v text fresh one again = absurd (fresh again)
is_kept {A = A} same reply (k ∷ ks) v text fresh one again = elim (cases_Bool (same k)) [
  | inl is ↦
      let told : Again (reply k) ≡ Again text = rw is at again in
      let kept : reply k ≡ text = cc in
      (k, ap (λ (l : List A). k ∷ l) (one k ks refl), is, kept)
  | inr isnt ↦ let no : Refused KeyUsed ≡ Again text = rw isnt at again in cc
]

again_kept : (rules sizes : Rules) (text : Text) (books : Books) → IsSound sizes books
    → (caller : Caller) (request : Request) → is_command caller request ≡ true
    → verdict_of rules caller request books ≡ Again text → IsKeptWith caller request text books
again_kept rules sizes text books sound =
    by_command (λ caller request. verdict_of rules caller request books ≡ Again text → IsKeptWith caller request text books)
    (λ b command again.
    is_kept _ _ (filter (λ (k : Kept). bytes_eq k.command.key command.key) (shop_of b books).kept)
    (first (refusals rules b books.catalogue (shop_of b books) command)) text
    (never_again (refusals rules b books.catalogue (shop_of b books) command) text)
    (λ x rest is. at_most_one (λ (k : Kept). k.command.key) command.key x (shop_of b books).kept rest (sound.links b).keys is) again)
    (λ command again.
    is_kept _ _ (filter (λ (k : OfficeKept). bytes_eq k.command.key command.key) books.catalogue.kept)
    (first ((Full, nat_le rules.commands (length books.catalogue.kept)) ∷ office_refusals books.catalogue command.act)) text
    (never_again ((Full, nat_le rules.commands (length books.catalogue.kept)) ∷ office_refusals books.catalogue command.act) text)
    (λ x rest is. at_most_one (λ (k : OfficeKept). k.command.key) command.key x books.catalogue.kept rest sound.catalogue.keys is) again)

module _ (rules : Rules) (look : Reads) (caller : Caller) (request : Request) (is : is_command caller request ≡ true) where
  -- a command that was answered with 200 is given again from the end of the run on
  got_in : (events : List Event) (answers : List Answer) (old mid : Books) → IsRun rules look events answers old mid
      → (i : ℕ) (x : Answer) → Asks rules events answers old i caller request
      → slice_get answers i ≡ Some x → x.status ≡ 200
      → (text : Text) × (x ≡ answer_of (Done text)) × (verdict_of rules caller request mid ≡ Again text)
  got_in events answers old mid ran i x asks there good =
      let steps = steps_of rules look events answers old ran.each ran.stays ran.decisions in
      let done = got_at rules look caller request is events answers old steps i x asks there good in
      let n = suc i + length events in
      let each = ran.each in
      let end : books_at rules events answers old n ≡ mid = finds_counted rules events answers old ran.stays n
      ∙ ap₂ (λ (es : List Event) (sent : List Answer). last_books rules (counted_in es sent) old)
      (take_all n events (omega arith)) (take_all n answers (omega (arith, each)))
      ∙ sym ran.books in
      (done.0, done.1, subst (λ (b : Books). verdict_of rules caller request b ≡ Again done.0) end (done.2 n (omega arith)))

  acknowledged : (lives : List Life) (old new : Books) → Lives rules look lives old new → (n i : ℕ) (life : Life) (x : Answer) → slice_get lives n ≡ Some life
      → Asks rules life.events life.answers (begun rules lives old n) i caller request → slice_get life.answers i ≡ Some x → x.status ≡ 200
      → (text : Text) × (x ≡ answer_of (Done text)) × (verdict_of rules caller request new ≡ Again text)
  acknowledged [] old new lived n i life x at_n asks there good = absurd (same_none life at_n)
  acknowledged (l ∷ lives) old new (mid, ran, rest) zero i life x at_n asks there good =
      let same : l ≡ life = same_some l life at_n in
      let here : Asks rules l.events l.answers old i caller request =
      subst (λ (it : Life). Asks rules it.events it.answers old i caller request) (sym same) asks in
      let answer : slice_get l.answers i ≡ Some x = subst (λ (it : Life). slice_get it.answers i ≡ Some x) (sym same) there in
      let done = got_in l.events l.answers old mid ran i x here answer good in
      let flown = again_through rules caller request is done.0 (in_flight l) mid done.2 in
      let last = again_through rules caller request is done.0 (history_of lives) (last_books rules (in_flight l) mid) flown in (
        done.0,
        done.1,
        subst (λ (b : Books). verdict_of rules caller request b ≡ Again done.0)
            (sym (last_of rules look lives (last_books rules (in_flight l) mid) new rest)) last,
      )
  acknowledged (l ∷ lives) old new (mid, ran, rest) (suc n) i life x at_n asks there good =
      let next = last_books rules (in_flight l) mid in
      let start : begun rules (l ∷ lives) old (suc n) ≡ begun rules lives next n =
      last_append rules (acted_in l) (history_of (take n lives)) old
      ∙ ap (last_books rules (history_of (take n lives)))
      (last_append rules (counted_in l.events l.answers) (in_flight l) old ∙ ap (last_books rules (in_flight l)) (sym ran.books)) in
      acknowledged lives next new rest n i life x at_n (subst (λ (b : Books). Asks rules life.events life.answers b i caller request) start asks) there good

kept_of : (rules sizes : Rules) (look : Reads) (lives : List Life) (old new : Books)
    → Lives rules look lives old new → IsSound sizes new → KeepsAcknowledged rules lives old new
kept_of rules sizes look lives old new lived sound n i life caller request x is at_n asks there good =
    let done = acknowledged rules look caller request is lives old new lived n i life x at_n asks there good in
    (done.0, done.1, again_kept rules sizes done.0 new sound caller request is done.2)

pub one_history : LivesAreOneHistory
one_history rules look lives old new lived = record {
  books = last_of rules look lives old new lived;
  told = told_of rules look lives old new lived;
  kept = λ sizes sound. kept_of rules sizes look lives old new lived sound;
  alone = λ has b. alone rules look (history_of lives) old b has;
  place = λ sizes sound. in_one_place sizes [] new sound;
  repeats = without_repeats rules look (history_of lives) old;
}

-- ---- the request in flight, sent again

-- what is no command leaves the books
idle : (rules : Rules) (caller : Caller) (request : Request) (books : Books) → is_command caller request ≡ false → after_for rules caller request books ≡ books
idle rules (Counter b) (Do command) books isnt = absurd (true≢false isnt)
idle rules HeadOffice (Office command) books isnt = absurd (true≢false isnt)
idle rules caller request books isnt = refl

command_known : (caller : Caller) (request : Request) → is_command caller request ≡ true → is_nobody caller ≡ false
command_known (Counter b) request is = refl
command_known HeadOffice request is = refl
command_known Nobody request is = absurd (false≢true is)

unmoved : (rules : Rules) (look : Reads) (event : Event) (books : Books) → after rules event books ≡ books → ActsOnce rules look event books
unmoved rules look event books same = record { reply = ap (reply_in rules look event) same; books = ap (after rules event) same }

pub acts_once : EachActsOnce
acts_once rules look event books =
    let caller = caller_in event books in
    let request = event.request caller in
    let next = after rules event books in
    elim (cases_Bool (is_command caller request)) [
      | inr isnt ↦ unmoved rules look event books (idle rules caller request books isnt)
      | inl is ↦ elim (told_as rules look books caller request is) [
        | inl (refusal, reply, same) ↦ unmoved rules look event books same
        | inr (text, reply, again) ↦
            let who : caller_in event next ≡ caller = caller_after rules caller request event.token caller books (command_known caller request is) refl in
            let says : reply_in rules look event next ≡ reply_for rules look caller request next = rw who refl in
            let does : after rules event next ≡ after_for rules caller request next = rw who refl in
            let kept = again_told rules look text next caller request is again in
            record { reply = says ∙ kept.0 ∙ sym reply; books = does ∙ kept.1 }
      ]
    ]

pub resent_first : ResentFirst
resent_first rules look life next event more answer others old new (mid, ran, (end, later, last)) failed asked answered decided =
    let history = counted_in life.events life.answers in
    let start = last_books rules (in_flight life) mid in
    let act = acts_once rules look event mid in
    let either : (start ≡ mid) ⊎ (start ≡ after rules event mid) = elim (cases_Bool life.acted) [
      | inl did ↦ inr (rw (did, failed) refl)
      | inr not ↦ inl (rw not refl)
    ] in
    let reply : reply_in rules look event start ≡ reply_in rules look event mid =
    elim either [ inl is ↦ ap (reply_in rules look event) is | inr is ↦ ap (reply_in rules look event) is ∙ act.reply ] in
    let once : after rules event start ≡ after rules event mid =
    elim either [ inl is ↦ ap (after rules event) is | inr is ↦ ap (after rules event) is ∙ act.books ] in
    let count : counted_in next.events next.answers ≡ event ∷ counted_in more others = rw (asked, answered, decided) refl in
    let sent : filter is_decided next.answers ≡ answer ∷ filter is_decided others = rw (answered, decided) refl in
    let first_told : answer ∷ filter is_decided others
    ≡ answer_of (reply_in rules look event start) ∷ told rules look (counted_in more others) (after rules event start) =
    sym sent ∙ later.decisions ∙ ap (λ es. told rules look es start) count in
    let same_end : end ≡ last_books rules (counted_in next.events next.answers) mid =
    later.books ∙ ap (λ es. last_books rules es start) count
    ∙ ap (last_books rules (counted_in more others)) once ∙ ap (λ es. last_books rules es mid) (sym count) in
    record {
      reply = same_head _ _ _ _ first_told ∙ ap answer_of reply ∙ ap (λ b. answer_of (reply_in rules look event b)) ran.books;
      books = last ∙ ap (last_books rules (in_flight next)) same_end
          ∙ sym (last_append rules (counted_in next.events next.answers) (in_flight next) mid)
          ∙ ap (last_books rules (acted_in next)) ran.books
          ∙ sym (last_append rules history (acted_in next) old);
    }

-- ---- one after another

pub lives_follow : LivesFollow
lives_follow rules look [] more old mid new is behind = subst (λ (b : Books). Lives rules look more b new) is behind
lives_follow rules look (life ∷ lives) more old mid new (end, ran, rest) behind =
    (end, ran, lives_follow rules look lives more (last_books rules (in_flight life) end) mid new rest behind)
