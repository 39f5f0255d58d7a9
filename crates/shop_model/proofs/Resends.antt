-- In a run a command that comes again gets its first reply, and changes nothing.
use Rattle.shop_model.proofs.Common.{◌≡◌, inl, inr, ℕ, zero, suc, ◌+◌, ◌-◌, ◌<◌, length, List, [], ◌∷◌, ◌++◌, filter, map, Bool, true, false, not, Some, None}
use Rattle.shop_model.proofs.Common.{Option, refl, sym, subst, ap, ◌∙◌, arith, append-nil, ◌==◌, nat_le, slice_get, ⊤, list_any, list_all, bytes_eq, cases_Bool}
use Rattle.shop_model.proofs.Common.{or_parts, and_parts, not-true, false≢true, Owned, set_at, owned_by, Text, Branch, Command, OfficeAct, AddBranch}
use Rattle.shop_model.proofs.Common.{SetManager, OfficeCommand, OfficeAsk, Rules, Refusal, TooLong, NoRoute, KeyUsed, Full, Kept, OfficeKept, Catalogue}
use Rattle.shop_model.proofs.Common.{Verdict, Again, Refused, resent, verdict, first, refusals, office_refusals, office_resent, office_verdict, Request, Do}
use Rattle.shop_model.proofs.Common.{Office, Reply, Sorry, Done, reply_text, office_text, reply_by, if_accepted, office_acted, office_done, catalogue_after}
use Rattle.shop_model.proofs.Common.{Answer, answer_of, Books, Event, Caller, Counter, HeadOffice, Nobody, shop_of, book_done, branch_with, caller_of}
use Rattle.shop_model.proofs.Common.{reply_for, after_for, after, caller_in, reply_in, run, is_decided, is_store_failure, fails_for_good, counted_in, are_new}
use Rattle.shop_model.proofs.Common.{marked_ones, books_next, books_at, FindsCounted, Asks, is_command, Keeps, IsRepeat, GetsKeptReply, is_nobody, KeepsCallers}
use Rattle.shop_model.proofs.Common.{RunsResend, KeptRowsAreKept, are_different, bytes_eq-Decides, filter-append, ◌≤◌, last_books, ResentIsAgain}
use Rattle.shop_model.proofs.Common.{OfficeResentIsAgain, resent_by, ◌⊎◌}
use Rattle.shop_model.proofs.RowLemmas.{more_yes, more_no}
use Rattle.shop_model.proofs.Resent.{done_again as branch_again}
use Rattle.shop_model.proofs.ActLaws.{bytes_same, command_same as branch_same}
use Rattle.shop_model.proofs.OfficeResent.{command_same as office_same, done_again as office_again}
use Rattle.shop_model.proofs.Repeats as repeats
use Rattle.shop_model.proofs.Histories.{decided_failure}
use Rattle.shop_model.proofs.SameStates.{by_cases, by_verdict}
use Rattle.shop_model.proofs.Accepted.{catalogue_stays}

-- ---- a token stays whose it is

nobody_known : (c : Caller) → Nobody ≡ c → is_nobody c ≡ false → ⊥
nobody_known c e known = let no : true ≡ false = ap is_nobody e ∙ known in cc

found_before : (token : Text) (n : ℕ) (c : Caller) (branches more : List Branch) → is_nobody c ≡ false
    → branch_with token n branches ≡ c → branch_with token n (branches ++ more) ≡ c
found_before token n c [] more known e = absurd (nobody_known c e known)
found_before token n c (branch ∷ branches) more known e = elim (cases_Bool (bytes_eq branch.token token)) [
  | inl is ↦ rw is (rw is at e)
  | inr isnt ↦ rw isnt (found_before token (n + 1) c branches more known (rw isnt at e))
]

found_same : (token : Text) (n k : ℕ) (f : Branch → Branch) (branches : List Branch) → ((branch : Branch) → (f branch).token ≡ branch.token)
    → branch_with token n (set_at k f branches) ≡ branch_with token n branches
found_same token n k f [] same = refl
found_same token n k f (branch ∷ branches) same = elim (cases_Bool (k == 1)) [
  | inl is ↦ rw (is, same branch) refl
  | inr isnt ↦ rw isnt (elim (cases_Bool (bytes_eq branch.token token)) [
    | inl found ↦ rw found refl
    | inr other ↦ rw other (found_same token (n + 1) (k - 1) f branches same)
  ])
]

office_found : (act : OfficeAct) (catalogue : Catalogue) (token : Text) (c : Caller) → is_nobody c ≡ false → branch_with token 1 catalogue.branches ≡ c
    → branch_with token 1 (office_acted act catalogue).branches ≡ c
office_found (AddBranch branch) catalogue token c known e = found_before token 1 c catalogue.branches (record branch { manager = None } ∷ []) known e
office_found (SetManager k s) catalogue token c known e =
    found_same token 1 k (λ (r : Branch). record r { manager = Some s }) catalogue.branches (λ _. refl) ∙ e
office_found act catalogue token c known e = e

office_token : (act : OfficeAct) (catalogue : Catalogue) → (office_acted act catalogue).office_token ≡ catalogue.office_token
office_token (AddBranch branch) catalogue = refl
office_token act catalogue = refl

acted_caller : (act : OfficeAct) (catalogue : Catalogue) (token : Option Text) (c : Caller)
    → is_nobody c ≡ false → caller_of token catalogue ≡ c → caller_of token (office_acted act catalogue) ≡ c
acted_caller act catalogue None c known e = absurd (nobody_known c e known)
acted_caller act catalogue (Some token) c known e = elim (cases_Bool (bytes_eq token catalogue.office_token)) [
  | inl is ↦
      let head : HeadOffice ≡ c = rw is at e in
      let same : bytes_eq token (office_acted act catalogue).office_token ≡ true = rw (office_token act catalogue) is in
      rw same head
  | inr isnt ↦
      let found : branch_with token 1 catalogue.branches ≡ c = rw isnt at e in
      let other : bytes_eq token (office_acted act catalogue).office_token ≡ false = rw (office_token act catalogue) isnt in
      rw other (office_found act catalogue token c known found)
]

office_caller : (rules : Rules) (command : OfficeCommand) (catalogue : Catalogue) (token : Option Text) (c : Caller)
    → is_nobody c ≡ false → caller_of token catalogue ≡ c
    → caller_of token (catalogue_after rules command catalogue) ≡ c
office_caller rules command catalogue token c known e =
    by_verdict (λ it. caller_of token it ≡ c) (office_verdict rules catalogue command)
    (office_done command catalogue) catalogue (λ _. done token (acted_caller command.act catalogue token c known e)) e
  where
    done : (token : Option Text) → caller_of token (office_acted command.act catalogue) ≡ c → caller_of token (office_done command catalogue) ≡ c
    done None e = e
    done (Some token) e = e

-- ---- what is kept stays, and more is added after it

abbrev Begins : {A : Type 0} → List A → List A → Type 0
Begins {A} old new = (more : List A) × (new ≡ old ++ more)

begins_itself : {A : Type 0} (xs : List A) → Begins xs xs
begins_itself xs = ([], sym (append-nil xs))

owned_more : (b : ℕ) (rows : List (Owned Kept)) (row : Owned Kept) → Begins (owned_by b rows) (owned_by b (rows ++ row ∷ []))
owned_more b rows row = elim (cases_Bool (row.owner == b)) [
  | inl is ↦ (row.it ∷ [], more_yes (λ (r : Owned Kept). r.it) (λ r. r.owner == b) rows row is)
  | inr isnt ↦ ([], more_no (λ (r : Owned Kept). r.it) (λ r. r.owner == b) rows row isnt ∙ sym (append-nil (owned_by b rows)))
]

grows_by : (rules : Rules) (b : ℕ) (caller : Caller) (request : Request) (books : Books)
    → Begins (shop_of b books).kept (shop_of b (after_for rules caller request books)).kept
grows_by rules b (Counter c) (Do command) books =
    by_verdict (λ (it : Books). Begins (shop_of b books).kept (shop_of b it).kept)
    (verdict rules c books.catalogue (shop_of c books) command) (book_done rules c command books) books
    (λ _. owned_more b books.kept (record { owner = c; it = record { command = command; reply = reply_text rules command (shop_of c books) } }))
    (begins_itself (shop_of b books).kept)
grows_by rules b HeadOffice (Office command) books = begins_itself (shop_of b books).kept
grows_by rules b caller request books = begins_itself (shop_of b books).kept

pub never_again : (cs : List (Refusal × Bool)) (text : Text) → first cs ≡ Again text → ⊥
never_again [] text e = cc
never_again (c ∷ cs) text e = elim (cases_Bool c.1) [
  | inl is ↦ let no : Refused c.0 ≡ Again text = rw is at e in cc
  | inr isnt ↦ never_again cs text (rw isnt at e)
]

begins : {A : Type 0} (same : A → Bool) (reply : A → Text) (ks more : List A) (v w : Verdict) (text : Text)
    → (v ≡ Again text → ⊥) → resent_by same reply ks v ≡ Again text → resent_by same reply (ks ++ more) w ≡ Again text
begins same reply [] more v w text fresh e = absurd (fresh e)
begins same reply (k ∷ ks) more v w text fresh e = elim (cases_Bool (same k)) [
  | inl is ↦ rw is (rw is at e)
  | inr isnt ↦ let no : Refused KeyUsed ≡ Again text = rw isnt at e in cc
]

office_grows : (rules : Rules) (caller : Caller) (request : Request) (books : Books)
    → Begins books.catalogue.kept (after_for rules caller request books).catalogue.kept
office_grows rules (Counter b) (Do command) books =
    by_verdict (λ (it : Books). Begins books.catalogue.kept it.catalogue.kept)
    (verdict rules b books.catalogue (shop_of b books) command) (book_done rules b command books) books
    (λ _. ([], ap (λ (it : Catalogue). it.kept) (catalogue_stays rules b command command.act books) ∙ sym (append-nil books.catalogue.kept)))
    (begins_itself books.catalogue.kept)
office_grows rules HeadOffice (Office command) books =
    by_verdict (λ (it : Catalogue). Begins books.catalogue.kept it.kept)
    (office_verdict rules books.catalogue command) (office_done command books.catalogue) books.catalogue
    (λ _. (record { command = command; reply = office_text command books.catalogue } ∷ [], refl)) (begins_itself books.catalogue.kept)
office_grows rules caller request books = begins_itself books.catalogue.kept

kept_behind : {A : Type 0} (same : A → Bool) (reply : A → Text) (mine : A → Bool) (old new : List A) (v w : Verdict) (text : Text)
    → Begins old new → (v ≡ Again text → ⊥)
    → resent_by same reply (filter mine old) v ≡ Again text → resent_by same reply (filter mine new) w ≡ Again text
kept_behind same reply mine old new v w text grows fresh e =
    ap (λ ks. resent_by same reply ks w) (ap (filter mine) grows.1 ∙ filter-append mine old grows.0)
    ∙ begins same reply (filter mine old) (filter mine grows.0) v w text fresh e

-- ---- whose a token is, after an event

pub caller_after : (rules : Rules) (caller : Caller) (request : Request) (token : Option Text) (c : Caller) (books : Books)
    → is_nobody c ≡ false → caller_of token books.catalogue ≡ c
    → caller_of token (after_for rules caller request books).catalogue ≡ c
caller_after rules (Counter b) (Do command) token c books known e =
    by_verdict (λ (it : Books). caller_of token it.catalogue ≡ c)
    (verdict rules b books.catalogue (shop_of b books) command) (book_done rules b command books) books
    (λ _. ap (caller_of token) (catalogue_stays rules b command command.act books) ∙ e) e
caller_after rules HeadOffice (Office command) token c books known e = office_caller rules command books.catalogue token c known e
caller_after rules caller request token c books known e = e

-- ---- a place and a later one

-- what each event keeps, later places keep
kept_at : (P : Books → Type 0) (rules : Rules) → ((e : Event) (books : Books) → P books → P (after rules e books))
    → (events : List Event) (answers : List Answer) (books : Books) (n : ℕ)
    → P books → P (books_at rules events answers books n)
kept_at P rules keeps events answers books zero h = h
kept_at P rules keeps (e ∷ events) (a ∷ answers) books (suc n) h =
    kept_at P rules keeps events answers (books_next rules e a books) n (elim (cases_Bool (is_decided a)) [
      | inl fine ↦ rw fine (keeps e books h)
      | inr lacks ↦ rw lacks h
    ])
kept_at P rules keeps events answers books n h = h

pub kept_from : (P : Books → Type 0) (rules : Rules) → ((e : Event) (books : Books) → P books → P (after rules e books))
    → (events : List Event) (answers : List Answer) (books : Books) (i j : ℕ)
    → i ≤ j → P (books_at rules events answers books i) → P (books_at rules events answers books j)
kept_from P rules keeps events answers books zero j less h = kept_at P rules keeps events answers books j h
kept_from P rules keeps events answers books (suc i) zero less h = absurd (omega (arith, less))
kept_from P rules keeps (e ∷ events) (a ∷ answers) books (suc i) (suc j) less h =
    kept_from P rules keeps events answers (books_next rules e a books) i j (omega (arith, less)) h
kept_from P rules keeps events answers books (suc i) (suc j) less h = h

callers_stay : (rules : Rules) (events : List Event) (answers : List Answer) (books : Books) → KeepsCallers rules events answers books
callers_stay rules events answers books i j event less known =
    let c = caller_in event (books_at rules events answers books i) in
    kept_from (λ b. caller_in event b ≡ c) rules
    (λ e b is. caller_after rules (caller_in e b) (e.request (caller_in e b)) event.token c b known is) events answers books i j less refl

-- ---- what an event finds

pub failure_undecided : (answer : Answer) → is_store_failure answer ≡ true → is_decided answer ≡ false
failure_undecided answer is = elim (cases_Bool (answer.status == 503)) [
  | inl bad ↦ rw bad refl
  | inr good ↦ let no : false ≡ true = rw good at is in absurd (false≢true no)
]

-- after a failure nothing more changes the books
all_failed : (rules : Rules) (events : List Event) (answers : List Answer) (books : Books) (n : ℕ)
    → list_all is_store_failure answers ≡ true → books_at rules events answers books n ≡ books
all_failed rules events answers books zero all = refl
all_failed rules (e ∷ events) (a ∷ answers) books (suc n) all =
    let h = and_parts (is_store_failure a) (list_all is_store_failure answers) all in
    rw (failure_undecided a h.0) (all_failed rules events answers books n h.1)
all_failed rules events answers books n all = refl

pub finds_counted : (rules : Rules) (events : List Event) (answers : List Answer) (books : Books)
    → fails_for_good answers ≡ true → FindsCounted rules events answers books
finds_counted rules events answers books good zero = refl
finds_counted rules (e ∷ events) (a ∷ answers) books good (suc n) = elim (cases_Bool (is_decided a)) [
  | inl fine ↦
      let later : fails_for_good answers ≡ true = rw (decided_failure a fine) at good in
      rw fine (finds_counted rules events answers (after rules e books) later n)
  | inr lacks ↦ elim (cases_Bool (is_store_failure a)) [
    | inl failed ↦ let all : list_all is_store_failure answers ≡ true = rw failed at good in rw (lacks, failed) (all_failed rules events answers books n all)
    | inr sound ↦ let later : fails_for_good answers ≡ true = rw sound at good in rw (lacks, sound) (finds_counted rules events answers books later n)
  ]
]
finds_counted rules events answers books good n = refl

-- ---- commands, each of its caller

pub by_command : (P : Caller → Request → Type 0) → ((b : ℕ) (command : Command) → P (Counter b) (Do command))
    → ((command : OfficeCommand) → P HeadOffice (Office command))
    → (caller : Caller) (request : Request) → is_command caller request ≡ true → P caller request
by_command P mine theirs (Counter b) (Do command) is = mine b command
by_command P mine theirs HeadOffice (Office command) is = theirs command
by_command P mine theirs caller request is = absurd (false≢true is)

abbrev pub verdict_of : Rules → Caller → Request → Books → Verdict
verdict_of rules (Counter b) (Do command) books = verdict rules b books.catalogue (shop_of b books) command
verdict_of rules HeadOffice (Office command) books = office_verdict rules books.catalogue command
verdict_of rules caller request books = Refused NoRoute

-- a command that its caller gave before is one whatever comes next
pub stays : (rules : Rules) (text : Text) (who : Caller) (what : Request) (books : Books) (caller : Caller) (request : Request)
    → is_command caller request ≡ true
    → verdict_of rules caller request books ≡ Again text → verdict_of rules caller request (after_for rules who what books) ≡ Again text
stays rules text who what books =
    by_command
    (λ caller request. verdict_of rules caller request books ≡ Again text → verdict_of rules caller request (after_for rules who what books) ≡ Again text)
    (λ b command e. kept_behind _ _ (λ (k : Kept). bytes_eq k.command.key command.key) (shop_of b books).kept _ _ _ text (grows_by rules b who what books)
    (never_again (refusals rules b books.catalogue (shop_of b books) command) text) e)
    (λ command e. kept_behind _ _ (λ (k : OfficeKept). bytes_eq k.command.key command.key) books.catalogue.kept _ _ _ text (office_grows rules who what books)
    (never_again ((Full, nat_le rules.commands (length books.catalogue.kept)) ∷ office_refusals books.catalogue command.act) text) e)

-- it gets its kept reply, and leaves the books
pub again_told : (rules : Rules) (look : OfficeAsk → Books → Reply) (text : Text) (books : Books) (caller : Caller) (request : Request)
    → is_command caller request ≡ true
    → verdict_of rules caller request books ≡ Again text
    → (reply_for rules look caller request books ≡ Done text) × (after_for rules caller request books ≡ books)
again_told rules look text books =
    by_command (λ caller request.
    verdict_of rules caller request books ≡ Again text
    → (reply_for rules look caller request books ≡ Done text) × (after_for rules caller request books ≡ books))
    (λ b command e. (ap (λ v. reply_by v (reply_text rules command (shop_of b books))) e, ap (λ v. if_accepted v (book_done rules b command books) books) e))
    (λ command e. (
      ap (λ v. reply_by v (office_text command books.catalogue)) e,
      ap (λ v. record books { catalogue = if_accepted v (office_done command books.catalogue) books.catalogue }) e,
    ))

-- a kept command is one that was given before
kept_again : (rules : Rules) (text : Text) (books : Books) (caller : Caller) (request : Request)
    → is_command caller request ≡ true → Keeps caller request text books → verdict_of rules caller request books ≡ Again text
kept_again rules text books = by_command (λ caller request. Keeps caller request text books → verdict_of rules caller request books ≡ Again text)
    (λ b command keeps. ap (λ ks. resent command ks (first (refusals rules b books.catalogue (shop_of b books) command))) keeps ∙ rw (branch_same command))
    (λ command keeps.
    ap (λ ks. office_resent command ks (first ((Full, nat_le rules.commands (length books.catalogue.kept)) ∷ office_refusals books.catalogue command.act)))
    keeps
    ∙ rw (office_same command))

-- ---- a run, step by step

-- A decision is the step's reply, and the rest goes on after it. Without a decision the rest goes on from the same books, or nothing more is decided.
abbrev pub Steps : Rules → (OfficeAsk → Books → Reply) → List Event → List Answer → Books → Type 0
Steps rules look [] answers books = ⊤
Steps rules look (event ∷ events) [] books = ⊤
Steps rules look (event ∷ events) (answer ∷ answers) books =
    (is_decided answer ≡ true → (answer ≡ answer_of (reply_in rules look event books)) × Steps rules look events answers (after rules event books))
    × (is_decided answer ≡ false → is_store_failure answer ≡ false → Steps rules look events answers books)
    × (is_store_failure answer ≡ true → list_all is_store_failure answers ≡ true)

abbrev answers_in : Rules → (OfficeAsk → Books → Reply) → List Event → Books → List Answer
answers_in rules look events books = map (λ (it : Caller × Reply). answer_of it.1) (run rules look events books)

pub same_head : {A : Type 0} (x y : A) (xs ys : List A) → x ∷ xs ≡ y ∷ ys → x ≡ y
same_head x y xs ys e = cc

pub same_tail : {A : Type 0} (x y : A) (xs ys : List A) → x ∷ xs ≡ y ∷ ys → xs ≡ ys
same_tail x y xs ys e = cc

pub steps_of : (rules : Rules) (look : OfficeAsk → Books → Reply) (events : List Event) (answers : List Answer) (books : Books) → length answers ≡ length events
    → fails_for_good answers ≡ true → filter is_decided answers ≡ answers_in rules look (counted_in events answers) books
    → Steps rules look events answers books
steps_of rules look [] answers books each good is = tt
steps_of rules look (event ∷ events) [] books each good is = tt
steps_of rules look (event ∷ events) (answer ∷ answers) books each good is =
    let each' : length answers ≡ length events = omega (arith, each) in (
      (λ decided.
          let fine = decided_failure answer decided in
          let good' : fails_for_good answers ≡ true = rw fine at good in
          let both : answer ∷ filter is_decided answers
          ≡ answer_of (reply_in rules look event books) ∷ answers_in rules look (counted_in events answers) (after rules event books) =
          rw decided at is in
          (same_head _ _ _ _ both, steps_of rules look events answers (after rules event books) each' good' (same_tail _ _ _ _ both))),
      (λ lacks fine.
          let good' : fails_for_good answers ≡ true = rw fine at good in
          let rest : filter is_decided answers ≡ answers_in rules look (counted_in events answers) books = rw (lacks, fine) at is in
          steps_of rules look events answers books each' good' rest),
      (λ failed. rw failed at good),
    )

-- ---- the command comes again

sorry_status : (refusal : Refusal) → (answer_of (Sorry refusal)).status ≡ 200 → ⊥
sorry_status TooLong e = omega (arith, e)
sorry_status refusal e = omega (arith, e)

pub good_decided : (answer : Answer) → answer.status ≡ 200 → is_decided answer ≡ true
good_decided answer is = rw is refl

pub same_some : {A : Type 0} (a x : A) → ◌≡◌ {A = Option A} (Some a) (Some x) → a ≡ x
same_some a x e = cc

pub same_none : {A : Type 0} (x : A) → ◌≡◌ {A = Option A} None (Some x) → ⊥
same_none x e = cc

all_at : (p : Answer → Bool) (answers : List Answer) (i : ℕ) (x : Answer) → list_all p answers ≡ true → slice_get answers i ≡ Some x → p x ≡ true
all_at p [] i x all e = absurd (same_none x e)
all_at p (a ∷ answers) zero x all e = rw (sym (same_some a x e)) (and_parts (p a) (list_all p answers) all).0
all_at p (a ∷ answers) (suc i) x all e = all_at p answers i x (and_parts (p a) (list_all p answers) all).1 e

-- if the store can do its part, the rest goes on after the event
pub steps_next : (rules : Rules) (look : OfficeAsk → Books → Reply) (e : Event) (events : List Event) (a : Answer) (answers : List Answer) (books : Books)
    → Steps rules look (e ∷ events) (a ∷ answers) books
    → is_store_failure a ≡ false → Steps rules look events answers (books_next rules e a books)
steps_next rules look e events a answers books steps sound = elim (cases_Bool (is_decided a)) [
  | inl fine ↦ rw fine (steps.0 fine).1
  | inr lacks ↦ rw lacks (steps.1 lacks sound)
]

-- it can where a later event is decided
pub sound_before : (rules : Rules) (look : OfficeAsk → Books → Reply) (e : Event) (events : List Event) (a : Answer) (answers : List Answer) (books : Books)
    → Steps rules look (e ∷ events) (a ∷ answers) books
    → (j : ℕ) (x : Answer) → slice_get answers j ≡ Some x → is_decided x ≡ true → is_store_failure a ≡ false
sound_before rules look e events a answers books steps j x there decided = elim (cases_Bool (is_store_failure a)) [
  | inr sound ↦ sound
  | inl failed ↦
      let bad = all_at is_store_failure answers j x (steps.2 failed) there in
      let no : false ≡ true = sym (decided_failure x decided) ∙ bad in
      absurd (false≢true no)
]

-- a decision is the reply of its event's step
told_at : (rules : Rules) (look : OfficeAsk → Books → Reply) (events : List Event) (answers : List Answer) (books : Books)
    → Steps rules look events answers books
    → (i : ℕ) (e : Event) (x : Answer) → slice_get events i ≡ Some e → slice_get answers i ≡ Some x → is_decided x ≡ true
    → (x ≡ answer_of (reply_in rules look e (books_at rules events answers books i)))
    × (books_at rules events answers books (suc i) ≡ after rules e (books_at rules events answers books i))
told_at rules look [] answers books steps i e x stands there decided = absurd (same_none e stands)
told_at rules look (f ∷ events) [] books steps i e x stands there decided = absurd (same_none x there)
told_at rules look (f ∷ events) (a ∷ answers) books steps zero e x stands there decided =
    let event : f ≡ e = same_some f e stands in
    let answer : a ≡ x = same_some a x there in
    let fine : is_decided a ≡ true = rw answer decided in
    (sym answer ∙ (steps.0 fine).0 ∙ ap (λ it. answer_of (reply_in rules look it books)) event, rw fine (ap (λ it. after rules it books) event))
told_at rules look (f ∷ events) (a ∷ answers) books steps (suc i) e x stands there decided =
    let sound = sound_before rules look f events a answers books steps i x there decided in
    told_at rules look events answers (books_next rules f a books) (steps_next rules look f events a answers books steps sound) i e x stands there decided

-- a command is refused, and leaves the books, or gets its reply, and is given again from then on
abbrev pub IsTold : Reply → Books → Books → (Books → Verdict) → Type 0
IsTold reply old new verdict =
    ((refusal : Refusal) × (reply ≡ Sorry refusal) × (new ≡ old)) ⊎ ((text : Text) × (reply ≡ Done text) × (verdict new ≡ Again text))

pub told : (rules : Rules) (look : OfficeAsk → Books → Reply) (books : Books) (caller : Caller) (request : Request) → is_command caller request ≡ true
    → IsTold (reply_for rules look caller request books) books (after_for rules caller request books) (verdict_of rules caller request)
told rules look books =
    by_command
    (λ caller request. IsTold (reply_for rules look caller request books) books (after_for rules caller request books) (verdict_of rules caller request))
    (λ b command. let text = reply_text rules command (shop_of b books) in
    by_cases (λ v. IsTold (reply_by v text) books (if_accepted v (book_done rules b command books) books) (verdict_of rules (Counter b) (Do command)))
    (verdict rules b books.catalogue (shop_of b books) command)
    (λ e. inr (text, refl, branch_again rules b command books e)) (λ text e. inr (text, refl, e)) (λ refusal. inl (refusal, refl, refl)))
    (λ command. let text = office_text command books.catalogue in
    by_cases (λ v.
    IsTold (reply_by v text) books (record books { catalogue = if_accepted v (office_done command books.catalogue) books.catalogue })
    (verdict_of rules HeadOffice (Office command)))
    (office_verdict rules books.catalogue command)
    (λ e. inr (text, refl, office_again rules command books.catalogue e)) (λ text e. inr (text, refl, e)) (λ refusal. inl (refusal, refl, refl)))

got : (rules : Rules) (look : OfficeAsk → Books → Reply) (x : Answer) (books : Books) (caller : Caller) (request : Request) → is_command caller request ≡ true
    → x ≡ answer_of (reply_for rules look caller request books) → x.status ≡ 200
    → (text : Text) × (x ≡ answer_of (Done text)) × (verdict_of rules caller request (after_for rules caller request books) ≡ Again text)
got rules look x books caller request is reply good = elim (told rules look books caller request is) [
  | inl (refusal, sorry, same) ↦ absurd (sorry_status refusal (ap (λ (a : Answer). a.status) (sym (reply ∙ ap answer_of sorry)) ∙ good))
  | inr (text, done, again) ↦ (text, reply ∙ ap answer_of done, again)
]

module _ (rules : Rules) (caller : Caller) (request : Request) (is : is_command caller request ≡ true) where
  still_again : (text : Text) (e : Event) (books : Books) → verdict_of rules caller request books ≡ Again text
      → verdict_of rules caller request (after rules e books) ≡ Again text
  still_again text e books = stays rules text (caller_in e books) (e.request (caller_in e books)) books caller request is

  -- from a place at which it is one that was given before
  again_later : (text : Text) (events : List Event) (answers : List Answer) (books : Books) (i j : ℕ) → i ≤ j
      → verdict_of rules caller request (books_at rules events answers books i) ≡ Again text
      → verdict_of rules caller request (books_at rules events answers books j) ≡ Again text
  again_later text = kept_from (λ b. verdict_of rules caller request b ≡ Again text) rules (still_again text)

  -- after any events
  pub again_through : (text : Text) (events : List Event) (books : Books) → verdict_of rules caller request books ≡ Again text
      → verdict_of rules caller request (last_books rules events books) ≡ Again text
  again_through text [] books again = again
  again_through text (e ∷ events) books again = again_through text events (after rules e books) (still_again text e books again)

module _ (rules : Rules) (look : OfficeAsk → Books → Reply) (caller : Caller) (request : Request) (is : is_command caller request ≡ true) where
  -- what its caller is answered by the step at a place, and what it leaves
  pub asked_at : (events : List Event) (answers : List Answer) (books : Books) → Steps rules look events answers books → (i : ℕ) (x : Answer)
      → Asks rules events answers books i caller request → slice_get answers i ≡ Some x → is_decided x ≡ true
      → (x ≡ answer_of (reply_for rules look caller request (books_at rules events answers books i)))
      × (books_at rules events answers books (suc i) ≡ after_for rules caller request (books_at rules events answers books i))
  asked_at events answers books steps i x asks there decided =
      let told = told_at rules look events answers books steps i asks.event x asks.stands there decided in
      (told.0 ∙ rw (asks.who, asks.what) refl, told.1 ∙ rw (asks.who, asks.what) refl)

  -- after its first reply
  each_again : (text : Text) (events : List Event) (answers : List Answer) (books : Books)
      → Steps rules look events answers books → (i j : ℕ) (x : Answer) → i ≤ j
      → verdict_of rules caller request (books_at rules events answers books i) ≡ Again text
      → Asks rules events answers books j caller request → slice_get answers j ≡ Some x
      → is_decided x ≡ true → IsRepeat rules events answers books j x (answer_of (Done text))
  each_again text events answers books steps i j x less again asks there decided =
      let does = asked_at events answers books steps j x asks there decided in
      let kept =
      again_told rules look text (books_at rules events answers books j) caller request is
      (again_later rules caller request is text events answers books i j less again) in
      record { reply = does.0 ∙ ap answer_of kept.0; nothing = does.1 ∙ kept.1 }

  -- and at it
  pub got_at : (events : List Event) (answers : List Answer) (books : Books) → Steps rules look events answers books → (i : ℕ) (x : Answer)
      → Asks rules events answers books i caller request → slice_get answers i ≡ Some x → x.status ≡ 200
      → (text : Text) × (x ≡ answer_of (Done text)) × ((j : ℕ) → i < j → verdict_of rules caller request (books_at rules events answers books j) ≡ Again text)
  got_at events answers books steps i x asks there good =
      let does = asked_at events answers books steps i x asks there (good_decided x good) in
      let done = got rules look x (books_at rules events answers books i) caller request is does.0 good in (
        done.0,
        done.1,
        λ j less.
            again_later rules caller request is done.0 events answers books (suc i) j less
            (subst (λ (b : Books). verdict_of rules caller request b ≡ Again done.0) (sym does.1) done.2),
      )

-- a kept command that comes again; what isn't a command isn't kept
before_stays : (rules : Rules) (look : OfficeAsk → Books → Reply) (events : List Event) (answers : List Answer) (books : Books)
    → Steps rules look events answers books → GetsKeptReply rules events answers books
before_stays rules look events answers books steps j caller request text again keeps asks there decided =
    let is = is_kept caller request keeps in
    each_again rules look caller request is text events answers books steps 0 j again
    (omega arith) (kept_again rules text books caller request is keeps) asks there decided
  where
    is_kept : (caller : Caller) (request : Request) → Keeps caller request text books → is_command caller request ≡ true
    is_kept (Counter b) (Do command) keeps = refl
    is_kept HeadOffice (Office command) keeps = refl
    is_kept caller request keeps = absurd keeps

-- ---- without the commands that come again

marked_map : {A B : Type 0} (f : A → B) (marks : List Bool) (xs : List A) → map f (marked_ones marks xs) ≡ marked_ones marks (map f xs)
marked_map f [] xs = refl
marked_map f (m ∷ marks) [] = refl
marked_map f (m ∷ marks) (x ∷ xs) =
    elim (cases_Bool m) [ inl is ↦ rw is (ap (λ r. f x ∷ r) (marked_map f marks xs)) | inr isnt ↦ rw isnt (marked_map f marks xs) ]

pub runs_resend : RunsResend
runs_resend rules look events answers old new ran =
    let steps = steps_of rules look events answers old ran.each ran.stays ran.decisions in
    let history = counted_in events answers in
    let news = are_new rules history old in
    let law = repeats.without_repeats rules look history old in
    record {
      finds = finds_counted rules events answers old ran.stays;
      first = λ i j caller request x y less is before later ai aj good decided.
          let done = got_at rules look caller request is events answers old steps i x before ai good in
          let it = each_again rules look caller request is done.0 events answers old steps j j y (omega arith) (done.2 j less) later aj decided in
          record { reply = it.reply ∙ sym done.1; nothing = it.nothing };
      before = before_stays rules look events answers old steps;
      callers = callers_stay rules events answers old;
      others =
          ap (map (λ (it : Caller × Reply). answer_of it.1)) law.replies
          ∙ marked_map (λ (it : Caller × Reply). answer_of it.1) news (run rules look history old)
          ∙ ap (marked_ones news) (sym ran.decisions);
      books = ran.books ∙ sym law.leaves;
    }

-- ---- after any events

pub resent_again : ResentIsAgain
resent_again rules b command books events e =
    again_through rules (Counter b) (Do command) refl _ events (book_done rules b command books) (branch_again rules b command books e)

pub office_resent_again : OfficeResentIsAgain
office_resent_again rules command books events e =
    again_through rules HeadOffice (Office command) refl _ events
    (record books { catalogue = office_done command books.catalogue }) (office_again rules command books.catalogue e)

-- ---- kept rows

turned : (a b : Text) → bytes_eq a b ≡ false → bytes_eq b a ≡ false
turned a b isnt = elim (cases_Bool (bytes_eq b a)) [
  | inr other ↦ other
  | inl is ↦ let same : bytes_eq a b ≡ true = (bytes_eq-Decides a b).1 (sym ((bytes_eq-Decides b a).0 is)) in absurd (false≢true (sym isnt ∙ same))
]

pub none_under : {A : Type 0} (key : A → Text) (x : A) (xs : List A)
    → list_any (λ y. bytes_eq (key x) (key y)) xs ≡ false → filter (λ y. bytes_eq (key y) (key x)) xs ≡ []
none_under key x [] none = refl
none_under key x (y ∷ ys) none =
    let h = or_parts (bytes_eq (key x) (key y)) (list_any (λ y. bytes_eq (key x) (key y)) ys) none in rw (turned (key x) (key y) h.0) (none_under key x ys h.1)

other_key : {A : Type 0} (key : A → Text) (y x : A) (xs : List A) (n : ℕ)
    → list_any (λ z. bytes_eq (key y) (key z)) xs ≡ false → slice_get xs n ≡ Some x → bytes_eq (key y) (key x) ≡ false
other_key key y x [] n none there = absurd (same_none x there)
other_key key y x (z ∷ xs) zero none there =
    let h = or_parts (bytes_eq (key y) (key z)) (list_any (λ z. bytes_eq (key y) (key z)) xs) none in
    subst (λ it. bytes_eq (key y) (key it) ≡ false) (same_some z x there) h.0
other_key key y x (z ∷ xs) (suc n) none there =
    let h = or_parts (bytes_eq (key y) (key z)) (list_any (λ z. bytes_eq (key y) (key z)) xs) none in other_key key y x xs n h.1 there

-- where no key is twice, a row is the one under its key
one_under : {A : Type 0} (key : A → Text) (xs : List A) (x : A) (n : ℕ)
    → are_different (λ (earlier later : A). bytes_eq (key earlier) (key later)) xs ≡ true → slice_get xs n ≡ Some x
    → filter (λ y. bytes_eq (key y) (key x)) xs ≡ x ∷ []
one_under key [] x n apart there = absurd (same_none x there)
one_under {A = A} key (y ∷ ys) x zero apart there =
    let h =
    and_parts (not (list_any (λ z. bytes_eq (key y) (key z)) ys)) (are_different (λ (earlier later : A). bytes_eq (key earlier) (key later)) ys) apart in
    let same : y ≡ x = same_some y x there in
    let first : filter (λ z. bytes_eq (key z) (key y)) (y ∷ ys) ≡ y ∷ [] = rw (bytes_same (key y), none_under key y ys (not-true _ h.0)) refl in
    subst (λ (it : A). filter (λ z. bytes_eq (key z) (key it)) (y ∷ ys) ≡ it ∷ []) same first
one_under {A = A} key (y ∷ ys) x (suc n) apart there =
    let h =
    and_parts (not (list_any (λ z. bytes_eq (key y) (key z)) ys)) (are_different (λ (earlier later : A). bytes_eq (key earlier) (key later)) ys) apart in
    rw (other_key key y x ys n (not-true _ h.0) there) (one_under key ys x n h.1 there)

pub kept_rows_kept : KeptRowsAreKept
kept_rows_kept rules books sound = record {
  branches = λ b place it there. one_under (λ (k : Kept). k.command.key) (shop_of b books).kept it place (sound.links b).keys there;
  office = λ place it there. one_under (λ (k : OfficeKept). k.command.key) books.catalogue.kept it place sound.catalogue.keys there;
}
