-- The replies to a branch depend on its own shop, the catalogue and its view alone.
use Rattle.shop_model.proofs.Common.{◌≡◌, inl, inr, ℕ, List, [], ◌∷◌, ◌++◌, false, refl, sym, ap, ◌∙◌, append_assoc, ◌==◌, cases_Bool, Act, Dispatch, OfficeAsk}
use Rattle.shop_model.proofs.Common.{Rules, verdict, office_verdict, Reply, State, Request, Do, Office, Input, FromOffice, Own, done, office_done, if_accepted}
use Rattle.shop_model.proofs.Common.{moved, answers, replies, state_after, Books, Caller, Counter, HeadOffice, Nobody, shop_of, state_of, book_done}
use Rattle.shop_model.proofs.Common.{branch_after, after_for, after, reply_for, reply_in, caller_in, is_counter, replies_to, run, parcel_seen, other_seen}
use Rattle.shop_model.proofs.Common.{office_seen, seen_of, view, HasNumbers, BranchesAreAlone, BranchesAreIsolated}
use Rattle.shop_model.proofs.RowLemmas.{same_if}
use Rattle.shop_model.proofs.ShopLemmas.{done_other, with_arrivals}
use Rattle.shop_model.proofs.ActLaws.{done_own}
use Rattle.shop_model.proofs.NumberLemmas.{after_numbers}
use Rattle.shop_model.proofs.SameStates.{by_cases, by_verdict, told_same}
use Rattle.shop_model.proofs.Accepted.{act_holds, not_self, catalogue_stays}

-- ---- verdicts

-- ---- one event

parcel_state : (rules : Rules) (b c : ℕ) (act : Act) (books : Books)
    → ◌≡◌ {A = State} (record { catalogue = books.catalogue; shop = with_arrivals b c act books })
    (state_after rules b (parcel_seen b c act books) (state_of b books))
parcel_state rules b c (Dispatch to xs) books = elim (cases_Bool (to == b)) [ inl is ↦ rw is | inr isnt ↦ rw isnt ]
parcel_state rules b c act books = refl

parcel_replies : (rules : Rules) (b c : ℕ) (act : Act) (books : Books) → replies rules b (parcel_seen b c act books) (state_of b books) ≡ []
parcel_replies rules b c (Dispatch to xs) books = elim (cases_Bool (to == b)) [ inl is ↦ rw is | inr isnt ↦ rw isnt ]
parcel_replies rules b c act books = refl

-- the books after b's own request, as b's machine
own_state : (rules : Rules) (b : ℕ) (request : Request) (books : Books) → HasNumbers books
    → state_of b (branch_after rules b request books) ≡ moved rules b (Own request) (state_of b books)
own_state rules b (Do command) books has =
    let shop = shop_of b books in
    by_cases (λ v.
    ◌≡◌ {A = State} (state_of b (if_accepted v (book_done rules b command books) books))
    (record { catalogue = books.catalogue; shop = if_accepted v (done rules books.catalogue command shop) shop }))
    (verdict rules b books.catalogue shop command)
    (λ e i. record {
      catalogue = catalogue_stays rules b command command.act books i;
      shop =
          done_own rules b command books has
          (not_self rules b books.catalogue shop command.moment command.act (act_holds rules b books.catalogue shop command e)) i;
    })
    (λ _ _. refl) (λ _. refl)
own_state rules b request books has = refl

-- after another's request
other_state : (rules : Rules) (b c : ℕ) (request : Request) (books : Books) → HasNumbers books → (c == b) ≡ false
    → state_of b (branch_after rules c request books) ≡ state_after rules b (other_seen rules b c request books) (state_of b books)
other_state rules b c (Do command) books has differ =
    by_cases (λ v.
    state_of b (if_accepted v (book_done rules c command books) books)
    ≡ state_after rules b (if_accepted v (parcel_seen b c command.act books) []) (state_of b books))
    (verdict rules c books.catalogue (shop_of c books) command)
    (λ _.
    (λ i. record { catalogue = catalogue_stays rules c command command.act books i; shop = done_other rules b c command books has differ i })
    ∙ parcel_state rules b c command.act books)
    (λ _ _. refl) (λ _. refl)
other_state rules b c request books has differ = refl

other_replies : (rules : Rules) (b c : ℕ) (request : Request) (books : Books) → replies rules b (other_seen rules b c request books) (state_of b books) ≡ []
other_replies rules b c (Do command) books =
    by_verdict (λ inputs. replies rules b inputs (state_of b books) ≡ []) (verdict rules c books.catalogue (shop_of c books) command)
    (parcel_seen b c command.act books) [] (λ _. parcel_replies rules b c command.act books) refl
other_replies rules b c request books = refl

office_state : (rules : Rules) (b : ℕ) (request : Request) (books : Books)
    → state_of b (after_for rules HeadOffice request books) ≡ state_after rules b (office_seen rules request books) (state_of b books)
office_state rules b (Office command) books =
    by_cases (λ v. ◌≡◌ {A = State} (record { catalogue = if_accepted v (office_done command books.catalogue) books.catalogue; shop = shop_of b books })
    (state_after rules b (if_accepted v (FromOffice command ∷ []) []) (state_of b books)))
    (office_verdict rules books.catalogue command) (λ e. rw e refl) (λ _ _. refl) (λ _. refl)
office_state rules b request books = refl

office_replies : (rules : Rules) (b : ℕ) (request : Request) (books : Books) → replies rules b (office_seen rules request books) (state_of b books) ≡ []
office_replies rules b (Office command) books =
    by_verdict (λ inputs. replies rules b inputs (state_of b books) ≡ [])
    (office_verdict rules books.catalogue command) (FromOffice command ∷ []) [] (λ _. refl) refl
office_replies rules b request books = refl

one_state : (rules : Rules) (b : ℕ) (caller : Caller) (request : Request) (books : Books) → HasNumbers books
    → state_of b (after_for rules caller request books) ≡ state_after rules b (seen_of rules b caller request books) (state_of b books)
one_state rules b (Counter c) request books has = elim (cases_Bool (c == b)) [
  | inl is ↦ rw (is, same_if c b is) (own_state rules b request books has)
  | inr isnt ↦ rw isnt (other_state rules b c request books has isnt)
]
one_state rules b HeadOffice request books has = office_state rules b request books
one_state rules b Nobody request books has = refl

one_reply : (rules : Rules) (look : OfficeAsk → Books → Reply) (b : ℕ) (caller : Caller) (request : Request) (books : Books)
    → replies_to b ((caller, reply_for rules look caller request books) ∷ []) ≡ replies rules b (seen_of rules b caller request books) (state_of b books)
one_reply rules look b (Counter c) request books = elim (cases_Bool (c == b)) [
  | inl is ↦ rw (is, same_if c b is)
  | inr isnt ↦ rw isnt (sym (other_replies rules b c request books))
]
one_reply rules look b HeadOffice request books = sym (office_replies rules b request books)
one_reply rules look b Nobody request books = refl

-- ---- runs

replies-append : (rules : Rules) (b : ℕ) (xs ys : List Input) (s : State)
    → replies rules b (xs ++ ys) s ≡ replies rules b xs s ++ replies rules b ys (state_after rules b xs s)
replies-append rules b [] ys s = refl
replies-append rules b (x ∷ xs) ys s =
    rw (replies-append rules b xs ys (moved rules b x s)) (sym (append_assoc (answers rules b x s) (replies rules b xs (moved rules b x s)) _))

state_after-append : (rules : Rules) (b : ℕ) (xs ys : List Input) (s : State)
    → state_after rules b (xs ++ ys) s ≡ state_after rules b ys (state_after rules b xs s)
state_after-append rules b [] ys s = refl
state_after-append rules b (x ∷ xs) ys s = state_after-append rules b xs ys (moved rules b x s)

replies_to-cons : (b : ℕ) (a : Caller × Reply) (rest : List (Caller × Reply)) → replies_to b (a ∷ rest) ≡ replies_to b (a ∷ []) ++ replies_to b rest
replies_to-cons b a rest = elim (cases_Bool (is_counter b a.0)) [ inl is ↦ rw is | inr isnt ↦ rw isnt ]

pub alone : BranchesAreAlone
alone rules look [] books b has = record { replies = refl; state = refl }
alone rules look (event ∷ events) books b has =
    let caller = caller_in event books in
    let request = event.request caller in
    let now = after rules event books in
    let seen = seen_of rules b caller request books in
    let later = view rules b events now in
    let moves : state_of b now ≡ state_after rules b seen (state_of b books) = one_state rules b caller request books has in
    let more = alone rules look events now b (after_numbers rules caller request books has) in
    record {
      replies =
          replies_to-cons b (caller, reply_in rules look event books) (run rules look events now)
          ∙ (rw (one_reply rules look b caller request books, more.replies, moves) (sym (replies-append rules b seen later (state_of b books))));
      state = more.state ∙ rw moves (sym (state_after-append rules b seen later (state_of b books)));
    }

pub isolated : BranchesAreIsolated
isolated rules look look' events events' books books' b has has' same views =
    let seen = view rules b events' books' in
    (alone rules look events books b has).replies
    ∙ ap (λ (inputs : List Input). replies rules b inputs (state_of b books)) views
    ∙ (told_same rules b seen (state_of b books) (state_of b books') same).replies
    ∙ sym (alone rules look' events' books' b has').replies
