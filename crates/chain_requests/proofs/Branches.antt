-- In a run, each branch gets the replies of its own machine.
use Rattle.shop_schema.proofs.Common.{◌≡◌, ◌∙◌, inl, inr, ℕ, List, [], ◌∷◌, true, map, refl, ap, Bool, filter, cases_Bool, and_parts, OfficeAsk, Rules, Reply}
use Rattle.shop_schema.proofs.Common.{Answer, answer_of, Books, Event, Caller, is_counter, caller_in, after, replies_to, run, state_of, IsRun, counted_in}
use Rattle.shop_schema.proofs.Common.{is_decided, is_store_failure, fails_for_good, alone, decided_failure, failure_undecided, list_all}
use Rattle.shop_model.specs.Repeats.{marked_ones}
use Rattle.chain_requests.specs.Branches.{answered_to, KeepsBranches}

-- which events of the counted history were the branch's, by the catalogue at the time of each event
abbrev are_of : Rules → (OfficeAsk → Books → Reply) → ℕ → List Event → Books → List Bool
are_of rules look b events books = map (λ (it : Caller × Reply). is_counter b it.0) (run rules look events books)

-- those decisions that answer the branch
abbrev answers_to : Rules → (OfficeAsk → Books → Reply) → ℕ → List Event → List Answer → Books → List Answer
answers_to rules look b events answers books = marked_ones (are_of rules look b (counted_in events answers) books) (filter is_decided answers)

-- a caller's replies, picked from the replies to all callers
told_to : (b : ℕ) (all : List (Caller × Reply))
    → marked_ones (map (λ (it : Caller × Reply). is_counter b it.0) all) (map (λ (it : Caller × Reply). answer_of it.1) all) ≡ map answer_of (replies_to b all)
told_to b [] = refl
told_to b (it ∷ all) = elim (cases_Bool (is_counter b it.0)) [
  | inl is ↦ rw is (ap (λ (rest : List Answer). answer_of it.1 ∷ rest) (told_to b all))
  | inr isnt ↦ rw isnt (told_to b all)
]

-- after a failure, nothing is decided
none_told : (rules : Rules) (b : ℕ) (events : List Event) (answers : List Answer) (books : Books)
    → list_all is_store_failure answers ≡ true → answered_to rules b events answers books ≡ []
none_told rules b [] answers books all = refl
none_told rules b (event ∷ events) [] books all = refl
none_told rules b (event ∷ events) (answer ∷ answers) books all =
    let h = and_parts (is_store_failure answer) (list_all is_store_failure answers) all in
    rw (failure_undecided answer h.0) (none_told rules b events answers books h.1)

-- the branch gets the same answers, event by event or by the run over the counted history
told_same : (rules : Rules) (look : OfficeAsk → Books → Reply) (b : ℕ) (events : List Event) (answers : List Answer) (books : Books)
    → fails_for_good answers ≡ true
    → answered_to rules b events answers books ≡ answers_to rules look b events answers books
told_same rules look b [] answers books stays = refl
told_same rules look b (event ∷ events) [] books stays = refl
told_same rules look b (event ∷ events) (answer ∷ answers) books stays = elim (cases_Bool (is_decided answer)) [
  | inl is ↦
      let sound = decided_failure answer is in
      let later : fails_for_good answers ≡ true = rw sound at stays in
      let more = told_same rules look b events answers (after rules event books) later in
      elim (cases_Bool (is_counter b (caller_in event books))) [
        | inl own ↦ rw (is, own) (ap (λ (rest : List Answer). answer ∷ rest) more)
        | inr other ↦ rw (is, other) more
      ]
  | inr isnt ↦ elim (cases_Bool (is_store_failure answer)) [
    | inl failed ↦ let all : list_all is_store_failure answers ≡ true = rw failed at stays in rw (isnt, failed) (none_told rules b events answers books all)
    | inr sound ↦ let later : fails_for_good answers ≡ true = rw sound at stays in rw (isnt, sound) (told_same rules look b events answers books later)
  ]
]

pub runs_keep : (rules : Rules) (look : OfficeAsk → Books → Reply) (events : List Event) (answers : List Answer) (old new : Books)
    → IsRun rules look events answers old new
    → KeepsBranches rules look events answers old new
runs_keep rules look events answers old new is has b =
    let history = counted_in events answers in
    let lone = alone rules look history old b has in
    record {
      replies = lone.replies;
      told =
          told_same rules look b events answers old is.stays ∙ ap (marked_ones (are_of rules look b history old)) is.decisions
          ∙ told_to b (run rules look history old) ∙ ap (map answer_of) lone.replies;
      state = ap (state_of b) is.books ∙ lone.state;
    }
