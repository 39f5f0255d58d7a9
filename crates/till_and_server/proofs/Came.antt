-- The commands under a mark that a branch served in a history, and their places in a life.
use Rattle.shop_model.proofs.Common.{◌≡◌, ◌∙◌, ◌⊎◌, inl, inr, ℕ, zero, suc, List, [], ◌∷◌, ◌++◌, take, Bool, true, false, Some, refl, sym, ap, subst, eqb-true}
use Rattle.shop_model.proofs.Common.{⊤, ◌==◌, slice_get, option_to_list, cases_Bool, Text, Command, Act, Dispatch, Rules, Verdict, Again, Refused, Accepted}
use Rattle.shop_model.proofs.Common.{verdict, office_verdict, Request, Do, Office, Input, FromOffice, Arrive, Own, State, reply_to, if_accepted, moved, Answer}
use Rattle.shop_model.proofs.Common.{Books, Event, Caller, Counter, HeadOffice, Nobody, shop_of, caller_in, after, last_books, parcel_seen, other_seen}
use Rattle.shop_model.proofs.Common.{office_seen, seen_of, view, is_decided, is_store_failure, counted_in, Asks, books_next, Life, failing, in_flight, acted_in}
use Rattle.shop_model.proofs.Common.{history_of, begun}
use Rattle.shop_model.proofs.Histories.{last_append}
use Rattle.shop_model.proofs.Resends.{same_some, same_none, failure_undecided}
use Rattle.till_model.specs.Tills.{Served, served_in}

-- ---- the commands that one event serves

-- no input is a request of the branch's own
Quiet : List Input → Type 0
Quiet [] = ⊤
Quiet (FromOffice command ∷ inputs) = Quiet inputs
Quiet (Arrive source films ∷ inputs) = Quiet inputs
Quiet (Own request ∷ inputs) = ⊥

quiet_if : (v : Verdict) (inputs : List Input) → Quiet inputs → Quiet (if_accepted v inputs [])
unfolding Quiet
quiet_if (Again text) inputs q = tt
quiet_if (Refused refusal) inputs q = tt
quiet_if Accepted inputs q = q

quiet_parcel : (b source : ℕ) (act : Act) (books : Books) → Quiet (parcel_seen b source act books)
unfolding Quiet
quiet_parcel b source (Dispatch to xs) books = elim (cases_Bool (to == b)) [ inl is ↦ rw is tt | inr isnt ↦ rw isnt tt ]
quiet_parcel b source act books = tt

quiet_other : (rules : Rules) (b source : ℕ) (request : Request) (books : Books) → Quiet (other_seen rules b source request books)
unfolding Quiet
quiet_other rules b source (Do command) books =
    quiet_if (verdict rules source books.catalogue (shop_of source books) command)
    (parcel_seen b source command.act books) (quiet_parcel b source command.act books)
quiet_other rules b source request books = tt

quiet_office : (rules : Rules) (request : Request) (books : Books) → Quiet (office_seen rules request books)
unfolding Quiet
quiet_office rules (Office command) books = quiet_if (office_verdict rules books.catalogue command) (FromOffice command ∷ []) tt
quiet_office rules request books = tt

module _ (has_mark : Text → Bool) (rules : Rules) (b : ℕ) where
  -- the served command is one of the inputs, from some state on
  abbrev StandsIn : List Input → Served → Type 0
  StandsIn inputs it = (s : State) × (n : ℕ) × (slice_get (served_in has_mark rules b inputs s) n ≡ Some it)

  quiet_rest : (inputs rest : List Input) (s : State) (n : ℕ) (it : Served) → Quiet inputs
      → slice_get (served_in has_mark rules b (inputs ++ rest) s) n ≡ Some it → StandsIn rest it
  unfolding Quiet
  quiet_rest [] rest s n it q there = (s, n, there)
  quiet_rest (FromOffice command ∷ inputs) rest s n it q there = quiet_rest inputs rest (moved rules b (FromOffice command) s) n it q there
  quiet_rest (Arrive source films ∷ inputs) rest s n it q there = quiet_rest inputs rest (moved rules b (Arrive source films) s) n it q there
  quiet_rest (Own request ∷ inputs) rest s n it q there = absurd q

  -- either the request asks for the served command, or the served command is one of the rest
  abbrev IsOfOne : Request → List Input → Served → Type 0
  IsOfOne request rest it = ((request ≡ Do it.command) × (has_mark it.command.key ≡ true)) ⊎ StandsIn rest it

  own_rest : (request : Request) (rest : List Input) (s : State) (n : ℕ) (it : Served)
      → slice_get (served_in has_mark rules b (Own request ∷ rest) s) n ≡ Some it → IsOfOne request rest it
  own_rest (Do command) rest s n it there = elim (cases_Bool (has_mark command.key)) [
    | inl is ↦ by_place n is (rw is at there)
    | inr isnt ↦ inr (moved rules b (Own (Do command)) s, n, rw isnt at there)
  ]
    where
      first : Served
      first = record { command = command; reply = reply_to rules b s.catalogue s.shop (Do command) }

      by_place : (n : ℕ) → has_mark command.key ≡ true
          → slice_get (first ∷ served_in has_mark rules b rest (moved rules b (Own (Do command)) s)) n ≡ Some it → IsOfOne (Do command) rest it
      by_place zero is there =
          let same : command ≡ it.command = ap (λ (x : Served). x.command) (same_some first it there) in
          inl (ap (λ (x : Command). Do x) same, subst (λ (x : Command). has_mark x.key ≡ true) same is)
      by_place (suc n) is there = inr (moved rules b (Own (Do command)) s, n, there)
  own_rest request rest s n it there = inr (moved rules b (Own request) s, n, there)

  of_event : (caller : Caller) (request : Request) (books : Books) (rest : List Input) (s : State) (n : ℕ) (it : Served)
      → slice_get (served_in has_mark rules b (seen_of rules b caller request books ++ rest) s) n ≡ Some it
      → ((caller ≡ Counter b) × (request ≡ Do it.command) × (has_mark it.command.key ≡ true)) ⊎ StandsIn rest it
  of_event (Counter c) request books rest s n it there = elim (cases_Bool (c == b)) [
    | inl is ↦ elim (own_rest request rest s n it (rw is at there)) [
      | inl (what, marked) ↦ let same : c ≡ b = eqb-true c b is in inl (ap (λ (x : ℕ). Counter x) same, what, marked)
      | inr later ↦ inr later
    ]
    | inr isnt ↦ inr (quiet_rest (other_seen rules b c request books) rest s n it (quiet_other rules b c request books) (rw isnt at there))
  ]
  of_event HeadOffice request books rest s n it there = inr (quiet_rest (office_seen rules request books) rest s n it (quiet_office rules request books) there)
  of_event Nobody request books rest s n it there = inr (s, n, there)

  -- ---- the commands that a history serves

  module _ (P : Command → Type 0) where
    -- `P` holds for each command under the mark that the branch asks for in a history
    pub AllCame : List Event → Books → Type 0
    AllCame [] books = ⊤
    AllCame (e ∷ events) books =
        ((command : Command) → caller_in e books ≡ Counter b → e.request (Counter b) ≡ Do command → has_mark command.key ≡ true → P command)
        × AllCame events (after rules e books)

    pub all_served : (events : List Event) (books : Books) (s : State) (n : ℕ) (it : Served) → AllCame events books
        → slice_get (served_in has_mark rules b (view rules b events books) s) n ≡ Some it → P it.command
    unfolding AllCame
    all_served [] books s n it all there = absurd (same_none it there)
    all_served (e ∷ events) books s n it all there =
        elim (of_event (caller_in e books) (e.request (caller_in e books)) books (view rules b events (after rules e books)) s n it there) [
          | inl (who, what, marked) ↦ all.0 it.command who (sym (ap e.request who) ∙ what) marked
          | inr (t, m, later) ↦ all_served events (after rules e books) t m it all.1 later
        ]

    came_append : (xs ys : List Event) (books : Books) → AllCame xs books → AllCame ys (last_books rules xs books) → AllCame (xs ++ ys) books
    unfolding AllCame
    came_append [] ys books all more = more
    came_append (e ∷ xs) ys books all more = (all.0, came_append xs ys (after rules e books) all.1 more)

    -- `P` holds for each command under the mark that the branch asks for in a life
    abbrev pub AllAsked : List Event → List Answer → Books → Type 0
    AllAsked events answers books =
        (i : ℕ) (command : Command) → Asks rules events answers books i (Counter b) (Do command) → has_mark command.key ≡ true → P command

    asked_first : (e : Event) (events : List Event) (answers : List Answer) (books : Books) → AllAsked (e ∷ events) answers books
        → (command : Command) → caller_in e books ≡ Counter b → e.request (Counter b) ≡ Do command → has_mark command.key ≡ true → P command
    asked_first e events answers books asked command who what marked = asked 0 command (record { event = e; stands = refl; who = who; what = what }) marked

    asked_next : (e : Event) (events : List Event) (a : Answer) (answers : List Answer) (books : Books) → AllAsked (e ∷ events) (a ∷ answers) books
        → AllAsked events answers (books_next rules e a books)
    asked_next e events a answers books asked i command x marked =
        asked (suc i) command (record { event = x.event; stands = x.stands; who = x.who; what = x.what }) marked

    counted_came : (events : List Event) (answers : List Answer) (books : Books) → AllAsked events answers books → AllCame (counted_in events answers) books
    unfolding AllCame
    counted_came [] answers books asked = tt
    counted_came (e ∷ events) [] books asked = tt
    counted_came (e ∷ events) (a ∷ answers) books asked =
        let rest = counted_came events answers (books_next rules e a books) (asked_next e events a answers books asked) in
        elim (cases_Bool (is_decided a)) [
          | inl fine ↦
              let counts : counted_in (e ∷ events) (a ∷ answers) ≡ e ∷ counted_in events answers = rw fine refl in
              let on : books_next rules e a books ≡ after rules e books = rw fine refl in
              let behind : AllCame (counted_in events answers) (after rules e books) = subst (λ (bs : Books). AllCame (counted_in events answers) bs) on rest in
              subst (λ (es : List Event). AllCame es books) (sym counts) (asked_first e events (a ∷ answers) books asked, behind)
          | inr lacks ↦ elim (cases_Bool (is_store_failure a)) [
            | inl failed ↦
                let counts : counted_in (e ∷ events) (a ∷ answers) ≡ [] = rw (lacks, failed) refl in
                subst (λ (es : List Event). AllCame es books) (sym counts) tt
            | inr sound ↦
                let counts : counted_in (e ∷ events) (a ∷ answers) ≡ counted_in events answers = rw (lacks, sound) refl in
                let on : books_next rules e a books ≡ books = rw lacks refl in
                subst (λ (es : List Event). AllCame es books) (sym counts) (subst (λ (bs : Books). AllCame (counted_in events answers) bs) on rest)
          ]
        ]

    flight_came : (events : List Event) (answers : List Answer) (books : Books) → AllAsked events answers books
        → AllCame (option_to_list (failing events answers)) (last_books rules (counted_in events answers) books)
    unfolding AllCame
    flight_came [] answers books asked = tt
    flight_came (e ∷ events) [] books asked = tt
    flight_came (e ∷ events) (a ∷ answers) books asked = elim (cases_Bool (is_store_failure a)) [
      | inl failed ↦
          let lacks : is_decided a ≡ false = failure_undecided a failed in
          let ends : last_books rules (counted_in (e ∷ events) (a ∷ answers)) books ≡ books = rw (lacks, failed) refl in
          let flies : option_to_list (failing (e ∷ events) (a ∷ answers)) ≡ e ∷ [] = rw failed refl in
          let here : AllCame (e ∷ []) books = (asked_first e events (a ∷ answers) books asked, tt) in
          subst (λ (es : List Event). AllCame es (last_books rules (counted_in (e ∷ events) (a ∷ answers)) books))
          (sym flies) (subst (λ (bs : Books). AllCame (e ∷ []) bs) (sym ends) here)
      | inr sound ↦
          let next = books_next rules e a books in
          let rest = flight_came events answers next (asked_next e events a answers books asked) in
          let flies : option_to_list (failing (e ∷ events) (a ∷ answers)) ≡ option_to_list (failing events answers) = rw sound refl in
          let ends : last_books rules (counted_in (e ∷ events) (a ∷ answers)) books ≡ last_books rules (counted_in events answers) next =
          elim (cases_Bool (is_decided a)) [ inl fine ↦ rw fine refl | inr lacks ↦ rw (lacks, sound) refl ] in
          subst (λ (es : List Event). AllCame es (last_books rules (counted_in (e ∷ events) (a ∷ answers)) books)) (sym flies)
          (subst (λ (bs : Books). AllCame (option_to_list (failing events answers)) bs) (sym ends) rest)
    ]

    life_came : (life : Life) (books : Books) → AllAsked life.events life.answers books → AllCame (acted_in life) books
    unfolding AllCame
    life_came life books asked =
        came_append (counted_in life.events life.answers) (in_flight life) books
        (counted_came life.events life.answers books asked) (elim (cases_Bool life.acted) [
          | inl did ↦ rw did (flight_came life.events life.answers books asked)
          | inr not ↦ rw not tt
        ])

    pub lives_came : (lives : List Life) (old : Books)
        → ((n : ℕ) (life : Life) → slice_get lives n ≡ Some life → AllAsked life.events life.answers (begun rules lives old n)) → AllCame (history_of lives) old
    unfolding AllCame
    lives_came [] old asked = tt
    lives_came (l ∷ lives) old asked =
        let next = last_books rules (acted_in l) old in
        came_append (acted_in l) (history_of lives) old (life_came l old (asked 0 l refl)) (lives_came lives next (λ n life there.
        let start : begun rules (l ∷ lives) old (suc n) ≡ begun rules lives next n = last_append rules (acted_in l) (history_of (take n lives)) old in
        subst (λ (bs : Books). AllAsked life.events life.answers bs) start (asked (suc n) life there)))
