-- A branch is sent the same over any lives of a chain in which it sees the same.
use Rattle.shop_model.proofs.Common.{◌≡◌, ◌∙◌, ℕ, List, [], ◌∷◌, ◌++◌, map, Bool, true, false, refl, sym, ap, ap₂, subst, append_assoc, append-nil}
use Rattle.shop_model.proofs.Common.{map-append, flat_map, Verdict, filter, bytes_eq, OfficeAsk, Command, Rules, Kept, Again, verdict, first, refusals}
use Rattle.shop_model.proofs.Common.{resent, reply_text, done, if_accepted, Request, Do, Input, FromOffice, Arrive, Own, Reply, State, moved, answers}
use Rattle.shop_model.proofs.Common.{replies, reply_by, state_after, Answer, answer_of, Books, Event, Accepted, state_of, caller_in, seen_of, after}
use Rattle.shop_model.proofs.Common.{last_books, view, HasNumbers, counted_in, Life, in_flight, acted_in, Lives, history_of, answered_of}
use Rattle.std.proofs.lemmas.List.Concat.{flat_map-append}
use Rattle.shop_model.specs.SameStates.{SameState}
use Rattle.shop_model.proofs.Accepted.{none_kept}
use Rattle.shop_model.proofs.ActLaws.{command_same}
use Rattle.shop_model.proofs.Histories.{last_append}
use Rattle.shop_model.proofs.Isolation.{alone}
use Rattle.shop_model.proofs.Resent.{first_under}
use Rattle.shop_model.proofs.SameStates.{by_cases, told_same}
use Rattle.shop_model.proofs.Stops.{last_of}
use Rattle.shop_model.proofs.Swapped.{last_numbers}
use Rattle.chain_requests.specs.Branches.{answered_to}
use Rattle.chain_requests.proofs.Branches.{runs_keep}
use Rattle.counter_http.specs.Branches.{sent_to}
use Rattle.counter_http.specs.Exchanges.{text_of, events_of, answers_of}
use Rattle.till_and_server.specs.ServedLives.{ServedLife, life_of, lives_of}
use Rattle.till_and_server.specs.Isolation.{sent_over, Sight, Sees, Unanswered, sight_of, sights, seen_over, LivesSendTheSame}
use Rattle.till_and_server.specs.Isolation.{IsWithoutResent, nothing, stays, goes, ResentRequestsSendTheSame, OneLifeIsOneHistory}

abbrev Reads : Type 0
Reads = OfficeAsk → Books → Reply

-- ---- the branch's own machine over a view

-- the replies that were sent
abbrev heard : Rules → ℕ → List Sight → State → List Reply
heard rules b [] s = []
heard rules b (Sees input ∷ xs) s = answers rules b input s ++ heard rules b xs (moved rules b input s)
heard rules b (Unanswered request ∷ xs) s = heard rules b xs (moved rules b (Own request) s)

-- the state that is left
abbrev ends : Rules → ℕ → List Sight → State → State
ends rules b [] s = s
ends rules b (Sees input ∷ xs) s = ends rules b xs (moved rules b input s)
ends rules b (Unanswered request ∷ xs) s = ends rules b xs (moved rules b (Own request) s)

heard_append : (rules : Rules) (b : ℕ) (xs ys : List Sight) (s : State)
    → heard rules b (xs ++ ys) s ≡ heard rules b xs s ++ heard rules b ys (ends rules b xs s)
heard_append rules b [] ys s = refl
heard_append rules b (Sees input ∷ xs) ys s =
    let next = moved rules b input s in
    ap (λ (l : List Reply). answers rules b input s ++ l) (heard_append rules b xs ys next)
    ∙ sym (append_assoc (answers rules b input s) (heard rules b xs next) (heard rules b ys (ends rules b xs next)))
heard_append rules b (Unanswered request ∷ xs) ys s = heard_append rules b xs ys (moved rules b (Own request) s)

ends_append : (rules : Rules) (b : ℕ) (xs ys : List Sight) (s : State) → ends rules b (xs ++ ys) s ≡ ends rules b ys (ends rules b xs s)
ends_append rules b [] ys s = refl
ends_append rules b (Sees input ∷ xs) ys s = ends_append rules b xs ys (moved rules b input s)
ends_append rules b (Unanswered request ∷ xs) ys s = ends_append rules b xs ys (moved rules b (Own request) s)

-- of inputs that were answered, and of inputs in flight
heard_answered : (rules : Rules) (b : ℕ) (inputs : List Input) (s : State) → heard rules b (map (sight_of true) inputs) s ≡ replies rules b inputs s
heard_answered rules b [] s = refl
heard_answered rules b (input ∷ inputs) s =
    ap (λ (l : List Reply). answers rules b input s ++ l) (heard_answered rules b inputs (moved rules b input s))

heard_in_flight : (rules : Rules) (b : ℕ) (inputs : List Input) (s : State) → heard rules b (map (sight_of false) inputs) s ≡ []
heard_in_flight rules b [] s = refl
heard_in_flight rules b (FromOffice command ∷ inputs) s = heard_in_flight rules b inputs (moved rules b (FromOffice command) s)
heard_in_flight rules b (Arrive source films ∷ inputs) s = heard_in_flight rules b inputs (moved rules b (Arrive source films) s)
heard_in_flight rules b (Own request ∷ inputs) s = heard_in_flight rules b inputs (moved rules b (Own request) s)

ends_after : (rules : Rules) (b : ℕ) (answered : Bool) (inputs : List Input) (s : State)
    → ends rules b (map (sight_of answered) inputs) s ≡ state_after rules b inputs s
ends_after rules b answered [] s = refl
ends_after rules b true (input ∷ inputs) s = ends_after rules b true inputs (moved rules b input s)
ends_after rules b false (FromOffice command ∷ inputs) s = ends_after rules b false inputs (moved rules b (FromOffice command) s)
ends_after rules b false (Arrive source films ∷ inputs) s = ends_after rules b false inputs (moved rules b (Arrive source films) s)
ends_after rules b false (Own request ∷ inputs) s = ends_after rules b false inputs (moved rules b (Own request) s)

-- ---- the view of a history in parts

sights_append : (rules : Rules) (b : ℕ) (answered : Bool) (events others : List Event) (more : List Bool) (books : Books)
    → sights rules b (events ++ others) (map (λ _. answered) events ++ more) books
    ≡ map (sight_of answered) (view rules b events books) ++ sights rules b others more (last_books rules events books)
sights_append rules b answered [] others more books = refl
sights_append rules b answered (e ∷ events) others more books =
    let now = seen_of rules b (caller_in e books) (e.request (caller_in e books)) books in
    let next = after rules e books in
    let later = view rules b events next in
    let rest = sights rules b others more (last_books rules events next) in
    let marked : List Input → List Sight = map (sight_of answered) in
    ap₂ (λ (xs ys : List Sight). xs ++ ys) (ap marked (append-nil now)) (sights_append rules b answered events others more next)
    ∙ sym (append_assoc (marked now) (marked later) rest)
    ∙ ap (λ (l : List Sight). l ++ rest) (sym (map-append (sight_of answered) now later))

-- ---- lives

answered_over : Rules → ℕ → List Life → Books → List Answer
answered_over rules b [] books = []
answered_over rules b (life ∷ lives) books =
    answered_to rules b life.events life.answers books ++ answered_over rules b lives (last_books rules (acted_in life) books)

sent_is : (rules : Rules) (b : ℕ) (lives : List ServedLife) (books : Books)
    → sent_over rules b lives books ≡ flat_map text_of (answered_over rules b (lives_of lives) books)
unfolding answered_over
sent_is rules b [] books = refl
sent_is rules b (life ∷ lives) books =
    let next = last_books rules (acted_in (life_of life)) books in
    let now = answered_to rules b (events_of life.meaning life.exchanges) (answers_of life.exchanges) books in
    ap (λ (l : List ℕ). flat_map text_of now ++ l) (sent_is rules b lives next)
    ∙ sym (flat_map-append text_of now (answered_over rules b (lives_of lives) next))

abbrev view_over : Rules → ℕ → List Life → Books → List Sight
view_over rules b lives books = sights rules b (history_of lives) (answered_of lives) books

-- Over the lives the branch is sent what its own machine gives over its view, and it is left in that machine's state.
record IsHeard (rules : Rules) (b : ℕ) (lives : List Life) (old new : Books) : Type 0 where
  sent : answered_over rules b lives old ≡ map answer_of (heard rules b (view_over rules b lives old) (state_of b old))
  state : state_of b new ≡ ends rules b (view_over rules b lives old) (state_of b old)

lives_heard : (rules : Rules) (look : Reads) (b : ℕ) (lives : List Life) (old new : Books)
    → Lives rules look lives old new → HasNumbers old → IsHeard rules b lives old new
unfolding answered_over
lives_heard rules look b [] old new is has = record { sent = refl; state = ap (state_of b) is }
lives_heard rules look b (life ∷ lives) old new (mid, ran, rest) has =
    let history = counted_in life.events life.answers in
    let flight = in_flight life in
    let more = history_of lives in
    let yes : List Bool = map (λ _. true) history in
    let no : List Bool = map (λ _. false) flight in
    let marks = answered_of lives in
    let next = last_books rules flight mid in
    let first = view rules b history old in
    let flown = view rules b flight mid in
    let later = view_over rules b lives next in
    let s = state_of b old in
    let kept = runs_keep rules look life.events life.answers old mid ran has b in
    let numbers_mid : HasNumbers mid = rw ran.books (last_numbers rules history old has) in
    let numbers : HasNumbers next = last_numbers rules flight mid numbers_mid in
    let start : last_books rules (acted_in life) old ≡ next = last_append rules history flight old ∙ ap (last_books rules flight) (sym ran.books) in
    let seen : view_over rules b (life ∷ lives) old ≡ map (sight_of true) first ++ (map (sight_of false) flown ++ later) =
    ap₂ (λ (es : List Event) (ms : List Bool). sights rules b es ms old) (append_assoc history flight more) (append_assoc yes no marks)
    ∙ sights_append rules b true history (flight ++ more) (no ++ marks) old
    ∙ ap (λ (bs : Books). map (sight_of true) first ++ sights rules b (flight ++ more) (no ++ marks) bs) (sym ran.books)
    ∙ ap (λ (l : List Sight). map (sight_of true) first ++ l) (sights_append rules b false flight more marks mid) in
    let at_mid : ends rules b (map (sight_of true) first) s ≡ state_of b mid = ends_after rules b true first s ∙ sym kept.state in
    let at_next : ends rules b (map (sight_of false) flown) (state_of b mid) ≡ state_of b next =
    ends_after rules b false flown (state_of b mid) ∙ sym (alone rules look flight mid b numbers_mid).state in
    let behind = lives_heard rules look b lives next new rest numbers in
    let heard_later : heard rules b (map (sight_of false) flown ++ later) (state_of b mid) ≡ heard rules b later (state_of b next) =
    heard_append rules b (map (sight_of false) flown) later (state_of b mid)
    ∙ ap₂ (λ (l : List Reply) (t : State). l ++ heard rules b later t) (heard_in_flight rules b flown (state_of b mid)) at_next in
    let heard_all : heard rules b (view_over rules b (life ∷ lives) old) s ≡ replies rules b first s ++ heard rules b later (state_of b next) =
    ap (λ (xs : List Sight). heard rules b xs s) seen
    ∙ heard_append rules b (map (sight_of true) first) (map (sight_of false) flown ++ later) s
    ∙ ap₂ (λ (l : List Reply) (t : State). l ++ heard rules b (map (sight_of false) flown ++ later) t) (heard_answered rules b first s) at_mid
    ∙ ap (λ (l : List Reply). replies rules b first s ++ l) heard_later in
    let ends_all : ends rules b (view_over rules b (life ∷ lives) old) s ≡ ends rules b later (state_of b next) =
    ap (λ (xs : List Sight). ends rules b xs s) seen
    ∙ ends_append rules b (map (sight_of true) first) (map (sight_of false) flown ++ later) s
    ∙ ap (ends rules b (map (sight_of false) flown ++ later)) at_mid
    ∙ ends_append rules b (map (sight_of false) flown) later (state_of b mid)
    ∙ ap (ends rules b later) at_next in
    record {
      sent =
          ap₂ (λ (xs ys : List Answer). xs ++ ys) kept.told (ap (answered_over rules b lives) start ∙ behind.sent)
          ∙ sym (map-append answer_of (replies rules b first s) (heard rules b later (state_of b next)))
          ∙ ap (map answer_of) (sym heard_all);
      state = behind.state ∙ sym ends_all;
    }

-- ---- views that are the same but for what was sent again

-- an accepted command that comes directly after itself is given again
given_again : (rules : Rules) (b : ℕ) (command : Command) (s : State) → verdict rules b s.catalogue s.shop command ≡ Accepted
    → verdict rules b s.catalogue (done rules s.catalogue command s.shop) command ≡ Again (reply_text rules command s.shop)
given_again rules b command s e =
    let k : Kept = record { command = command; reply = reply_text rules command s.shop } in
    let next = done rules s.catalogue command s.shop in
    let none =
    (none_kept command (filter (λ (it : Kept). bytes_eq it.command.key command.key) s.shop.kept) (first (refusals rules b s.catalogue s.shop command)) e).0 in
    ap (λ ks. resent command ks (first (refusals rules b s.catalogue next command))) (first_under (λ (it : Kept). it.command.key) k s.shop.kept none)
    ∙ rw (command_same command) refl

-- a request that comes directly after itself gets the same reply, and changes nothing
record IsIdle (rules : Rules) (b : ℕ) (request : Request) (s : State) : Type 0 where
  reply : answers rules b (Own request) (moved rules b (Own request) s) ≡ answers rules b (Own request) s
  state : moved rules b (Own request) (moved rules b (Own request) s) ≡ moved rules b (Own request) s

unmoved : (rules : Rules) (b : ℕ) (request : Request) (s : State) → moved rules b (Own request) s ≡ s → IsIdle rules b request s
unmoved rules b request s same = record { reply = ap (answers rules b (Own request)) same; state = ap (moved rules b (Own request)) same }

idle : (rules : Rules) (b : ℕ) (request : Request) (s : State) → IsIdle rules b request s
idle rules b (Do command) s =
    let before = verdict rules b s.catalogue s.shop command in
    let next = done rules s.catalogue command s.shop in
    let by_verdict : Verdict → State = λ v. record s { shop = if_accepted v next s.shop } in
    let twice : Verdict → State = λ v. record s { shop = if_accepted v (done rules s.catalogue command next) next } in
    by_cases (λ (v : Verdict). before ≡ v → IsIdle rules b (Do command) s) before
    (λ _ accepted.
    let again = given_again rules b command s accepted in
    let moves : moved rules b (Own (Do command)) s ≡ record s { shop = next } = ap by_verdict accepted in
    record {
      reply =
          ap (answers rules b (Own (Do command))) moves
          ∙ ap (λ (v : Verdict). reply_by v (reply_text rules command next) ∷ []) again
          ∙ sym (ap (λ (v : Verdict). reply_by v (reply_text rules command s.shop) ∷ []) accepted);
      state =
          ap (moved rules b (Own (Do command))) moves
          ∙ ap twice again
          ∙ sym moves;
    })
    (λ text _ is. unmoved rules b (Do command) s (ap by_verdict is)) (λ refusal is. unmoved rules b (Do command) s (ap by_verdict is)) refl
idle rules b request s = unmoved rules b request s refl

-- a view and the same view without what was sent again are the same to the branch's machine
record IsHeardAlike (rules : Rules) (b : ℕ) (xs ys : List Sight) (s t : State) : Type 0 where
  replies : heard rules b xs s ≡ heard rules b ys t
  state : SameState (ends rules b xs s) (ends rules b ys t)

without_resent : (rules : Rules) (b : ℕ) (xs ys : List Sight) (s : State) → IsWithoutResent xs ys
    → (heard rules b xs s ≡ heard rules b ys s) × (ends rules b xs s ≡ ends rules b ys s)
without_resent rules b all kept s nothing = (refl, refl)
without_resent rules b all kept s (stays (Sees input) xs ys rest) =
    let more = without_resent rules b xs ys (moved rules b input s) rest in (ap (λ (l : List Reply). answers rules b input s ++ l) more.0, more.1)
without_resent rules b all kept s (stays (Unanswered request) xs ys rest) =
    without_resent rules b xs ys (moved rules b (Own request) s) rest
without_resent rules b all kept s (goes request true xs ys rest) =
    let once = idle rules b request s in
    let more = without_resent rules b (Sees (Own request) ∷ xs) ys s rest in (
      ap₂ (λ (l : List Reply) (t : State). l ++ heard rules b xs t) once.reply once.state ∙ more.0,
      ap (ends rules b xs) once.state ∙ more.1,
    )
without_resent rules b all kept s (goes request false xs ys rest) =
    let once = idle rules b request s in
    let more = without_resent rules b (Unanswered request ∷ xs) ys s rest in
    (ap (heard rules b xs) once.state ∙ more.0, ap (ends rules b xs) once.state ∙ more.1)

heard_alike : (rules : Rules) (b : ℕ) (xs : List Sight) (s t : State) → SameState s t → IsHeardAlike rules b xs xs s t
heard_alike rules b [] s t same = record { replies = refl; state = same }
heard_alike rules b (Sees input ∷ xs) s t same =
    let now = told_same rules b (input ∷ []) s t same in
    let more = heard_alike rules b xs (moved rules b input s) (moved rules b input t) now.state in
    let said : answers rules b input s ≡ answers rules b input t =
    sym (append-nil (answers rules b input s)) ∙ now.replies ∙ append-nil (answers rules b input t) in
    record { replies = ap₂ (λ (l later : List Reply). l ++ later) said more.replies; state = more.state }
heard_alike rules b (Unanswered request ∷ xs) s t same =
    let now = told_same rules b (Own request ∷ []) s t same in
    let more = heard_alike rules b xs (moved rules b (Own request) s) (moved rules b (Own request) t) now.state in
    record { replies = more.replies; state = more.state }

-- ---- two lists of lives

pub resent_the_same : ResentRequestsSendTheSame
resent_the_same rules look second b lives others old new other another lived lived' agree seen settled settled' =
    let one = lives_heard rules look b (lives_of lives) old new lived agree.numbers in
    let two = lives_heard rules second b (lives_of others) other another lived' agree.numbers_too in
    let left = without_resent rules b (seen_over rules b lives old) seen (state_of b old) settled in
    let right = without_resent rules b (seen_over rules b others other) seen (state_of b other) settled' in
    let alike = heard_alike rules b seen (state_of b old) (state_of b other) agree.state in
    let replies : heard rules b (seen_over rules b lives old) (state_of b old) ≡ heard rules b (seen_over rules b others other) (state_of b other) =
    left.0 ∙ alike.replies ∙ sym right.0 in
    let answers : answered_over rules b (lives_of lives) old ≡ answered_over rules b (lives_of others) other =
    one.sent ∙ ap (map answer_of) replies ∙ sym two.sent in
    record {
      sent = sent_is rules b lives old ∙ ap (λ (l : List Answer). flat_map text_of l) answers ∙ sym (sent_is rules b others other);
      left = record {
        state = rw (one.state ∙ left.1, two.state ∙ right.1) alike.state;
        numbers = rw (last_of rules look (lives_of lives) old new lived) (last_numbers rules (history_of (lives_of lives)) old agree.numbers);
        numbers_too = rw (last_of rules second (lives_of others) other another lived')
            (last_numbers rules (history_of (lives_of others)) other agree.numbers_too);
      };
    }

all_stay : (xs : List Sight) → IsWithoutResent xs xs
all_stay [] = nothing
all_stay (sight ∷ xs) = stays sight xs xs (all_stay xs)

pub sent_the_same : LivesSendTheSame
sent_the_same rules look second b lives others old new other another lived lived' agree seen =
    resent_the_same rules look second b lives others old new other another lived lived' agree (seen_over rules b others other)
    (subst (λ (xs : List Sight). IsWithoutResent (seen_over rules b lives old) xs) seen (all_stay (seen_over rules b lives old)))
    (all_stay (seen_over rules b others other))

-- ---- one life

pub one_life : OneLifeIsOneHistory
one_life rules b life old none =
    let it = life_of life in
    let history = counted_in it.events it.answers in
    let yes : List Bool = map (λ _. true) history in
    let acts : history_of (it ∷ []) ≡ history ++ [] = rw none (append-nil (history ++ [])) in
    let marks : answered_of (it ∷ []) ≡ yes ++ [] = rw none (append-nil (yes ++ [])) in
    record {
      sent = append-nil (sent_to life.meaning rules b life.exchanges old);
      seen =
          ap₂ (λ (es : List Event) (ms : List Bool). sights rules b es ms old) acts marks
          ∙ sights_append rules b true history [] [] old
          ∙ append-nil (map (sight_of true) (view rules b history old));
    }
