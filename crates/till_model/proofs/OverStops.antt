-- The laws of a till over a chain's stops.
use Rattle.shop_model.proofs.Common.{◌≡◌, inl, inr, ◌∙◌, ℕ, zero, suc, List, [], ◌∷◌, ◌++◌, length, take, Bool, true, Some, refl, sym, subst, ap, append_assoc}
use Rattle.shop_model.proofs.Common.{slice_get, cases_Bool, Text, Command, OfficeAsk, Rules, Do, Reply, Input, Own, State, reply_to, moved, state_after, Answer}
use Rattle.shop_model.proofs.Common.{answer_of, Books, Event, Counter, state_of, caller_in, reply_in, after, last_books, seen_of, view, is_decided, counted_in}
use Rattle.shop_model.proofs.Common.{Asks, books_next, Life, in_flight, acted_in, Lives, history_of, begun}
use Rattle.shop_model.proofs.RowLemmas.{same_test}
use Rattle.shop_model.proofs.Histories.{last_append}
use Rattle.shop_model.proofs.Isolation.{alone}
use Rattle.shop_model.proofs.Resends.{Steps, steps_of, steps_next, sound_before, same_some, same_none}
use Rattle.shop_model.proofs.Stops.{last_of}
use Rattle.till_model.specs.Tills.{Served, served_by, served_in}
use Rattle.till_model.specs.Outcomes.{Became}
use Rattle.till_model.specs.Laws.{served_over, ActsOnceOverStops, AnswersWereServed, RisingComeInOrder}
use Rattle.till_model.proofs.Outcomes.{acts_once_in_order}

abbrev Reads : Type 0
Reads = OfficeAsk → Books → Reply

pub once_over_stops : ActsOnceOverStops
once_over_stops has_mark rules look b es lives old new lived numbers fresh book =
    let history = history_of lives in
    let inputs = view rules b history old in
    let became = acts_once_in_order has_mark rules b es inputs (state_of b old) fresh book in
    let ends : state_after rules b inputs (state_of b old) ≡ state_of b new =
    sym (alone rules look history old b numbers).state ∙ ap (state_of b) (sym (last_of rules look lives old new lived)) in
    subst (λ (s : State). Became has_mark es (served_in has_mark rules b inputs (state_of b old)) s.shop) ends became

-- ---- the event that gave an answer

record Given (rules : Rules) (look : Reads) (b : ℕ) (command : Command) (answer : Answer) (history : List Event) (books : Books) : Type 0 where
  front : List Event
  event : Event
  back : List Event
  split : history ≡ front ++ event ∷ back
  who : caller_in event (last_books rules front books) ≡ Counter b
  what : event.request (Counter b) ≡ Do command
  reply : answer ≡ answer_of (reply_in rules look event (last_books rules front books))

module _ (rules : Rules) (look : Reads) (b : ℕ) (command : Command) where
  in_life : (events : List Event) (answers : List Answer) (books : Books) → Steps rules look events answers books
      → (i : ℕ) (x : Answer) → Asks rules events answers books i (Counter b) (Do command)
      → slice_get answers i ≡ Some x → is_decided x ≡ true → Given rules look b command x (counted_in events answers) books
  in_life [] answers books steps i x asks there decided = absurd (same_none asks.event asks.stands)
  in_life (e ∷ events) [] books steps i x asks there decided = absurd (same_none x there)
  in_life (e ∷ events) (a ∷ answers) books steps zero x asks there decided =
      let same : e ≡ asks.event = same_some e asks.event asks.stands in
      let told : a ≡ x = same_some a x there in
      let fine : is_decided a ≡ true = rw told decided in
      record {
        front = [];
        event = e;
        back = counted_in events answers;
        split = rw fine refl;
        who = ap (λ (event : Event). caller_in event books) same ∙ asks.who;
        what = ap (λ (event : Event). event.request (Counter b)) same ∙ asks.what;
        reply = sym told ∙ (steps.0 fine).0;
      }
  in_life (e ∷ events) (a ∷ answers) books steps (suc i) x asks there decided =
      let sound = sound_before rules look e events a answers books steps i x there decided in
      let next = books_next rules e a books in
      let rest : Asks rules events answers next i (Counter b) (Do command) =
      record { event = asks.event; stands = asks.stands; who = asks.who; what = asks.what } in
      let it = in_life events answers next (steps_next rules look e events a answers books steps sound) i x rest there decided in
      elim (cases_Bool (is_decided a)) [
        | inl fine ↦
            let on : next ≡ after rules e books = rw fine refl in
            let counts : counted_in (e ∷ events) (a ∷ answers) ≡ e ∷ counted_in events answers = rw fine refl in
            record {
              front = e ∷ it.front;
              event = it.event;
              back = it.back;
              split = counts ∙ ap (λ (l : List Event). e ∷ l) it.split;
              who = subst (λ (bs : Books). caller_in it.event (last_books rules it.front bs) ≡ Counter b) on it.who;
              what = it.what;
              reply = subst (λ (bs : Books). x ≡ answer_of (reply_in rules look it.event (last_books rules it.front bs))) on it.reply;
            }
        | inr lacks ↦
            let on : next ≡ books = rw lacks refl in
            let counts : counted_in (e ∷ events) (a ∷ answers) ≡ counted_in events answers = rw (lacks, sound) refl in
            record {
              front = it.front;
              event = it.event;
              back = it.back;
              split = counts ∙ it.split;
              who = subst (λ (bs : Books). caller_in it.event (last_books rules it.front bs) ≡ Counter b) on it.who;
              what = it.what;
              reply = subst (λ (bs : Books). x ≡ answer_of (reply_in rules look it.event (last_books rules it.front bs))) on it.reply;
            }
      ]

  in_lives : (lives : List Life) (old new : Books) → Lives rules look lives old new → (n i : ℕ) (life : Life) (x : Answer) → slice_get lives n ≡ Some life
      → Asks rules life.events life.answers (begun rules lives old n) i (Counter b) (Do command) → slice_get life.answers i ≡ Some x → is_decided x ≡ true
      → Given rules look b command x (history_of lives) old
  in_lives [] old new lived n i life x at_n asks there decided = absurd (same_none life at_n)
  in_lives (l ∷ lives) old new (mid, ran, rest) zero i life x at_n asks there decided =
      let same : l ≡ life = same_some l life at_n in
      let here : Asks rules l.events l.answers old i (Counter b) (Do command) =
      subst (λ (it : Life). Asks rules it.events it.answers old i (Counter b) (Do command)) (sym same) asks in
      let answer : slice_get l.answers i ≡ Some x = subst (λ (it : Life). slice_get it.answers i ≡ Some x) (sym same) there in
      let it = in_life l.events l.answers old (steps_of rules look l.events l.answers old ran.each ran.stays ran.decisions) i x here answer decided in
      let more = history_of lives in
      record {
        front = it.front;
        event = it.event;
        back = it.back ++ (in_flight l ++ more);
        split = append_assoc (counted_in l.events l.answers) (in_flight l) more
            ∙ ap (λ (h : List Event). h ++ (in_flight l ++ more)) it.split
            ∙ append_assoc it.front (it.event ∷ it.back) (in_flight l ++ more);
        who = it.who;
        what = it.what;
        reply = it.reply;
      }
  in_lives (l ∷ lives) old new (mid, ran, rest) (suc n) i life x at_n asks there decided =
      let next = last_books rules (in_flight l) mid in
      let first : last_books rules (acted_in l) old ≡ next =
      last_append rules (counted_in l.events l.answers) (in_flight l) old ∙ ap (last_books rules (in_flight l)) (sym ran.books) in
      let start : begun rules (l ∷ lives) old (suc n) ≡ begun rules lives next n =
      last_append rules (acted_in l) (history_of (take n lives)) old ∙ ap (last_books rules (history_of (take n lives))) first in
      let it =
      in_lives lives next new rest n i life x at_n
      (subst (λ (bs : Books). Asks rules life.events life.answers bs i (Counter b) (Do command)) start asks) there decided in
      let at_it : last_books rules it.front next ≡ last_books rules (acted_in l ++ it.front) old =
      sym (last_append rules (acted_in l) it.front old ∙ ap (last_books rules it.front) first) in
      record {
        front = acted_in l ++ it.front;
        event = it.event;
        back = it.back;
        split = ap (λ (h : List Event). acted_in l ++ h) it.split ∙ sym (append_assoc (acted_in l) it.front (it.event ∷ it.back));
        who = subst (λ (bs : Books). caller_in it.event bs ≡ Counter b) at_it it.who;
        what = it.what;
        reply = subst (λ (bs : Books). x ≡ answer_of (reply_in rules look it.event bs)) at_it it.reply;
      }

-- ---- the served commands of two histories in a row

view_append : (rules : Rules) (b : ℕ) (front back : List Event) (books : Books)
    → view rules b (front ++ back) books ≡ view rules b front books ++ view rules b back (last_books rules front books)
view_append rules b [] back books = refl
view_append rules b (e ∷ front) back books =
    let seen = seen_of rules b (caller_in e books) (e.request (caller_in e books)) books in
    ap (λ (l : List Input). seen ++ l) (view_append rules b front back (after rules e books))
    ∙ sym (append_assoc seen (view rules b front (after rules e books)) (view rules b back (last_books rules front (after rules e books))))

served_append : (has_mark : Text → Bool) (rules : Rules) (b : ℕ) (front back : List Input) (s : State)
    → served_in has_mark rules b (front ++ back) s ≡ served_in has_mark rules b front s ++ served_in has_mark rules b back (state_after rules b front s)
served_append has_mark rules b [] back s = refl
served_append has_mark rules b (input ∷ front) back s =
    let one = served_by has_mark rules b input s in
    ap (λ (l : List Served). one ++ l) (served_append has_mark rules b front back (moved rules b input s))
    ∙ sym (append_assoc one (served_in has_mark rules b front (moved rules b input s))
    (served_in has_mark rules b back (state_after rules b front (moved rules b input s))))

behind : (front : List Served) (it : Served) (rest : List Served) → slice_get (front ++ it ∷ rest) (length front) ≡ Some it
behind [] it rest = refl
behind (x ∷ front) it rest = behind front it rest

pub answers_served : AnswersWereServed
answers_served has_mark rules look b lives old new lived numbers n i life command answer at_n asks there decided owned =
    let g = in_lives rules look b command lives old new lived n i life answer at_n asks there decided in
    let mid = last_books rules g.front old in
    let first = view rules b g.front old in
    let rest = view rules b g.back (after rules g.event mid) in
    let s = state_of b mid in
    let it : Served = record { command = command; reply = reply_to rules b s.catalogue s.shop (Do command) } in
    let request : g.event.request (caller_in g.event mid) ≡ Do command = ap g.event.request g.who ∙ g.what in
    let own : seen_of rules b (caller_in g.event mid) (g.event.request (caller_in g.event mid)) mid ≡ Own (Do command) ∷ [] =
    rw (g.who, g.what, same_test b) refl in
    let inputs : view rules b (history_of lives) old ≡ first ++ Own (Do command) ∷ rest =
    ap (λ (h : List Event). view rules b h old) g.split ∙ view_append rules b g.front (g.event ∷ g.back) old
    ∙ ap (λ (l : List Input). first ++ (l ++ rest)) own in
    let here : state_after rules b first (state_of b old) ≡ s = sym (alone rules look g.front old b numbers).state in
    let front = served_in has_mark rules b first (state_of b old) in
    let later = served_in has_mark rules b rest (moved rules b (Own (Do command)) s) in
    let one : served_by has_mark rules b (Own (Do command)) s ≡ it ∷ [] = rw owned refl in
    let all : served_over has_mark rules b lives old ≡ front ++ it ∷ later =
    ap (λ (l : List Input). served_in has_mark rules b l (state_of b old)) inputs
    ∙ served_append has_mark rules b first (Own (Do command) ∷ rest) (state_of b old)
    ∙ ap (λ (st : State). front ++ served_in has_mark rules b (Own (Do command) ∷ rest) st) here
    ∙ ap (λ (l : List Served). front ++ (l ++ later)) one in
    let says : reply_in rules look g.event mid ≡ it.reply = rw (g.who, g.what) refl in
    let told : answer ≡ answer_of it.reply = g.reply ∙ ap answer_of says in
    (length front, it, subst (λ (l : List Served). slice_get l (length front) ≡ Some it) (sym all) (behind front it later), refl, told)

pub rising_in_order : RisingComeInOrder
rising_in_order entries served rise i j m n x y first late low at_i at_j less at_m is at_n is' = rise i j x y low at_i at_j
