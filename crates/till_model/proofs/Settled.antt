-- The outcome of a book with settled entries.
use Rattle.shop_model.proofs.Common.{◌≡◌, ◌⊎◌, inl, inr, ◌∙◌, ℕ, zero, suc, ◌+◌, List, [], ◌∷◌, ◌++◌, map, take, Bool, true, false, not, Some, None, Option}
use Rattle.shop_model.proofs.Common.{refl, sym, subst, ap, arith, ◌==◌, ◌&&◌, ◌||◌, slice_get, AllByRecursion, list_any, bytes_eq, cases_Bool, and_parts}
use Rattle.shop_model.proofs.Common.{false≢true, bytes_eq-Decides, is_earlier, numbered_from, Text, Command, OfficeAsk, Rules, Refusal, MomentBack, Decision}
use Rattle.shop_model.proofs.Common.{Do, Reply, Sorry, Done, Shows, Answer, answer_of, problem_text, Books, Counter, shop_of, last_books, HasNumbers}
use Rattle.shop_model.proofs.Common.{is_decided, Asks, Life, Lives, history_of}
use Rattle.shop_model.specs.Json.{escape_byte}
use Rattle.shop_model.proofs.RowLemmas.{same_if, same_test}
use Rattle.shop_model.proofs.Resends.{same_some, same_none}
use Rattle.till_model.specs.Tills.{Entry, Served, are_marked, have_own_keys}
use Rattle.till_model.specs.Outcomes.{IsUnused, IsKeptAs, is_kept, Became}
use Rattle.till_model.specs.Laws.{entries_of, served_over, WasAnswered, KeepsBook}
use Rattle.till_model.specs.Settled.{accepted_of, or_reply, settled_entry, book_entries, WasToldLater, WereToldLater, SettlesIt, SettledForGood}
use Rattle.till_model.proofs.Entries.{marked_at}
use Rattle.till_model.proofs.Numbered.{command_at}
use Rattle.till_model.proofs.OverStops.{once_over_stops, answers_served, rising_in_order}
use Rattle.till_model.proofs.Press.{stands, press_to_disk}

-- ---- the entries by place

record From (settled : List (ℕ × Answer)) (es : List Entry) (m i : ℕ) (x : Entry) : Type 0 where
  entry : Entry
  there : slice_get es i ≡ Some entry
  same : settled_entry settled (m, entry) ≡ x

from_at : (settled : List (ℕ × Answer)) (es : List Entry) (n i m : ℕ) (x : Entry) → m ≡ i + n
    → slice_get (map (settled_entry settled) (numbered_from n es)) i ≡ Some x → From settled es m i x
from_at settled [] n i m x is there = absurd (same_none x there)
from_at settled (e ∷ es) n zero m x is there =
    let place : m ≡ n = omega (arith, is) in
    record {
      entry = e;
      there = refl;
      same = ap (λ (k : ℕ). settled_entry settled (k, e)) place ∙ same_some (settled_entry settled (n, e)) x there;
    }
from_at settled (e ∷ es) n (suc i) m x is there =
    let it = from_at settled es (n + 1) i m x (omega (arith, is)) there in
    record { entry = it.entry; there = it.there; same = it.same }

at_from : (settled : List (ℕ × Answer)) (es : List Entry) (n i m : ℕ) (e : Entry) → m ≡ i + n → slice_get es i ≡ Some e
    → slice_get (map (settled_entry settled) (numbered_from n es)) i ≡ Some (settled_entry settled (m, e))
at_from settled [] n i m e is there = absurd (same_none e there)
at_from settled (x ∷ es) n zero m e is there =
    let place : n ≡ m = omega (arith, is) in
    ap (λ (k : ℕ). Some (settled_entry settled (k, x))) place ∙ ap (λ (it : Entry). Some (settled_entry settled (m, it))) (same_some x e there)
at_from settled (x ∷ es) n (suc i) m e is there = at_from settled es (n + 1) i m e (omega (arith, is)) there

marks_same : (has_mark : Text → Bool) (settled : List (ℕ × Answer)) (n : ℕ) (es : List Entry)
    → are_marked has_mark (map (settled_entry settled) (numbered_from n es)) ≡ are_marked has_mark es
marks_same has_mark settled n [] = refl
marks_same has_mark settled n (e ∷ es) = ap (λ (rest : Bool). has_mark e.command.key && rest) (marks_same has_mark settled (n + 1) es)

others_same : (key : Text) (settled : List (ℕ × Answer)) (n : ℕ) (es : List Entry)
    → list_any (λ (it : Entry). bytes_eq key it.command.key) (map (settled_entry settled) (numbered_from n es))
    ≡ list_any (λ (it : Entry). bytes_eq key it.command.key) es
others_same key settled n [] = refl
others_same key settled n (e ∷ es) = ap (λ (rest : Bool). bytes_eq key e.command.key || rest) (others_same key settled (n + 1) es)

keys_same : (settled : List (ℕ × Answer)) (n : ℕ) (es : List Entry) → have_own_keys (map (settled_entry settled) (numbered_from n es)) ≡ have_own_keys es
keys_same settled n [] = refl
keys_same settled n (e ∷ es) = λ j. not (others_same e.command.key settled (n + 1) es j) && keys_same settled (n + 1) es j

entry_there : (commands : List Command) (replies : List Answer) (i : ℕ) (command : Command) → slice_get commands i ≡ Some command
    → (e : Entry) × (slice_get (entries_of commands replies) i ≡ Some e) × (e.command ≡ command)
entry_there [] replies i command there = absurd (same_none command there)
entry_there (c ∷ cs) [] zero command there = (record { command = c; reply = None }, refl, same_some c command there)
entry_there (c ∷ cs) [] (suc i) command there = entry_there cs [] i command there
entry_there (c ∷ cs) (a ∷ answers) zero command there = (record { command = c; reply = Some a }, refl, same_some c command there)
entry_there (c ∷ cs) (a ∷ answers) (suc i) command there = entry_there cs answers i command there

-- ---- found settlements

found_in : (P : ℕ × Answer → Type 0) (n : ℕ) (settled : List (ℕ × Answer)) (answer : Answer)
    → accepted_of n settled ≡ Some answer → AllByRecursion P settled → P (n, answer)
found_in P n [] answer is all = absurd (same_none answer is)
found_in P n ((m, told) ∷ settled) answer is all = elim (cases_Bool (m == n && told.status == 200)) [
  | inl both ↦
      let here : ◌≡◌ {A = Option Answer} (Some told) (Some answer) = rw both at is in
      let number : m ≡ n = same_if m n (and_parts (m == n) (told.status == 200) both).0 in
      let same : told ≡ answer = same_some told answer here in
      subst (λ (k : ℕ). P (k, answer)) number (subst (λ (a : Answer). P (m, a)) same all.0)
  | inr isnt ↦
      let rest : accepted_of n settled ≡ Some answer = rw isnt at is in
      found_in P n settled answer rest all.1
]

told_alone : (it : ℕ × Answer) → it.1.status ≡ 200 → accepted_of it.0 (it ∷ []) ≡ Some it.1
told_alone (n, answer) good = rw (same_test n, good) refl

either_told : (accepted reply : Option Answer) (answer : Answer) → or_reply accepted reply ≡ Some answer → (accepted ≡ Some answer) ⊎ (reply ≡ Some answer)
either_told None reply answer is = inr is
either_told (Some it) reply answer is = inl is

-- a refusal whose text has the bytes of this one's is this one
back_alone : (refusal : Refusal) → bytes_eq (problem_text (Decision refusal)) (problem_text (Decision MomentBack)) ≡ true → refusal ≡ MomentBack
unfolding escape_byte
back_alone MomentBack same = refl
back_alone refusal same = absurd (false≢true same)

sorry_back : (reply : Reply) → answer_of reply ≡ answer_of (Sorry MomentBack) → reply ≡ Sorry MomentBack
sorry_back (Sorry refusal) same =
    ap Sorry
    (back_alone refusal
    ((bytes_eq-Decides (problem_text (Decision refusal)) (problem_text (Decision MomentBack))).1 (ap (λ (answer : Answer). answer.body) same)))
sorry_back (Done text) same = let status : 200 ≡ 409 = ap (λ (answer : Answer). answer.status) same in absurd (omega (arith, status))
sorry_back (Shows shown) same = let status : 200 ≡ 409 = ap (λ (answer : Answer). answer.status) same in absurd (omega (arith, status))

-- ---- the outcome of the entries

module _ (has_mark : Text → Bool) (rules : Rules) (look : OfficeAsk → Books → Reply) (b : ℕ)
    (commands : List Command) (replies : List Answer) (lives : List Life) (old new : Books)
    (lived : Lives rules look lives old new) (numbers : HasNumbers old) (fresh : IsUnused has_mark (shop_of b old))
    (book : KeepsBook has_mark rules b commands replies lives old) where
  abbrev entries : List Entry
  entries = entries_of commands replies

  abbrev served : List Served
  served = served_over has_mark rules b lives old

  abbrev IsServed : Command → Answer → Type 0
  IsServed command answer = (m : ℕ) × (it : Served) × (slice_get served m ≡ Some it) × (it.command ≡ command) × (answer ≡ answer_of it.reply)

  was_served : (command : Command) (answer : Answer) → WasAnswered rules b lives old command answer
      → is_decided answer ≡ true → has_mark command.key ≡ true → IsServed command answer
  was_served command answer was decided marked =
      answers_served has_mark rules look b lives old new lived numbers was.at_life
      was.at_place was.life command answer was.lived was.asked was.told decided marked

  told_so : (settled : List (ℕ × Answer)) → WereToldLater rules b commands settled lives old
      → (i : ℕ) (x : Entry) (answer : Answer) → slice_get (book_entries commands replies settled) i ≡ Some x
      → has_mark x.command.key ≡ true → x.reply ≡ Some answer → IsServed x.command answer
  told_so settled sure i x answer there marked is =
      let it = from_at settled entries 1 i (i + 1) x refl there in
      let command : slice_get commands i ≡ Some x.command = command_at commands replies i it.entry it.there ∙ ap (λ (e : Entry). Some e.command) it.same in
      let reply : or_reply (accepted_of (i + 1) settled) it.entry.reply ≡ Some answer = ap (λ (e : Entry). e.reply) it.same ∙ is in
      elim (either_told (accepted_of (i + 1) settled) it.entry.reply answer reply) [
        | inl later ↦
            let was = found_in (WasToldLater rules b commands lives old) (i + 1) settled answer later sure in
            was_served x.command answer (was.answered i x.command refl command) (was.decided i x.command refl command) marked
        | inr first ↦
            let stand = stands commands replies i it.entry answer it.there first in
            was_served x.command answer (book.witnessed.answered i x.command answer command stand.reply) (book.witnessed.decided i answer stand.reply) marked
      ]

  became : (settled : List (ℕ × Answer)) → WereToldLater rules b commands settled lives old
      → Became has_mark (book_entries commands replies settled) served (shop_of b new)
  became settled sure =
      let now = book_entries commands replies settled in
      let marked : are_marked has_mark now ≡ true = marks_same has_mark settled 1 entries ∙ book.own.marked in
      once_over_stops has_mark rules look b now lives old new lived numbers fresh (record {
        marked = marked;
        keys = keys_same settled 1 entries ∙ book.own.keys;
        come = λ n it there.
            let from = book.witnessed.come n it there in
            (from.0, settled_entry settled (from.0 + 1, from.1), at_from settled entries 1 from.0 (from.0 + 1) from.1 refl from.2, from.3);
        order = rising_in_order now served (λ i j earlier later low at_i at_j.
            let one = from_at settled entries 1 i (i + 1) earlier refl at_i in
            let two = from_at settled entries 1 j (j + 1) later refl at_j in
            let rises : is_earlier one.entry.command.moment two.entry.command.moment ≡ true =
            book.own.moments i j one.entry two.entry low one.there two.there in
            subst (λ (e : Entry). is_earlier e.command.moment later.command.moment ≡ true) one.same
            (subst (λ (e : Entry). is_earlier one.entry.command.moment e.command.moment ≡ true) two.same rises));
        told = λ i x answer there is. told_so settled sure i x answer there (marked_at has_mark now i x marked there) is;
      })

  settles : (it : ℕ × Answer) → WasToldLater rules b commands lives old it → SettlesIt commands (shop_of b new) it
  settles it was = record {
    acted = λ good i command is at_command.
        let e = entry_there commands replies i command at_command in
        let x = settled_entry (it ∷ []) (i + 1, e.0) in
        let there = at_from (it ∷ []) entries 1 i (i + 1) e.0 refl e.1 in
        let told : accepted_of (i + 1) (it ∷ []) ≡ Some it.1 = subst (λ (n : ℕ). accepted_of n (it ∷ []) ≡ Some it.1) is (told_alone it good) in
        let reply : x.reply ≡ Some it.1 = ap (λ (answer : Option Answer). or_reply answer e.0.reply) told in
        let kept = ((became (it ∷ []) (was, tt)).each i x there).accepted it.1 reply good in
        (kept.0, kept.1, subst (λ (c : Command). IsKeptAs c kept.0 (shop_of b new)) e.2 kept.2);
    never = λ back i command is at_command.
        let e = entry_there commands replies i command at_command in
        let marked : has_mark command.key ≡ true = subst (λ (c : Command). has_mark c.key ≡ true) e.2 (marked_at has_mark entries i e.0 book.own.marked e.1) in
        let at = was_served command it.1 (was.answered i command is at_command) (was.decided i command is at_command) marked in
        let sorry : at.1.reply ≡ Sorry MomentBack = sorry_back at.1.reply (sym at.4 ∙ back) in
        let none =
        ((press_to_disk has_mark rules look b commands replies lives old new lived numbers fresh book).each i e.0 e.1).back at.0 at.1 at.2
        (at.3 ∙ sym e.2) sorry in
        subst (λ (c : Command). is_kept c.key (shop_of b new) ≡ false) e.2 none;
  }

pub all_of : {X : Type 0} (P Q : X → Type 0) → ((x : X) → P x → Q x) → (xs : List X) → AllByRecursion P xs → AllByRecursion Q xs
all_of P Q each [] all = tt
all_of P Q each (x ∷ xs) all = (each x all.0, all_of P Q each xs all.1)

-- ---- settlements stay as the chain lives on

still_at : (lives more : List Life) (n : ℕ) (life : Life) → slice_get lives n ≡ Some life → slice_get (lives ++ more) n ≡ Some life
still_at [] more n life there = absurd (same_none life there)
still_at (l ∷ lives) more zero life there = there
still_at (l ∷ lives) more (suc n) life there = still_at lives more n life there

lives_before : (lives more : List Life) (n : ℕ) (life : Life) → slice_get lives n ≡ Some life → take n (lives ++ more) ≡ take n lives
lives_before [] more n life there = absurd (same_none life there)
lives_before (l ∷ lives) more zero life there = refl
lives_before (l ∷ lives) more (suc n) life there = ap (λ (ls : List Life). l ∷ ls) (lives_before lives more n life there)

answered_on : (rules : Rules) (b : ℕ) (lives more : List Life) (old : Books) (command : Command) (answer : Answer)
    → WasAnswered rules b lives old command answer
    → WasAnswered rules b (lives ++ more) old command answer
answered_on rules b lives more old command answer was =
    let before : take was.at_life (lives ++ more) ≡ take was.at_life lives = lives_before lives more was.at_life was.life was.lived in
    record {
      at_life = was.at_life;
      at_place = was.at_place;
      life = was.life;
      lived = still_at lives more was.at_life was.life was.lived;
      asked =
          subst (λ (ls : List Life). Asks rules was.life.events was.life.answers (last_books rules (history_of ls) old) was.at_place (Counter b) (Do command))
          (sym before) was.asked;
      told = was.told;
    }

settled_on : (rules : Rules) (b : ℕ) (commands : List Command) (lives more : List Life) (old : Books) (it : ℕ × Answer)
    → WasToldLater rules b commands lives old it
    → WasToldLater rules b commands (lives ++ more) old it
settled_on rules b commands lives more old it was = record {
  answered = λ i command is there. answered_on rules b lives more old command it.1 (was.answered i command is there);
  decided = was.decided;
}

pub settled_for_good : SettledForGood
settled_for_good = record {
  became = λ has_mark rules look b commands replies settled lives old new lived numbers fresh book sure. record {
    became = became has_mark rules look b commands replies lives old new lived numbers fresh book settled sure;
    settles =
        all_of (WasToldLater rules b commands lives old) (SettlesIt commands (shop_of b new))
        (settles has_mark rules look b commands replies lives old new lived numbers fresh book) settled sure;
  };
  stays = λ rules b commands settled lives more old sure.
      all_of (WasToldLater rules b commands lives old) (WasToldLater rules b commands (lives ++ more) old)
      (settled_on rules b commands lives more old) settled sure;
}
