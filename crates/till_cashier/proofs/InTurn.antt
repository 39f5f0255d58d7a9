-- Head office's words, entered in turn.
use Rattle.std.proofs.Common.{◌≡◌, ◌∙◌, ◌+◌, ◌-◌, ◌<◌, ◌≤◌, ◌++◌, ◌∷◌, [], ℕ, List, Some, true, length, inl, inr, sym, ap, subst, refl, arith}
use Rattle.std.proofs.Common.{append-nil, append_assoc, length-append, Result, Ok, Err, IfOk}
use Rattle.std.specs.Prelude.{take, slice_get}
use Rattle.std.proofs.lemmas.Bool.{cases_lt}
use Rattle.std.proofs.lemmas.List.{take-append-le, take_all, get_or_append_left}
use Rattle.std.proofs.lemmas.Option.{slice_get_within, slice_get-get_or, get_or_from_slice_get}
use Rattle.std.proofs.Math.Seq.{get_or-append_seam}
use Rattle.sqlite.specs.State.{State}
use Rattle.shop_model.specs.Refusals.{Decision, KeyUsed}
use Rattle.shop_model.specs.Values.{Text}
use Rattle.shop_model.specs.Answers.{Answer}
use Rattle.till_client.specs.Replies.{seen_answer}
use Rattle.till_client.specs.declared.replies.Answer.{Answer as Read}
use Rattle.till_book.specs.Journal.{Journal, with_entry}
use Rattle.till_book.specs.Marks.{is_reply_to}
use Rattle.till_book.specs.Steps as book
use Rattle.till_book.specs.Steps.{IsEntered}
use Rattle.till_work.specs.declared.place.Place.{Place}
use Rattle.till_work.specs.Desk.{HasPlace, Grows, Extends, Sends, Stays, ReturnsLast, with_replies}
use Rattle.till_work.proofs.GoingOn.{more_then, extends_then, extends_same, extends_entry, extends_sent}
use Rattle.till_cashier.specs.Office.{open_key, SaysUnder, IsInTurn, AreInTurn, IsUsedAt, EntersInTurn, AddsInTurn, AddsWords, HasTurn, GrowsInTurn}
use Rattle.till_cashier.specs.Office.{HasOpenKey, HasUsedTurn, GrowsUsed, HasGiven, GivesOne, HasAnswered, AnswersInTurn}
use Rattle.till_cashier.specs.declared.fault.TillFault.{TillFault}
use Rattle.till_cashier.specs.Word.{EntersNothing, IsPlaceOf}
use Rattle.till_cashier.proofs.GoingOn.{same_extends}

-- ---- replies at places

used_more : (replies more : List Answer) (i : ℕ) → IsUsedAt replies i → IsUsedAt (replies ++ more) i
used_more replies more i it =
    let within : i < length replies = slice_get_within replies i it.0 it.1 in
    let grown : length (replies ++ more) ≡ length replies + length more = length-append replies more in
    let longer : i < length (replies ++ more) = omega (arith, within, grown) in (
      it.0,
      slice_get-get_or (replies ++ more) i it.0 longer
          ∙ ap Some (get_or_append_left replies more it.0 i within ∙ get_or_from_slice_get replies i it.0 it.0 it.1),
      it.2,
    )

last_at : (xs : List Answer) (x : Answer) → slice_get (xs ++ x ∷ []) (length xs) ≡ Some x
last_at xs x =
    let grown : length (xs ++ x ∷ []) ≡ length xs + 1 = length-append xs (x ∷ []) in
    slice_get-get_or (xs ++ x ∷ []) (length xs) x (omega (arith, grown)) ∙ ap Some (get_or-append_seam xs x [] x)

-- ---- nothing is entered

-- a book that was that one and has what was in it; nothing was entered
pub record HasNone (Exchanged : List ℕ → Answer → Type 0) (place : Place) (s : State) (old : Journal) : Type 0 where
  pub journal : Journal
  pub has : HasPlace place s journal
  pub extends : Extends Exchanged old journal
  pub same : journal.entries ≡ old.entries

abbrev pub GrowsNone : (List ℕ → Answer → Type 0) → Place → State → Place → State → Type 0
GrowsNone Exchanged before old after new = (journal : Journal) → HasPlace before old journal → HasNone Exchanged after new journal

module _ (Exchanged : List ℕ → Answer → Type 0) where
  pub stays_none : (place : Place) (old new : State) → book.Stays old new → GrowsNone Exchanged place old place new
  stays_none place old new stays journal has = record {
    journal = journal;
    has = record { rests = stays journal has.rests; entries = has.entries; replies = has.replies };
    extends = extends_same Exchanged journal;
    same = refl;
  }

  pub same_none : (before after : Place) (old new : State) → Stays before old after new → GrowsNone Exchanged before old after new
  same_none before after old new stays journal has =
      record { journal = journal; has = stays journal has; extends = extends_same Exchanged journal; same = refl }

  pub sends_none : (before after : Place) (old new : State) → Sends Exchanged before old after new → GrowsNone Exchanged before old after new
  sends_none before after old new sends journal has =
      let it = sends journal has in
      record { journal = with_replies it.0 journal; has = it.1.has; extends = extends_sent Exchanged it.0 journal it.1.told; same = refl }

  pub settles_none : (place : Place) (old new : State) → EntersNothing Exchanged old new → GrowsNone Exchanged place old place new
  settles_none place old new nothing journal has =
      let it = nothing journal has.rests in
      record {
        journal = it.journal;
        has = record { rests = it.rests; entries = has.entries ∙ ap length (sym it.entries); replies = has.replies ∙ ap length (sym it.replies) };
        extends = same_extends Exchanged new journal it;
        same = it.entries;
      }

  pub none_then : (before mid after : Place) (old between new : State)
      → GrowsNone Exchanged before old mid between → GrowsNone Exchanged mid between after new → GrowsNone Exchanged before old after new
  none_then before mid after old between new one two journal has =
      let first = one journal has in
      let next = two first.journal first.has in
      record {
        journal = next.journal;
        has = next.has;
        extends = extends_then Exchanged journal first.journal next.journal first.extends next.extends;
        same = next.same ∙ first.same;
      }

-- ---- from a journal to a later one

module _ (mark token : Text) (words : List Text) where
  -- after more replies
  later : (replies more : List Answer) (i : ℕ) (requests : List (List ℕ))
      → AreInTurn mark token words replies i requests → AreInTurn mark token words (replies ++ more) i requests
  later replies more i [] all = tt
  later replies more i (request ∷ requests) all = (
    record {
      answered = let grown = length-append replies more in let within = all.0.answered in omega (arith, grown, within);
      says = subst (λ (it : List Answer). SaysUnder mark token words (open_key it) request) (sym (take-append-le i replies more all.0.answered)) all.0.says;
    },
    later replies more (i + 1) requests all.1,
  )

  both : (replies : List Answer) (i : ℕ) (xs ys : List (List ℕ)) → AreInTurn mark token words replies i xs
      → AreInTurn mark token words replies (i + length xs) ys → AreInTurn mark token words replies i (xs ++ ys)
  both replies i [] ys one two =
      let same : i + 0 ≡ i = omega arith in
      subst (λ (k : ℕ). AreInTurn mark token words replies k ys) same two
  both replies i (x ∷ xs) ys one two =
      let same : i + length (x ∷ xs) ≡ i + 1 + length xs = omega arith in
      (one.0, both replies (i + 1) xs ys one.1 (subst (λ (k : ℕ). AreInTurn mark token words replies k ys) same two))

  turn_same : (old new : Journal) → new.entries ≡ old.entries → EntersInTurn mark token words old new
  turn_same old new same = record {
    requests = [];
    entries = same ∙ sym (append-nil old.entries);
    each = tt;
    again = λ k less. absurd (let none : k + 1 < 0 = less in omega arith);
  }

  first_turn : (request : List ℕ) (n : ℕ) (old : Journal) → SaysUnder mark token words n request → n ≡ open_key old.replies
      → length old.replies ≡ length old.entries → AreInTurn mark token words old.replies (length old.entries) (request ∷ [])
  first_turn request n old says key counted =
      let within : length old.entries ≤ length old.replies = omega (arith, counted) in
      let short : length old.replies ≤ length old.entries = omega (arith, counted) in (
        record {
          answered = within;
          says = subst (λ (k : ℕ). SaysUnder mark token words k request) (key ∙ ap open_key (sym (take_all (length old.entries) old.replies short))) says;
        },
        tt,
      )

  -- one request was entered when each earlier entry had its reply
  entered_turn : (request : List ℕ) (n : ℕ) (old new : Journal) (more : List Answer) → new.replies ≡ old.replies ++ more
      → SaysUnder mark token words n request → n ≡ open_key old.replies → length old.replies ≡ length old.entries
      → new.entries ≡ old.entries ++ request ∷ [] → EntersInTurn mark token words old new
  entered_turn request n old new more grown says key counted entries = record {
    requests = request ∷ [];
    entries = entries;
    each =
        subst (λ (it : List Answer). AreInTurn mark token words it (length old.entries) (request ∷ [])) (sym grown)
        (later old.replies more (length old.entries) (request ∷ []) (first_turn request n old says key counted));
    again = λ k less. absurd (let none : k + 1 < length (request ∷ []) = less in omega arith);
  }

  -- If others follow, each request of the first got that reply.
  turn_then : (a b c : Journal) (more : List Answer) → c.replies ≡ b.replies ++ more → (one : EntersInTurn mark token words a b)
      → (two : EntersInTurn mark token words b c)
      → ((k : ℕ) → k < length one.requests → k + 1 < length one.requests + length two.requests → IsUsedAt b.replies (length a.entries + k))
      → EntersInTurn mark token words a c
  turn_then a b c more grown one two used =
      let place : length b.entries ≡ length a.entries + length one.requests = ap length one.entries ∙ length-append a.entries one.requests in
      let first : AreInTurn mark token words c.replies (length a.entries) one.requests =
      subst (λ (it : List Answer). AreInTurn mark token words it (length a.entries) one.requests) (sym grown)
      (later b.replies more (length a.entries) one.requests one.each) in
      let next : AreInTurn mark token words c.replies (length a.entries + length one.requests) two.requests =
      subst (λ (k : ℕ). AreInTurn mark token words c.replies k two.requests) place two.each in
      record {
        requests = one.requests ++ two.requests;
        entries = more_then a.entries b.entries c.entries one.requests two.requests one.entries two.entries;
        each = both c.replies (length a.entries) one.requests two.requests first next;
        again = λ k less.
            let count : length (one.requests ++ two.requests) ≡ length one.requests + length two.requests = length-append one.requests two.requests in
            let within : k + 1 < length one.requests + length two.requests = omega (arith, less, count) in
            elim (cases_lt k (length one.requests)) [
              | inl before ↦
                  subst (λ (it : List Answer). IsUsedAt it (length a.entries + k)) (sym grown)
                  (used_more b.replies more (length a.entries + k) (used k before within))
              | inr after ↦
                  let at : length b.entries + (k - length one.requests) ≡ length a.entries + k = omega (arith, place, after) in
                  subst (λ (i : ℕ). IsUsedAt c.replies i) at (two.again (k - length one.requests) (omega (arith, within, after)))
            ];
      }

  -- ---- from a book to a later one

  module _ (Exchanged : List ℕ → Answer → Type 0) where
    pub turn_grows : (before after : Place) (old new : State) → GrowsInTurn Exchanged mark token words before old after new
        → Grows Exchanged before old after new
    turn_grows before after old new grows journal has =
        let it = grows journal has in record { journal = it.journal; has = it.has; extends = it.extends }

    pub turn_adds : (before after : Place) (old new : State) → GrowsInTurn Exchanged mark token words before old after new
        → AddsInTurn mark token words before old after new
    turn_adds before after old new grows journal has = let it = grows journal has in (it.journal, it.has, it.turn)

    pub none_turn : (before after : Place) (old new : State) → GrowsNone Exchanged before old after new
        → GrowsInTurn Exchanged mark token words before old after new
    none_turn before after old new grows journal has =
        let it = grows journal has in record { journal = it.journal; has = it.has; extends = it.extends; turn = turn_same journal it.journal it.same }

    -- ---- one after another

    has_turn_then : (mid after : Place) (between new : State) (journal : Journal) → HasTurn Exchanged mark token words mid between journal
        → GrowsNone Exchanged mid between after new → HasTurn Exchanged mark token words after new journal
    unfolding turn_same
    has_turn_then mid after between new journal first two =
        let next = two first.journal first.has in
        record {
          journal = next.journal;
          has = next.has;
          extends = extends_then Exchanged journal first.journal next.journal first.extends next.extends;
          turn =
              turn_then journal first.journal next.journal next.extends.replies.0 next.extends.replies.1 first.turn
              (turn_same first.journal next.journal next.same)
              (λ k less within. let last : k + 1 < length first.turn.requests + 0 = within in first.turn.again k (omega (arith, last)));
        }

    pub turn_none : (before mid after : Place) (old between new : State) → GrowsInTurn Exchanged mark token words before old mid between
        → GrowsNone Exchanged mid between after new → GrowsInTurn Exchanged mark token words before old after new
    turn_none before mid after old between new one two journal has = has_turn_then mid after between new journal (one journal has) two

    pub used_turn : (before mid after : Place) (old between new : State) → GrowsUsed Exchanged mark token words before old mid between
        → GrowsInTurn Exchanged mark token words mid between after new → GrowsInTurn Exchanged mark token words before old after new
    used_turn before mid after old between new one two journal has =
        let first = one journal has in
        let next = two first.0.journal first.0.has in
        record {
          journal = next.journal;
          has = next.has;
          extends = extends_then Exchanged journal first.0.journal next.journal first.0.extends next.extends;
          turn =
              turn_then journal first.0.journal next.journal next.extends.replies.0 next.extends.replies.1 first.0.turn next.turn
              (λ k less within. first.1 k less);
        }

    none_used : (before after : Place) (old new : State) → GrowsNone Exchanged before old after new → GrowsUsed Exchanged mark token words before old after new
    unfolding none_turn turn_same
    none_used before after old new grows journal has = (
      none_turn before after old new grows journal has,
      λ k less. absurd (let none : k < 0 = less in omega arith),
    )

    pub turn_after : (before mid after : Place) (old between new : State) → GrowsNone Exchanged before old mid between
        → GrowsInTurn Exchanged mark token words mid between after new → GrowsInTurn Exchanged mark token words before old after new
    turn_after before mid after old between new one two = used_turn before mid after old between new (none_used before mid old between one) two

    -- ---- one request

    -- a request that was entered when each earlier entry had its reply
    pub entry_turn : (k n : ℕ) (request : List ℕ) (before after : Place) (old new : State) → k ≡ before.entries + 1 → after ≡ record before { entries = k }
        → IsEntered k request old new → SaysUnder mark token words n request → before.replies ≡ before.entries
        → (journal : Journal) → HasPlace before old journal → n ≡ open_key journal.replies → HasTurn Exchanged mark token words after new journal
    entry_turn k n request before after old new counted same it says answered journal has key =
        let next : k ≡ length journal.entries + 1 = counted ∙ ap (λ j. j + 1) has.entries in
        rw same (record {
          journal = with_entry request journal;
          has = record {
            rests = it journal has.rests next;
            entries = next ∙ sym (length-append journal.entries (request ∷ []));
            replies = has.replies;
          };
          extends = extends_entry Exchanged request journal;
          turn =
              entered_turn request n journal (with_entry request journal) [] (sym (append-nil journal.replies)) says key
              (sym has.replies ∙ answered ∙ has.entries) refl;
        })

    -- and after it what was sent
    pub entry_sent : (k n : ℕ) (request : List ℕ) (before mid after : Place) (old between new : State) → k ≡ before.entries + 1
        → mid ≡ record before { entries = k } → IsEntered k request old between → SaysUnder mark token words n request → before.replies ≡ before.entries
        → Sends Exchanged mid between after new
        → (journal : Journal) → HasPlace before old journal → n ≡ open_key journal.replies → HasTurn Exchanged mark token words after new journal
    entry_sent k n request before mid after old between new counted same it says answered sends journal has key =
        has_turn_then mid after between new journal (entry_turn k n request before mid old between counted same it says answered journal has key)
        (sends_none Exchanged mid after between new sends)

    -- what was entered is one request, and got that reply
    pub given_used : (n : ℕ) (request : List ℕ) (answer : Answer) (before after : Place) (old new : State) → SaysUnder mark token words n request
        → before.replies ≡ before.entries → GivesOne Exchanged request answer before old after new → is_reply_to (Decision KeyUsed) answer ≡ true
        → (journal : Journal) → HasPlace before old journal → n ≡ open_key journal.replies → HasUsedTurn Exchanged mark token words after new journal
    unfolding entered_turn
    given_used n request answer before after old new says answered gives used journal has key =
        let it = gives journal has in
        let turn : EntersInTurn mark token words journal it.journal =
        entered_turn request n journal it.journal it.extends.replies.0 it.extends.replies.1 says key (sym has.replies ∙ answered ∙ has.entries) it.entries in (
          record { journal = it.journal; has = it.has; extends = it.extends; turn = turn },
          λ k less.
              let first : k < length (request ∷ []) = less in
              let at : length journal.entries ≡ length journal.entries + k = omega (arith, first) in
              subst (λ (i : ℕ). IsUsedAt it.journal.replies i) at (answer, it.reply, used),
        )

    -- the open key was read before
    pub used_if : (n : ℕ) (request : List ℕ) (before after : Place) (old read new : State) (given : Result Read TillFault)
        → SaysUnder mark token words n request → before.replies ≡ before.entries → book.Stays old read → HasOpenKey n old
        → IfOk given (λ (answer : Read). GivesOne Exchanged request (seen_answer answer) before read after new)
        → IfOk given (λ (answer : Read). is_reply_to (Decision KeyUsed) (seen_answer answer) ≡ true → GrowsUsed Exchanged mark token words before old after new)
    used_if n request before after old read new (Ok answer) says answered stays key gives = λ used journal has.
        given_used n request (seen_answer answer) before after read new says answered gives used journal
        (record { rests = stays journal has.rests; entries = has.entries; replies = has.replies }) (key journal has.rests)
    used_if n request before after old read new (Err fault) says answered stays key gives = tt

module _ (Exchanged : List ℕ → Answer → Type 0) where
  -- the last reply is that of the last entry
  pub gives_one : (request : List ℕ) (answer : Read) (before mid after : Place) (old between new : State) → IsEntered (before.entries + 1) request old between
      → mid ≡ record before { entries = before.entries + 1 } → ReturnsLast Exchanged (Some answer) mid between after new → before.replies ≡ before.entries
      → (mid.replies ≤ mid.entries → after.replies ≡ mid.entries) → GivesOne Exchanged request (seen_answer answer) before old after new
  gives_one request answer before mid after old between new entered same tells answered all journal has =
      let next : before.entries + 1 ≡ length journal.entries + 1 = ap (λ j. j + 1) has.entries in
      let middle = with_entry request journal in
      let grown : length middle.entries ≡ length journal.entries + 1 = length-append journal.entries (request ∷ []) in
      let there : HasPlace mid between middle =
      rw same (record { rests = entered journal has.rests next; entries = next ∙ sym grown; replies = has.replies }) in
      let it = tells middle there in
      let last = it.2 in
      let front = journal.replies ++ last.0 in
      let replies : journal.replies ++ it.0 ≡ front ++ seen_answer answer ∷ [] =
      ap (λ (more : List Answer). journal.replies ++ more) last.1 ∙ sym (append_assoc journal.replies last.0 (seen_answer answer ∷ [])) in
      let few : mid.replies ≤ mid.entries =
      let a = there.entries in let b = there.replies in let c = has.entries in let d = has.replies in omega (arith, a, b, c, d, grown, answered) in
      let sent : after.replies ≡ mid.entries = all few in
      let count : after.replies ≡ length front + 1 =
      it.1.has.replies ∙ ap length replies ∙ length-append front (seen_answer answer ∷ []) in
      let place : length front ≡ length journal.entries = let a = there.entries in omega (arith, a, sent, count, grown) in
      record {
        journal = with_replies it.0 middle;
        has = it.1.has;
        extends = extends_then Exchanged journal middle (with_replies it.0 middle) (extends_entry Exchanged request journal)
            (extends_sent Exchanged it.0 middle it.1.told);
        entries = refl;
        reply =
            ap (λ (rs : List Answer). slice_get rs (length journal.entries)) replies
            ∙ ap (λ (i : ℕ). slice_get (front ++ seen_answer answer ∷ []) i) (sym place)
            ∙ last_at front (seen_answer answer);
      }

-- ---- a word

module _ (mark token : Text) (words : List Text) where
  pub stays_words : (old new : State) → book.Stays old new → AddsWords mark token words old new
  stays_words old new stays journal rests = (journal, stays journal rests, turn_same mark token words journal journal refl)

  pub added_words : (place after : Place) (old mid new : State) → IsPlaceOf place old → book.Stays old mid
      → AddsInTurn mark token words place mid after new → AddsWords mark token words old new
  added_words place after old mid new is stays adds journal rests =
      let counted = is journal rests in
      let it = adds journal (record { rests = stays journal rests; entries = counted.0; replies = counted.1 }) in
      (it.0, it.1.rests, it.2)

-- ---- the last reply

-- a reply stays where it is
same_reply : (replies more all : List Answer) (i : ℕ) (answer : Answer) → all ≡ replies ++ more → slice_get replies i ≡ Some answer
    → slice_get all i ≡ Some answer
same_reply replies more all i answer grown there =
    let within : i < length replies = slice_get_within replies i answer there in
    let count : length (replies ++ more) ≡ length replies + length more = length-append replies more in
    let longer : i < length (replies ++ more) = omega (arith, within, count) in
    ap (λ (it : List Answer). slice_get it i) grown ∙ slice_get-get_or (replies ++ more) i answer longer
    ∙ ap Some (get_or_append_left replies more answer i within ∙ get_or_from_slice_get replies i answer answer there)

module _ (Exchanged : List ℕ → Answer → Type 0) (mark token : Text) (words : List Text) (answer : Answer) where
  -- nothing was entered before
  pub answered_after : (before mid after : Place) (old between new : State) → GrowsNone Exchanged before old mid between
      → AnswersInTurn Exchanged mark token words answer mid between after new → AnswersInTurn Exchanged mark token words answer before old after new
  unfolding turn_same
  answered_after before mid after old between new one two journal has =
      let first = one journal has in
      let next = two first.journal first.has in
      let at = next.turn in
      let count : length first.journal.entries ≡ length journal.entries = ap length first.same in
      let within = next.is_new in
      record {
        turn = record {
          journal = at.journal;
          has = at.has;
          extends = extends_then Exchanged journal first.journal at.journal first.extends at.extends;
          turn =
              turn_then mark token words journal first.journal at.journal at.extends.replies.0 at.extends.replies.1
              (turn_same mark token words journal first.journal first.same) at.turn
              (λ k less within. absurd (let none : k < 0 = less in omega arith));
        };
        last = next.last;
        is_new = omega (arith, count, within);
        is_last = next.is_last;
        reply = next.reply;
      }

  -- nothing was entered after
  pub answered_none : (before mid after : Place) (old between new : State) → AnswersInTurn Exchanged mark token words answer before old mid between
      → GrowsNone Exchanged mid between after new → AnswersInTurn Exchanged mark token words answer before old after new
  unfolding turn_same
  answered_none before mid after old between new one two journal has =
      let first = one journal has in
      let at = first.turn in
      let next = two at.journal at.has in
      record {
        turn = record {
          journal = next.journal;
          has = next.has;
          extends = extends_then Exchanged journal at.journal next.journal at.extends next.extends;
          turn =
              turn_then mark token words journal at.journal next.journal next.extends.replies.0 next.extends.replies.1 at.turn
              (turn_same mark token words at.journal next.journal next.same)
              (λ k less within. let last : k + 1 < length at.turn.requests + 0 = within in at.turn.again k (omega (arith, last)));
        };
        last = first.last;
        is_new = first.is_new;
        is_last = ap length next.same ∙ first.is_last;
        reply = same_reply at.journal.replies next.extends.replies.0 next.journal.replies first.last answer next.extends.replies.1 first.reply;
      }

  -- what was entered before got the reply that another command has its key
  pub used_answered : (before mid after : Place) (old between new : State) → GrowsUsed Exchanged mark token words before old mid between
      → AnswersInTurn Exchanged mark token words answer mid between after new → AnswersInTurn Exchanged mark token words answer before old after new
  used_answered before mid after old between new one two journal has =
      let first = one journal has in
      let next = two first.0.journal first.0.has in
      let at = next.turn in
      let count : length first.0.journal.entries ≡ length journal.entries + length first.0.turn.requests =
      ap length first.0.turn.entries ∙ length-append journal.entries first.0.turn.requests in
      let within = next.is_new in
      record {
        turn = record {
          journal = at.journal;
          has = at.has;
          extends = extends_then Exchanged journal first.0.journal at.journal first.0.extends at.extends;
          turn =
              turn_then mark token words journal first.0.journal at.journal at.extends.replies.0 at.extends.replies.1 first.0.turn at.turn
              (λ k less within. first.1 k less);
        };
        last = next.last;
        is_new = omega (arith, count, within);
        is_last = next.is_last;
        reply = next.reply;
      }

  -- one request, which got that reply
  given_answered : (n : ℕ) (request : List ℕ) (before after : Place) (old new : State) → SaysUnder mark token words n request
      → before.replies ≡ before.entries → GivesOne Exchanged request answer before old after new
      → (journal : Journal) → HasPlace before old journal → n ≡ open_key journal.replies
      → HasAnswered Exchanged mark token words answer after new journal
  given_answered n request before after old new says answered gives journal has key =
      let it = gives journal has in
      let count : length (journal.entries ++ request ∷ []) ≡ length journal.entries + 1 = length-append journal.entries (request ∷ []) in
      record {
        turn = record {
          journal = it.journal;
          has = it.has;
          extends = it.extends;
          turn =
              entered_turn mark token words request n journal it.journal it.extends.replies.0 it.extends.replies.1 says key
              (sym has.replies ∙ answered ∙ has.entries) it.entries;
        };
        last = length journal.entries;
        is_new = omega arith;
        is_last = ap length it.entries ∙ count;
        reply = it.reply;
      }

-- the open key was read before
pub answered_if : (Exchanged : List ℕ → Answer → Type 0) (mark token : Text) (words : List Text) (n : ℕ) (request : List ℕ) (before after : Place)
    (old read new : State) (given : Result Read TillFault)
    → SaysUnder mark token words n request → before.replies ≡ before.entries → book.Stays old read → HasOpenKey n old
    → IfOk given (λ (answer : Read). GivesOne Exchanged request (seen_answer answer) before read after new)
    → IfOk given (λ (answer : Read). AnswersInTurn Exchanged mark token words (seen_answer answer) before old after new)
answered_if Exchanged mark token words n request before after old read new (Ok answer) says answered stays key gives = λ journal has.
    given_answered Exchanged mark token words (seen_answer answer) n request before after read new says answered gives journal
    (record { rests = stays journal has.rests; entries = has.entries; replies = has.replies }) (key journal has.rests)
answered_if Exchanged mark token words n request before after old read new (Err fault) says answered stays key gives = tt
