-- A till's book goes on, step by step.
use Rattle.std.proofs.Common.{◌≡◌, ◌≢◌, ◌∙◌, ◌+◌, ◌++◌, ◌∷◌, [], ℕ, List, Option, Some, None, Result, Ok, Err, IfOk, IfErr, length, inl, inr, sym, ap, refl}
use Rattle.std.proofs.Common.{subst, append_assoc, append-nil, length-append}
use Rattle.sqlite.specs.State.{State}
use Rattle.shop_model.specs.Values.{Text, Command}
use Rattle.shop_model.specs.Answers.{Answer}
use Rattle.till_client.specs.Replies.{seen_answer, answer_bytes}
use Rattle.std.specs.Io.KnownBytes.{Appends, Consumes}
use Rattle.till_client.specs.declared.replies.Answer.{Answer as Read}
use Rattle.till_book.specs.Journal.{Journal, with_entry, with_reply}
use Rattle.till_book.specs.Steps as book
use Rattle.till_book.specs.Steps.{Rests, IsNextReply, IsEntered}
use Rattle.till_work.specs.Entering.{Enters, FailsToEnter}
use Rattle.till_work.specs.Delivering.{Delivers, FailsToDeliver}
use Rattle.till_work.specs.declared.fault.DeskFault.{DeskFault}
use Rattle.till_work.specs.declared.fault.DeskFault.TheVariants as desk
use Rattle.till_work.specs.declared.place.Place.{Place}
use Rattle.till_work.specs.Exchanged.{IsExchanged, IsExchangedAt, AreExchanged, AreSettled, IsUnanswered, IsPutOff}
use Rattle.till_work.specs.Desk.{HasPlace, IsAt, Extends, Becomes, HasMore, GoesOn, Grows, Stays, EntersOne, AnswersOne, AreSent, Sends, ReturnsLast, IsLastOf}
use Rattle.till_work.specs.Desk.{with_replies, IsWhy, FailsToExchange, FailsToSend, IsBookKept}
use Rattle.till_work.proofs.Exchanging.{all_told_more, told_then, all_settled_more, settled_then}

-- a list that goes on a list that goes on a list goes on it
pub more_then : {A : Type 0} (x y z a b : List A) → y ≡ x ++ a → z ≡ y ++ b → z ≡ x ++ (a ++ b)
more_then x y z a b one two = two ∙ ap (λ l. l ++ b) one ∙ append_assoc x a b

pub nothing_more : {A : Type 0} (x : List A) → x ≡ x ++ []
nothing_more x = sym (append-nil x)

length_behind : {A : Type 0} (xs : List A) (x : A) → length (xs ++ x ∷ []) ≡ length xs + 1
length_behind xs x = length-append xs (x ∷ [])

-- ---- a till's book and its place

pub place_of : (mark : Text) (place : Place) (s : State) (journal : Journal) (commands : List Command)
    → IsAt mark place s journal commands → HasPlace place s journal
place_of mark place s journal commands at = record { rests = at.rests; entries = at.entries; replies = at.replies }

-- where the entries are the same the book is a till's still
pub at_place : (mark : Text) (before after : Place) (old new : State) (journal next : Journal) (commands : List Command) → IsAt mark before old journal commands
    → next.entries ≡ journal.entries → HasPlace after new next → IsAt mark after new next commands
at_place mark before after old new journal next commands at same has = record {
  rests = has.rests;
  book = record { says = rw same at.book.says; numbered = at.book.numbered };
  entries = has.entries;
  replies = has.replies;
}

pub stays_then : (before after last : Place) (old new end : State) → Stays before old after new → Stays after new last end → Stays before old last end
stays_then before after last old new end one two journal has = two journal (one journal has)

pub rests_stays : (place : Place) (old new : State) → ((journal : Journal) → Rests old journal → Rests new journal) → Stays place old place new
rests_stays place old new stays journal has = record { rests = stays journal has.rests; entries = has.entries; replies = has.replies }

-- ---- a journal that has more

module _ (Exchanged : List ℕ → Answer → Type 0) where
  -- from the place of the later of two journals
  told_behind : (a b : Journal) (entries : List (List ℕ)) (first : List Answer) (later : List Answer) → b.replies ≡ a.replies ++ first
      → AreExchanged Exchanged entries (length b.replies) later → AreExchanged Exchanged entries (length a.replies + length first) later
  told_behind a b entries first later is told =
      let place : length b.replies ≡ length a.replies + length first = ap length is ∙ length-append a.replies first in
      subst (λ (k : ℕ). AreExchanged Exchanged entries k later) place told

  pub extends_then : (a b c : Journal) → Extends Exchanged a b → Extends Exchanged b c → Extends Exchanged a c
  extends_then a b c one two =
      let more = two.entries.0 in
      let grown : c.entries ≡ b.entries ++ more = two.entries.1 in
      let before : AreExchanged Exchanged c.entries (length a.replies) one.replies.0 =
      subst (λ (es : List (List ℕ)). AreExchanged Exchanged es (length a.replies) one.replies.0) (sym grown)
      (all_told_more Exchanged b.entries more (length a.replies) one.replies.0 one.replies.2) in
      let after : AreExchanged Exchanged c.entries (length a.replies + length one.replies.0) two.replies.0 =
      told_behind a b c.entries one.replies.0 two.replies.0 one.replies.1 two.replies.2 in
      let settled : AreSettled Exchanged c.entries one.settled.0 =
      subst (λ (es : List (List ℕ)). AreSettled Exchanged es one.settled.0) (sym grown)
      (all_settled_more Exchanged b.entries more one.settled.0 one.settled.2) in
      record {
        entries = (one.entries.0 ++ more, more_then a.entries b.entries c.entries one.entries.0 more one.entries.1 grown);
        replies = (
          one.replies.0 ++ two.replies.0,
          more_then a.replies b.replies c.replies one.replies.0 two.replies.0 one.replies.1 two.replies.1,
          told_then Exchanged c.entries (length a.replies) one.replies.0 two.replies.0 before after,
        );
        settled = (
          one.settled.0 ++ two.settled.0,
          more_then a.settled b.settled c.settled one.settled.0 two.settled.0 one.settled.1 two.settled.1,
          settled_then Exchanged c.entries one.settled.0 two.settled.0 settled two.settled.2,
        );
      }

  pub extends_same : (journal : Journal) → Extends Exchanged journal journal
  extends_same journal = record {
    entries = ([], nothing_more journal.entries);
    replies = ([], nothing_more journal.replies, tt);
    settled = ([], nothing_more journal.settled, tt);
  }

  pub extends_entry : (request : List ℕ) (journal : Journal) → Extends Exchanged journal (with_entry request journal)
  extends_entry request journal = record {
    entries = (request ∷ [], refl);
    replies = ([], nothing_more journal.replies, tt);
    settled = ([], nothing_more journal.settled, tt);
  }

  pub extends_sent : (answers : List Answer) (journal : Journal)
      → AreExchanged Exchanged journal.entries (length journal.replies) answers → Extends Exchanged journal (with_replies answers journal)
  extends_sent answers journal told = record {
    entries = ([], nothing_more journal.entries);
    replies = (answers, refl, told);
    settled = ([], nothing_more journal.settled, tt);
  }

  -- ---- a till's book goes on

  pub becomes_same : (mark : Text) (place : Place) (s : State) (journal : Journal) (commands : List Command) → IsAt mark place s journal commands
      → Becomes Exchanged mark place s journal commands
  becomes_same mark place s journal commands at = record {
    journal = journal;
    commands = commands;
    is_at = at;
    extends = extends_same journal;
    says = ([], nothing_more commands);
  }

  pub becomes_then :
      (mark : Text) (after last : Place) (new end : State) (journal : Journal) (commands : List Command)
      (mid : Becomes Exchanged mark after new journal commands)
      → Becomes Exchanged mark last end mid.journal mid.commands → Becomes Exchanged mark last end journal commands
  becomes_then mark after last new end journal commands mid it = record {
    journal = it.journal;
    commands = it.commands;
    is_at = it.is_at;
    extends = extends_then journal mid.journal it.journal mid.extends it.extends;
    says = (mid.says.0 ++ it.says.0, more_then commands mid.commands it.commands mid.says.0 it.says.0 mid.says.1 it.says.1);
  }

  pub goes_then : (mark : Text) (before after last : Place) (old new end : State)
      → GoesOn Exchanged mark before old after new → GoesOn Exchanged mark after new last end
      → GoesOn Exchanged mark before old last end
  goes_then mark before after last old new end one two journal commands at =
      let mid = one journal commands at in becomes_then mark after last new end journal commands mid (two mid.journal mid.commands mid.is_at)

  pub stays_goes : (mark : Text) (before after : Place) (old new : State) → Stays before old after new → GoesOn Exchanged mark before old after new
  stays_goes mark before after old new stays journal commands at =
      becomes_same mark after new journal commands
      (at_place mark before after old new journal journal commands at refl (stays journal (place_of mark before old journal commands at)))

  pub entry_goes : (mark token : Text) (request : List ℕ) (before after : Place) (old new : State) → EntersOne mark token request before old after new
      → GoesOn Exchanged mark before old after new
  entry_goes mark token request before after old new enters journal commands at =
      let it = enters journal commands at in
      record {
        journal = with_entry request journal;
        commands = commands ++ it.0 ∷ [];
        is_at = it.2;
        extends = extends_entry request journal;
        says = (it.0 ∷ [], refl);
      }

  pub sends_goes : (mark : Text) (before after : Place) (old new : State) → Sends Exchanged before old after new → GoesOn Exchanged mark before old after new
  sends_goes mark before after old new sends journal commands at =
      let it = sends journal (place_of mark before old journal commands at) in
      record {
        journal = with_replies it.0 journal;
        commands = commands;
        is_at = at_place mark before after old new journal (with_replies it.0 journal) commands at refl it.1.has;
        extends = extends_sent it.0 journal it.1.told;
        says = ([], nothing_more commands);
      }

  -- ---- whatever the entries say

  pub grows_then : (before mid after : Place) (old between new : State) → Grows Exchanged before old mid between
      → Grows Exchanged mid between after new → Grows Exchanged before old after new
  grows_then before mid after old between new one two journal has =
      let first = one journal has in
      let next = two first.journal first.has in
      record { journal = next.journal; has = next.has; extends = extends_then journal first.journal next.journal first.extends next.extends }

  pub stays_grows : (before after : Place) (old new : State) → Stays before old after new → Grows Exchanged before old after new
  stays_grows before after old new stays journal has = record { journal = journal; has = stays journal has; extends = extends_same journal }

  pub sends_grows : (before after : Place) (old new : State) → Sends Exchanged before old after new → Grows Exchanged before old after new
  sends_grows before after old new sends journal has =
      let it = sends journal has in
      record { journal = with_replies it.0 journal; has = it.1.has; extends = extends_sent it.0 journal it.1.told }

  pub entry_grows : (n : ℕ) (request : List ℕ) (before after : Place) (old new : State) → n ≡ before.entries + 1 → after ≡ record before { entries = n }
      → IsEntered n request old new → Grows Exchanged before old after new
  entry_grows n request before after old new counted same it journal has =
      let next : n ≡ length journal.entries + 1 = counted ∙ ap (λ k. k + 1) has.entries in
      rw same (record {
        journal = with_entry request journal;
        has = record { rests = it journal has.rests next; entries = next ∙ sym (length_behind journal.entries request); replies = has.replies };
        extends = extends_entry request journal;
      })

  -- ---- several replies

  pub stays_answers : (answer : Answer) (before mid after : Place) (old between new : State) → Stays before old mid between
      → AnswersOne Exchanged answer mid between after new → AnswersOne Exchanged answer before old after new
  stays_answers answer before mid after old between new stays answers journal has = answers journal (stays journal has)

  pub tells_sends : (last : Option Read) (before after : Place) (old new : State) → ReturnsLast Exchanged last before old after new
      → Sends Exchanged before old after new
  tells_sends last before after old new tells journal has = let it = tells journal has in (it.0, it.1)

  pub sends_stays : (before mid after : Place) (old between new : State)
      → Sends Exchanged before old mid between → Stays mid between after new → Sends Exchanged before old after new
  sends_stays before mid after old between new sends stays journal has =
      let it = sends journal has in
      (it.0, record { has = stays (with_replies it.0 journal) it.1.has; told = it.1.told })

  pub none_sent : (place : Place) (s : State) → ReturnsLast Exchanged None place s place s
  none_sent place s journal has = (
    [],
    record { has = subst (λ (rs : List Answer). HasPlace place s (record journal { replies = rs })) (nothing_more journal.replies) has; told = tt },
    refl,
  )

  pub tells_one : (last : Option Read) (answer : Read) (before mid after : Place) (old between new : State) → ReturnsLast Exchanged last before old mid between
      → AnswersOne Exchanged (seen_answer answer) mid between after new → ReturnsLast Exchanged (Some answer) before old after new
  tells_one last answer before mid after old between new tells answers journal has =
      let it = tells journal has in
      let one = answers (with_replies it.0 journal) it.1.has in
      let place : length (journal.replies ++ it.0) ≡ length journal.replies + length it.0 = length-append journal.replies it.0 in
      let told : AreExchanged Exchanged journal.entries (length journal.replies + length it.0) (seen_answer answer ∷ []) =
      (subst (λ (k : ℕ). IsExchangedAt Exchanged journal.entries k (seen_answer answer)) place one.1, tt) in (
        it.0 ++ seen_answer answer ∷ [],
        record {
          has =
              subst (λ (rs : List Answer). HasPlace after new (record journal { replies = rs }))
              (append_assoc journal.replies it.0 (seen_answer answer ∷ [])) one.0;
          told = told_then Exchanged journal.entries (length journal.replies) it.0 (seen_answer answer ∷ []) it.1.told told;
        },
        (it.0, refl),
      )

-- ---- what the book's calls say

module _ {R W : Type 0} (opens : R → W → Type 0) (remaining : R → Option (List ℕ)) (contents : W → Option (List ℕ)) where
  -- an entry that was delivered over streams that were opened has its reply from them
  pub delivers_one : (n : ℕ) (answer : Read) (before after : Place) (old new : State) (reader read : R) (writer written : W) → n ≡ before.replies + 1
      → after ≡ record before { replies = n } → opens reader writer
      → Delivers n (Some answer) old new (remaining reader) (remaining read) (contents writer) (contents written)
      → AnswersOne (IsExchanged opens remaining contents) (seen_answer answer) before old after new
  delivers_one n answer before after old new reader read writer written counted same opened it journal has =
      let next : n ≡ length journal.replies + 1 = counted ∙ ap (λ k. k + 1) has.replies in
      let one = it journal has.rests next in (
        rw same (record { rests = one.rests; entries = has.entries; replies = next ∙ sym (length_behind journal.replies (seen_answer answer)) }),
        (
          one.request,
          one.oldest,
          record {
            reader = reader;
            writer = writer;
            read = read;
            written = written;
            opened = opened;
            writes = one.writes;
            reads = one.reads;
            decided = one.decided;
            known = one.known;
          },
        ),
      )

pub none_stays : (n : ℕ) (place : Place) (old new : State) (input left output written : Option (List ℕ))
    → n ≡ place.replies + 1 → Delivers n None old new input left output written
    → Stays place old place new
none_stays n place old new input left output written counted it journal has =
    let next : n ≡ length journal.replies + 1 = counted ∙ ap (λ k. k + 1) has.replies in
    record { rests = (it journal has.rests next).rests; entries = has.entries; replies = has.replies }

failing_sending : (n : ℕ) (fault : DeskFault) (old new : State) (output written : Option (List ℕ))
    → FailsToDeliver n fault old new output written → fault ≢ desk.Book
    → (journal : Journal) → Rests old journal → IsNextReply n journal → Rests new journal
failing_sending n (desk.Unanswered why) old new output written fails kept journal rests next = (fails journal rests next).0
failing_sending n desk.NotNow old new output written fails kept journal rests next = (fails journal rests next).0
failing_sending n desk.NotKnown old new output written fails kept journal rests next = (fails journal rests next).0
failing_sending n desk.Book old new output written fails kept journal rests next = absurd (kept refl)
failing_sending n desk.Full old new output written fails kept journal rests next = absurd fails
failing_sending n desk.Memory old new output written fails kept journal rests next = absurd fails
failing_sending n desk.NoCommand old new output written fails kept journal rests next = absurd fails
failing_sending n desk.OtherKey old new output written fails kept journal rests next = absurd fails
failing_sending n desk.NotLater old new output written fails kept journal rests next = absurd fails
failing_sending n desk.OtherBook old new output written fails kept journal rests next = absurd fails
failing_sending n desk.NoEntry old new output written fails kept journal rests next = absurd fails
failing_sending n desk.Unopened old new output written fails kept journal rests next = absurd fails

pub failing_stays : (n : ℕ) (fault : DeskFault) (place : Place) (old new : State) (output written : Option (List ℕ)) → n ≡ place.replies + 1
    → FailsToDeliver n fault old new output written → fault ≢ desk.Book → Stays place old place new
failing_stays n fault place old new output written counted fails kept journal has = record {
  rests = failing_sending n fault old new output written fails kept journal has.rests (counted ∙ ap (λ k. k + 1) has.replies);
  entries = has.entries;
  replies = has.replies;
}

-- ---- why no reply was received

module _ {R W : Type 0} (refuses : Type 0) (opens : R → W → Type 0) (contents : W → Option (List ℕ)) where
  pub why_none : (n : ℕ) (place : Place) (old new : State) (input left output written : Option (List ℕ)) → n ≡ place.replies + 1
      → Delivers n None old new input left output written → FailsToExchange refuses opens contents place old desk.NoEntry
  why_none n place old new input left output written counted it journal has =
      let next : n ≡ length journal.replies + 1 = counted ∙ ap (λ k. k + 1) has.replies in
      (it journal has.rests next).none

  pub why_failed : (n : ℕ) (fault : DeskFault) (place : Place) (old new : State) (reader : R) (writer written : W) → n ≡ place.replies + 1 → opens reader writer
      → FailsToDeliver n fault old new (contents writer) (contents written) → FailsToExchange refuses opens contents place old fault
  why_failed n (desk.Unanswered why) place old new reader writer written counted opened fails journal has =
      let next : n ≡ length journal.replies + 1 = counted ∙ ap (λ k. k + 1) has.replies in
      let one = (fails journal has.rests next).1 in
      (one.0, one.1, record { reader = reader; writer = writer; written = written; opened = opened; writes = one.2 })
  why_failed n desk.NotNow place old new reader writer written counted opened fails journal has =
      let next : n ≡ length journal.replies + 1 = counted ∙ ap (λ k. k + 1) has.replies in
      let one = (fails journal has.rests next).1 in
      (one.0, one.1, record { reader = reader; writer = writer; written = written; opened = opened; writes = one.2 })
  why_failed n desk.NotKnown place old new reader writer written counted opened fails journal has =
      let next : n ≡ length journal.replies + 1 = counted ∙ ap (λ k. k + 1) has.replies in
      let one = (fails journal has.rests next).1 in
      (one.0, one.1, record { reader = reader; writer = writer; written = written; opened = opened; writes = one.2 })
  why_failed n desk.Book place old new reader writer written counted opened fails journal has = tt
  why_failed n desk.Full place old new reader writer written counted opened fails journal has = absurd fails
  why_failed n desk.Memory place old new reader writer written counted opened fails journal has = absurd fails
  why_failed n desk.NoCommand place old new reader writer written counted opened fails journal has = absurd fails
  why_failed n desk.OtherKey place old new reader writer written counted opened fails journal has = absurd fails
  why_failed n desk.NotLater place old new reader writer written counted opened fails journal has = absurd fails
  why_failed n desk.OtherBook place old new reader writer written counted opened fails journal has = absurd fails
  why_failed n desk.NoEntry place old new reader writer written counted opened fails journal has = absurd fails
  why_failed n desk.Unopened place old new reader writer written counted opened fails journal has = absurd fails

  -- from where the book was the same
  pub why_before : (fault : DeskFault) (before mid : Place) (old between : State) → mid ≡ before → Stays before old mid between
      → FailsToExchange refuses opens contents mid between fault → FailsToExchange refuses opens contents before old fault
  why_before fault before mid old between same stays fails journal has =
      let why : IsWhy refuses opens contents mid journal fault = fails journal (stays journal has) in
      subst (λ (place : Place). IsWhy refuses opens contents place journal fault) same why

  pub why_then : (Exchanged : List ℕ → Answer → Type 0) (last : Option Read) (fault : DeskFault) (before mid after : Place) (old between new : State)
      → ReturnsLast Exchanged last before old mid between → (fault ≢ desk.Book → Stays mid between after new) → after ≡ mid
      → FailsToExchange refuses opens contents mid between fault → FailsToSend Exchanged refuses opens contents before old after new fault
  why_then Exchanged last fault before mid after old between new tells stays same fails other journal has =
      let it = tells journal has in
      let next = with_replies it.0 journal in (
        it.0,
        record { has = stays other next it.1.has; told = it.1.told },
        subst (λ (place : Place). IsWhy refuses opens contents place next fault) (sym same) (fails next it.1.has),
      )

-- ---- faults

-- a fault that isn't the book's
pub kept_if : {A : Type 0} (fault : DeskFault) → fault ≢ desk.Book → IsBookKept {A = A} (Err fault)
kept_if fault other e = other (cc)

-- and the other way round
pub kept_other : {A : Type 0} (fault : DeskFault) → IsBookKept {A = A} (Err fault) → fault ≢ desk.Book
kept_other fault kept e = kept (rw e refl)

pub kept_as : {A B : Type 0} (fault : DeskFault) → IsBookKept {A = A} (Err fault) → IsBookKept {A = B} (Err fault)
kept_as fault kept e = kept (let same : fault ≡ desk.Book = cc in rw same refl)

pub kept_ok : {A : Type 0} (a : A) → IsBookKept (Ok a)
kept_ok a e = cc
