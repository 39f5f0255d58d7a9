-- A till's book goes on over a word.
use Rattle.std.proofs.Common.{◌≡◌, ◌∙◌, ◌+◌, ◌-◌, ◌<◌, ◌++◌, ◌∷◌, [], ℕ, List, Option, Result, Ok, Err, IfOk, IfErr, length, inl, inr, sym, ap, subst, refl}
use Rattle.std.proofs.Common.{arith, append_assoc, append-nil}
use Rattle.sqlite.specs.State.{State}
use Rattle.shop_model.specs.Values.{Text, Command}
use Rattle.shop_model.specs.Answers.{Answer}
use Rattle.till_book.specs.Journal.{Journal, with_settled}
use Rattle.till_book.specs.Ends.{IsEndOf}
use Rattle.till_book.specs.declared.ends.BookEnd.{BookEnd}
use Rattle.till_book.specs.Steps as book
use Rattle.till_book.specs.Saying.{Say}
use Rattle.till_work.specs.Entering.{IsTillsBook}
use Rattle.till_work.specs.Settling.{Settles, IsSettled, IsSettledBy, FailsToSettle, after_settling}
use Rattle.till_work.specs.declared.settling.Settled.{Settled}
use Rattle.till_work.specs.declared.settling.Settled.TheVariants as settled
use Rattle.till_work.specs.declared.fault.DeskFault.{DeskFault}
use Rattle.till_work.specs.declared.fault.DeskFault.TheVariants as desk
use Rattle.till_work.specs.declared.place.Place.{Place}
use Rattle.till_work.specs.Exchanged.{IsExchanged, IsExchangedAt, IsDecided, AreSettled}
use Rattle.till_work.specs.Desk.{Extends, Becomes, GoesOn, Grows, IsBookKept as IsDeskKept}
use Rattle.till_work.proofs.Exchanging.{settled_then, decided_known}
use Rattle.till_work.proofs.GoingOn.{goes_then, grows_then, stays_goes, stays_grows as grows_same, rests_stays, extends_same}
use Rattle.till_cashier.specs.declared.fault.TillFault.{TillFault}
use Rattle.till_cashier.specs.declared.fault.TillFault.TheVariants as word
use Rattle.till_cashier.specs.Faults.{told_fault, IsBookKept}
use Rattle.till_cashier.specs.Word.{IsPlaceOf, IsBehind, KeepsATillsBook, KeepsABook, IsSame, EntersNothing}

-- ---- faults

pub kept_ok : {A : Type 0} (a : A) → IsBookKept (Ok a)
kept_ok a e = cc

pub kept_as : {A B : Type 0} (fault : TillFault) → IsBookKept {A = A} (Err fault) → IsBookKept {A = B} (Err fault)
kept_as fault kept e = kept (let same : fault ≡ word.Book = cc in rw same refl)

-- a fault that was kept, if the fault before it would have stayed the book's
pub kept_before : {A B : Type 0} (before after : TillFault) → (before ≡ word.Book → after ≡ word.Book) → IsBookKept {A = A} (Err after)
    → IsBookKept {A = B} (Err before)
kept_before before after stays kept e =
    let failed : before ≡ word.Book = cc in
    kept (let is : after ≡ word.Book = stays failed in rw is refl)

-- and if the result after it would have been
pub kept_by : {A B : Type 0} (before : TillFault) (after : Result A TillFault) → (before ≡ word.Book → after ≡ Err word.Book) → IsBookKept after
    → IsBookKept {A = B} (Err before)
kept_by before after stays kept e = let failed : before ≡ word.Book = cc in kept (stays failed)

pub desk_kept_ok : {A : Type 0} (a : A) → IsDeskKept (Ok a)
desk_kept_ok a e = cc

-- a fault with that translation wasn't a fault of the book
pub desk_kept : {A B : Type 0} (told : TillFault) (fault : DeskFault) → told ≡ told_fault fault → IsBookKept {A = A} (Err told) → IsDeskKept {A = B} (Err fault)
desk_kept told fault same kept e =
    let failed : fault ≡ desk.Book = cc in
    kept (let is : told ≡ word.Book = same ∙ ap told_fault failed in rw is refl)

-- ---- how far the book goes

pub stays_both : (old mid new : State) → book.Stays old mid → book.Stays mid new → book.Stays old new
stays_both old mid new one two journal rests = two journal (one journal rests)

pub place_of : (end : BookEnd) (place : Place) (s new : State) → place.entries ≡ end.entries
    → place.replies ≡ end.replies → book.FindsAtRest (IsEndOf end) s new → IsPlaceOf place s
place_of end place s new entries replies tells journal rests =
    let is : IsEndOf end journal = (tells journal rests).1 in
    (entries ∙ is.entries, replies ∙ is.replies)

module _ (Exchanged : List ℕ → Answer → Type 0) where
  -- ---- a book that stays, and one that goes on

  pub kept_goes : (mark : Text) (place : Place) (old new : State) → book.Stays old new → GoesOn Exchanged mark place old place new
  kept_goes mark place old new stays = stays_goes Exchanged mark place place old new (rests_stays place old new stays)

  pub kept_grows : (place : Place) (old new : State) → book.Stays old new → Grows Exchanged place old place new
  kept_grows place old new stays = grows_same Exchanged place place old new (rests_stays place old new stays)

  pub goes_stays : (mark : Text) (before after : Place) (old mid new : State)
      → GoesOn Exchanged mark before old after mid → book.Stays mid new → GoesOn Exchanged mark before old after new
  goes_stays mark before after old mid new goes stays = goes_then Exchanged mark before after after old mid new goes (kept_goes mark after mid new stays)

  pub grows_stays : (before after : Place) (old mid new : State) → Grows Exchanged before old after mid → book.Stays mid new
      → Grows Exchanged before old after new
  grows_stays before after old mid new grows stays =
      grows_then Exchanged before after after old mid new grows (kept_grows after mid new stays)

  behind : (mark : Text) (place : Place) (s : State) (journal : Journal) (commands : List Command)
      → Becomes Exchanged mark place s journal commands → IsBehind Exchanged mark s journal commands
  behind mark place s journal commands it = record {
    journal = it.journal;
    commands = it.commands;
    rests = it.is_at.rests;
    book = it.is_at.book;
    extends = it.extends;
    says = it.says;
  }

  -- what goes on after a look at the whole book
  pub read_keeps : (mark : Text) (place after : Place) (old mid new : State) → IsPlaceOf place old → book.Stays old mid
      → GoesOn Exchanged mark place mid after new
      → KeepsATillsBook Exchanged mark old new
  read_keeps mark place after old mid new is stays goes journal commands rests tills =
      let counted = is journal rests in
      behind mark after new journal commands
      (goes journal commands (record { rests = stays journal rests; book = tills; entries = counted.0; replies = counted.1 }))

  pub read_grows : (place after : Place) (old mid new : State) → IsPlaceOf place old
      → book.Stays old mid → Grows Exchanged place mid after new → KeepsABook Exchanged old new
  read_grows place after old mid new is stays grows journal rests =
      let counted = is journal rests in
      let it = grows journal (record { rests = stays journal rests; entries = counted.0; replies = counted.1 }) in
      record { journal = it.journal; rests = it.has.rests; extends = it.extends }

  pub stays_grows : (old new : State) → book.Stays old new → KeepsABook Exchanged old new
  stays_grows old new stays journal rests = record { journal = journal; rests = stays journal rests; extends = extends_same Exchanged journal }

  pub stays_keeps : (mark : Text) (old new : State) → book.Stays old new → KeepsATillsBook Exchanged mark old new
  stays_keeps mark old new stays journal commands rests tills = record {
    journal = journal;
    commands = commands;
    rests = stays journal rests;
    book = tills;
    extends = extends_same Exchanged journal;
    says = ([], sym (append-nil commands));
  }

  -- ---- entries that are sent once more

  pub stays_same : (old new : State) → book.Stays old new → EntersNothing Exchanged old new
  stays_same old new stays journal rests = record {
    journal = journal;
    rests = stays journal rests;
    entries = refl;
    replies = refl;
    settled = ([], sym (append-nil journal.settled), tt);
  }

  pub same_then : (old mid new : State) → EntersNothing Exchanged old mid → EntersNothing Exchanged mid new → EntersNothing Exchanged old new
  same_then old mid new one two journal rests =
      let first = one journal rests in
      let next = two first.journal first.rests in
      let later : AreSettled Exchanged journal.entries next.settled.0 =
      subst (λ (es : List (List ℕ)). AreSettled Exchanged es next.settled.0) first.entries next.settled.2 in
      record {
        journal = next.journal;
        rests = next.rests;
        entries = next.entries ∙ first.entries;
        replies = next.replies ∙ first.replies;
        settled = (
          first.settled.0 ++ next.settled.0,
          next.settled.1 ∙ ap (λ (it : List (ℕ × Answer)). it ++ next.settled.0) first.settled.1 ∙ append_assoc journal.settled first.settled.0 next.settled.0,
          settled_then Exchanged journal.entries first.settled.0 next.settled.0 first.settled.2 later,
        );
      }

  -- one more is settled
  same_settled : (n : ℕ) (answer : Answer) (s : State) (old : Journal) (i : ℕ) → n ≡ i + 1 → IsExchangedAt Exchanged old.entries i answer → IsDecided answer
      → book.Rests s (with_settled n answer old) → IsSame Exchanged s old
  same_settled n answer s old i is told decided rests = record {
    journal = with_settled n answer old;
    rests = rests;
    entries = refl;
    replies = refl;
    settled = ((n, answer) ∷ [], refl, ((i, is, told, decided), tt));
  }

  same_after : (n : ℕ) (answer : Answer) (what : Settled) (s : State) (old : Journal) (i : ℕ)
      → n ≡ i + 1 → (IsDecided answer → IsExchangedAt Exchanged old.entries i answer)
      → IsSettledBy answer what
      → book.Rests s (after_settling n answer what old) → IsSame Exchanged s old
  same_after n answer (settled.Acted read) s old i is told says rests = same_settled n answer s old i is (told (inl says.1)) (inl says.1) rests
  same_after n answer settled.Never s old i is told says rests = same_settled n answer s old i is (told (inr says)) (inr says) rests
  same_after n answer (settled.Open read) s old i is told says rests = record {
    journal = old;
    rests = rests;
    entries = refl;
    replies = refl;
    settled = ([], sym (append-nil old.settled), tt);
  }

  -- what the entries say they say still
  same_book : (mark : Text) (old new : Journal) (commands : List Command)
      → new.entries ≡ old.entries → IsTillsBook mark old commands → IsTillsBook mark new commands
  same_book mark old new commands same tills = record {
    says = subst (λ (entries : List (List ℕ)). Say entries commands) (sym same) tills.says;
    numbered = tills.numbered;
  }

  pub same_extends : (s : State) (journal : Journal) (it : IsSame Exchanged s journal) → Extends Exchanged journal it.journal
  same_extends s journal it = record {
    entries = ([], it.entries ∙ sym (append-nil journal.entries));
    replies = ([], it.replies ∙ sym (append-nil journal.replies), tt);
    settled = (
      it.settled.0,
      it.settled.1,
      subst (λ (es : List (List ℕ)). AreSettled Exchanged es it.settled.0) (sym it.entries) it.settled.2,
    );
  }

  pub same_keeps : (mark : Text) (old new : State) → EntersNothing Exchanged old new → KeepsATillsBook Exchanged mark old new
  same_keeps mark old new nothing journal commands rests tills =
      let it = nothing journal rests in
      record {
        journal = it.journal;
        commands = commands;
        rests = it.rests;
        book = same_book mark journal it.journal commands it.entries tills;
        extends = same_extends new journal it;
        says = ([], sym (append-nil commands));
      }

unsettled_stays : (n : ℕ) (fault : DeskFault) (old new : State) (output written : Option (List ℕ))
    → FailsToSettle n fault old new output written → IsDeskKept {A = Settled} (Err fault)
    → book.Stays old new
unsettled_stays n desk.Book old new output written fails kept journal rests = absurd (kept refl)
unsettled_stays n desk.NoEntry old new output written fails kept journal rests = (fails journal rests).0
unsettled_stays n (desk.Unanswered why) old new output written fails kept journal rests = (fails journal rests).0
unsettled_stays n desk.NotNow old new output written fails kept journal rests = (fails journal rests).0
unsettled_stays n desk.Full old new output written fails kept journal rests = absurd fails
unsettled_stays n desk.Memory old new output written fails kept journal rests = absurd fails
unsettled_stays n desk.NoCommand old new output written fails kept journal rests = absurd fails
unsettled_stays n desk.OtherKey old new output written fails kept journal rests = absurd fails
unsettled_stays n desk.NotLater old new output written fails kept journal rests = absurd fails
unsettled_stays n desk.OtherBook old new output written fails kept journal rests = absurd fails
unsettled_stays n desk.Unopened old new output written fails kept journal rests = absurd fails
unsettled_stays n desk.NotKnown old new output written fails kept journal rests = absurd fails

module _ {R W : Type 0} (opens : R → W → Type 0) (remaining : R → Option (List ℕ)) (contents : W → Option (List ℕ)) where
  -- what was received over opened streams
  told_same : (n : ℕ) (what : Settled) (new : State) (reader read : R) (writer written : W) (journal : Journal) → 0 < n → opens reader writer
      → IsSettled n what journal new (remaining reader) (remaining read) (contents writer) (contents written)
      → IsSame (IsExchanged opens remaining contents) new journal
  told_same n what new reader read writer written journal some opened is =
      let place : n ≡ n - 1 + 1 = omega arith in
      let entry = is.writes (n - 1) place in
      let told : IsDecided is.answer → IsExchanged opens remaining contents entry.0 is.answer = λ decided. record {
        reader = reader;
        writer = writer;
        read = read;
        written = written;
        opened = opened;
        writes = entry.2;
        reads = is.reads;
        decided = is.decided;
        known = decided_known is.answer decided;
      } in
      same_after (IsExchanged opens remaining contents) n is.answer what new journal (n - 1) place
      (λ decided. (entry.0, entry.1, told decided)) is.says is.rests

  settled_same : (n : ℕ) (what : Settled) (old new : State) (reader read : R) (writer written : W) → 0 < n → opens reader writer
      → Settles n what old new (remaining reader) (remaining read) (contents writer) (contents written)
      → EntersNothing (IsExchanged opens remaining contents) old new
  settled_same n what old new reader read writer written some opened settles journal rests =
      elim (settles journal rests) [
        | inl was ↦ record { journal = journal; rests = was.rests; entries = refl; replies = refl; settled = ([], sym (append-nil journal.settled), tt) }
        | inr is ↦ told_same n what new reader read writer written journal some opened is
      ]

  pub settling_same : (n : ℕ) (r : Result Settled DeskFault) (old new : State) (reader read : R) (writer written : W) → 0 < n → opens reader writer
      → IfOk r (λ what. Settles n what old new (remaining reader) (remaining read) (contents writer) (contents written))
      → IfErr r (λ fault. FailsToSettle n fault old new (contents writer) (contents written))
      → IsDeskKept r → EntersNothing (IsExchanged opens remaining contents) old new
  settling_same n (Ok what) old new reader read writer written some opened settles fails kept =
      settled_same n what old new reader read writer written some opened settles
  settling_same n (Err fault) old new reader read writer written some opened settles fails kept =
      stays_same (IsExchanged opens remaining contents) old new (unsettled_stays n fault old new (contents writer) (contents written) fails kept)
