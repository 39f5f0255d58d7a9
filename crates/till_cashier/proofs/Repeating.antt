-- Acts that are given once more.
use Rattle.std.proofs.Common.{◌≡◌, ◌+◌, ◌∷◌, [], ℕ, zero, suc, List, map, Option, None, Some, Result, Ok, Err, IfOk, subst, sym, ap, length, arith, ◌∙◌}
use Rattle.std.specs.Prelude.{slice_get}
use Rattle.std.proofs.lemmas.List.Elements.{All-weaker}
use Rattle.sqlite.specs.State.{State}
use Rattle.shop_model.specs.Values.{Text}
use Rattle.shop_model.specs.Answers.{Answer}
use Rattle.std.specs.List.{All}
use Rattle.till_book.specs.Journal.{Journal}
use Rattle.till_book.specs.Ends.{IsReadAfter}
use Rattle.till_book.specs.declared.lists.BookRows.{BookRows}
use Rattle.till_book.specs.Steps as book
use Rattle.till_work.specs.declared.place.Place.{Place}
use Rattle.till_words.specs.declared.words.TillAct.{TillAct}
use Rattle.till_words.specs.declared.words.TillAct.TheVariants as typed
use Rattle.till_cashier.specs.declared.word.Plan.{Plan}
use Rattle.till_cashier.specs.Doing.{IsPlanOf, RepeatsPlan, RepeatsWord}
use Rattle.till_cashier.specs.Word.{IsPlaceOf}
use Rattle.till_cashier.specs.Again.{IsRefused, IsRefusedIn, GivesBook}
use Rattle.till_cashier.specs.Giving.{GivesAct}
use Rattle.till_cashier.specs.declared.fault.TillFault.{TillFault}
use Rattle.till_cashier.specs.declared.fault.TillFault.TheVariants as word
use Rattle.till_cashier.specs.Faults.{IsBookKept, giver_of}
use Rattle.shop_types.specs.Seen.{seen_act}
use Rattle.till_cashier.specs.declared.refused.Repeat.{Repeat}
use Rattle.till_cashier.proofs.GoingOn.{stays_both}

some_same : {A : Type 0} (x y : A) → ◌≡◌ {A = Option A} (Some x) (Some y) → x ≡ y
some_same x y e = cc

none_some : {A : Type 0} (x : A) → ◌≡◌ {A = Option A} None (Some x) → ⊥
none_some x e = cc

pub mapped_at : {A B : Type 0} (f : A → B) (xs : List A) (i : ℕ) (x : A) → slice_get xs i ≡ Some x → slice_get (map f xs) i ≡ Some (f x)
mapped_at f [] i x e = absurd (none_some x e)
mapped_at {A} {B} f (y ∷ ys) zero x e = ap (λ (it : A). Some (f it)) (some_same y x e)
mapped_at f (y ∷ ys) (suc i) x e = mapped_at f ys i x e

-- a result that stopped is no fault of the book, so the fault was none
pub stopped_kept :
    {A B : Type 0} (r : Result A TillFault) (fault : TillFault) → (fault ≡ word.Book → r ≡ Err word.Book) → IsBookKept r
    → IsBookKept {A = B} (Err fault)
stopped_kept r fault failed kept e =
    let same : fault ≡ word.Book = cc in
    kept (failed same)

-- something that stopped isn't nothing
pub stopped_then : (Q : Type 0) (r : Result (Option TillFault) TillFault) (fault : TillFault) → IfOk r (λ (it : Option TillFault). it ≡ Some fault)
    → IfOk r (λ (it : Option TillFault). it ≡ None → Q)
stopped_then Q (Ok it) fault is = λ none. absurd (none_some fault (sym none ∙ is))
stopped_then Q (Err e) fault is = tt

-- what holds of a desk holds of one with the same clock, server and settings
pub by_same :
    {X Y Z W : Type 0} (P : X → Y → Z → W → Type 0) {x x' : X} {y y' : Y} {z z' : Z} {w w' : W}
    → x ≡ x' → y ≡ y' → z ≡ z' → w ≡ w' → P x y z w → P x' y' z' w'
by_same {X} {Y} {Z} {W} P {x} {x'} {y} {y'} {z} {z'} {w} {w'} one two three four holds =
    subst (λ (it : X). P it y' z' w') one
    (subst (λ (it : Y). P x it z' w') two (subst (λ (it : Z). P x y it w') three (subst (λ (it : W). P x y z it) four holds)))

-- of a result that is no fault, what follows
pub if_ok_then : {A E : Type 0} (r : Result A E) (P : A → Type 0) {Q R : Type 0} → IfOk r (λ (a : A). P a → Q) → (Q → R) → IfOk r (λ (a : A). P a → R)
if_ok_then (Ok a) P holds follows = λ p. follows (holds p)
if_ok_then (Err e) P holds follows = tt

-- one more act was given
book_suc :
    (Exchanged : List ℕ → Answer → Type 0) (shows : ℕ → Type 0) (mark token : Text) (own : Option ℕ)
    (n : ℕ) (acts : List Repeat) (it : Repeat) (before mid after : Place) (old s new : State)
    → GivesBook Exchanged shows mark token own n acts before old mid s → slice_get acts n ≡ Some it
    → GivesAct Exchanged shows mark token (giver_of own (Some it.staff)) (seen_act it.act) mid s after new
    → GivesBook Exchanged shows mark token own (suc n) acts before old after new
book_suc Exchanged shows mark token own n acts it before mid after old s new first there gives journal commands at =
    let so_far = first journal commands at in
    let given = gives.1.2 so_far.0 so_far.1 so_far.2 in
    let tried = given.2 in (
      tried.journal,
      tried.commands,
      tried.is_at,
      (
        so_far.0,
        so_far.1,
        so_far.3,
        (
          it,
          there,
          (
            gives.0,
            gives.1.0,
            gives.1.1,
            given.0,
            given.1,
            record {
              extends = tried.extends;
              requests = tried.requests;
              tries = tried.tries;
              entries = tried.entries;
              says = tried.says;
              each = tried.each;
              waited = tried.waited;
              replies = tried.replies;
              first = tried.first;
              counted = tried.counted;
              settled = tried.settled;
            },
          ),
        ),
      ),
    )

pub book_next :
    (Exchanged : List ℕ → Answer → Type 0) (shows : ℕ → Type 0) (mark token : Text) (own : Option ℕ)
    (n : ℕ) (acts : List Repeat) (it : Repeat) (before mid after : Place) (old s new : State)
    → GivesBook Exchanged shows mark token own n acts before old mid s → slice_get acts n ≡ Some it
    → GivesAct Exchanged shows mark token (giver_of own (Some it.staff)) (seen_act it.act) mid s after new
    → GivesBook Exchanged shows mark token own (n + 1) acts before old after new
book_next Exchanged shows mark token own n acts it before mid after old s new first there gives =
    let e : suc n ≡ n + 1 = omega arith in
    subst (λ (k : ℕ). GivesBook Exchanged shows mark token own k acts before old after new) e
    (book_suc Exchanged shows mark token own n acts it before mid after old s new first there gives)

-- a book stays before and after
pub book_later :
    (Exchanged : List ℕ → Answer → Type 0) (shows : ℕ → Type 0) (mark token : Text) (own : Option ℕ)
    (n : ℕ) (acts : List Repeat) (before after : Place) (old mid new : State)
    → book.Stays old mid → GivesBook Exchanged shows mark token own n acts before mid after new
    → GivesBook Exchanged shows mark token own n acts before old after new
book_later Exchanged shows mark token own n acts before after old mid new stays gives journal commands at =
    gives journal commands (record { rests = stays journal at.rests; book = at.book; entries = at.entries; replies = at.replies })

pub book_before :
    (Exchanged : List ℕ → Answer → Type 0) (shows : ℕ → Type 0) (mark token : Text) (own : Option ℕ)
    (n : ℕ) (acts : List Repeat) (before after : Place) (old mid new : State)
    → GivesBook Exchanged shows mark token own n acts before old after mid → book.Stays mid new
    → GivesBook Exchanged shows mark token own n acts before old after new
book_before Exchanged shows mark token own n acts before after old mid new gives stays journal commands at =
    let it = gives journal commands at in
    (it.0, it.1, record { rests = stays it.0 it.2.rests; book = it.2.book; entries = it.2.entries; replies = it.2.replies }, it.3)

-- what was repeated of a plan was repeated of the same plan by another name
pub repeats_as :
    {A E : Type 0} (r : Result A E) (P : A → Type 0) (Exchanged : List ℕ → Answer → Type 0) (shows : ℕ → Type 0) (mark token : Text) (own : Option ℕ)
    (it other : Plan) (before : Place) (old : State) (after : Place) (new : State) → it ≡ other
    → IfOk r (λ (a : A). P a → RepeatsPlan Exchanged shows mark token own other before old after new)
    → IfOk r (λ (a : A). P a → RepeatsPlan Exchanged shows mark token own it before old after new)
repeats_as {A} r P Exchanged shows mark token own it other before old after new same is =
    subst (λ (p : Plan). IfOk r (λ (a : A). P a → RepeatsPlan Exchanged shows mark token own p before old after new)) (sym same) is

-- an entry that was refused in front of a look was refused
pub each_before : (acts : List Repeat) (old mid : State) → book.Stays old mid → All (IsRefusedIn mid) acts → All (IsRefusedIn old) acts
each_before acts old mid stays each =
    All-weaker (IsRefusedIn mid) (IsRefusedIn old) (λ it is journal rests. is journal (stays journal rests)) acts each

-- what was read of the whole book
pub each_in_book : (acts : List Repeat) (rows : BookRows) (old new : State) → book.FindsAtRest (IsReadAfter 0 rows) old new
    → All (IsRefused rows.entries rows.replies) acts → All (IsRefusedIn old) acts
each_in_book acts rows old new tells each =
    All-weaker (IsRefused rows.entries rows.replies) (IsRefusedIn old) (λ it is journal rests. in_journal it is journal (tells journal rests).1) acts each
  where
    in_journal : (it : Repeat) → IsRefused rows.entries rows.replies it → (journal : Journal) → IsReadAfter 0 rows journal
        → IsRefused journal.entries journal.replies it
    in_journal it is journal read =
        subst (λ (entries : List (List ℕ)). IsRefused entries journal.replies it) read.entries
        (subst (λ (replies : List Answer). IsRefused rows.entries replies it) read.replies is)

-- What was repeated of the word's plan was repeated of the word. The plan was made of the book as it was read.
pub word_repeated :
    (Exchanged : List ℕ → Answer → Type 0) (shows : ℕ → Type 0) (mark token : Text) (own : Option ℕ)
    (sheet : Text) (word : TillAct) (it : Plan) (place after : Place) (old read mid new : State)
    → IsPlaceOf place old → book.Stays old read → book.Stays read mid → IsPlanOf sheet read word it
    → RepeatsPlan Exchanged shows mark token own it place mid after new → RepeatsWord Exchanged shows mark token own word old new
word_repeated Exchanged shows mark token own sheet (typed.Again late) it place after old read mid new is first second plans repeats =
    let all = subst (λ (p : Plan). RepeatsPlan Exchanged shows mark token own p place mid after new) plans repeats in
    let stays = stays_both old read mid first second in (
      place,
      after,
      is,
      (all.0, each_before all.0 old mid stays all.1, book_later Exchanged shows mark token own (length all.0) all.0 place after old mid new stays all.2),
    )
word_repeated Exchanged shows mark token own sheet (typed.Do what) it place after old read mid new is first second plans repeats = tt
word_repeated Exchanged shows mark token own sheet (typed.ReturnCopy copy) it place after old read mid new is first second plans repeats = tt
word_repeated Exchanged shows mark token own sheet (typed.Office words) it place after old read mid new is first second plans repeats = tt
word_repeated Exchanged shows mark token own sheet typed.Send it place after old read mid new is first second plans repeats = tt
word_repeated Exchanged shows mark token own sheet (typed.Look look) it place after old read mid new is first second plans repeats = tt
word_repeated Exchanged shows mark token own sheet typed.Waiting it place after old read mid new is first second plans repeats = tt
word_repeated Exchanged shows mark token own sheet (typed.Last count) it place after old read mid new is first second plans repeats = tt
word_repeated Exchanged shows mark token own sheet (typed.Day asked) it place after old read mid new is first second plans repeats = tt
word_repeated Exchanged shows mark token own sheet (typed.Today date) it place after old read mid new is first second plans repeats = tt
word_repeated Exchanged shows mark token own sheet typed.Slip it place after old read mid new is first second plans repeats = tt
word_repeated Exchanged shows mark token own sheet typed.Help it place after old read mid new is first second plans repeats = tt
word_repeated Exchanged shows mark token own sheet (typed.Zone name) it place after old read mid new is first second plans repeats = tt
word_repeated Exchanged shows mark token own sheet (typed.Init beginning) it place after old read mid new is first second plans repeats = tt
word_repeated Exchanged shows mark token own sheet (typed.Import file lot) it place after old read mid new is first second plans repeats = tt
word_repeated Exchanged shows mark token own sheet (typed.JoinIn who) it place after old read mid new is first second plans repeats = tt
word_repeated Exchanged shows mark token own sheet typed.Prompt it place after old read mid new is first second plans repeats = tt
