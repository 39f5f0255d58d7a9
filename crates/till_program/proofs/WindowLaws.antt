-- Windows share a book.
use Rattle.std.proofs.Common.{◌≡◌, ℕ, List, [], ◌∷◌, ◌++◌, IsTrue, Result, Ok, refl, sym, ap, subst, ◌∙◌, append_assoc, append-nil}
use Rattle.std.proofs.lemmas.Bool.{false≢true}
use Rattle.sqlite_trees.specs.declared.store.Store.{Ghosts}
use Rattle.sqlite.specs.Held.{Held, state}
use Rattle.sqlite.specs.State.{State}
use Rattle.shop_model.specs.Values.{Text, Act, Command}
use Rattle.shop_model.specs.Answers.{Answer}
use Rattle.shop_types.specs.Seen.{seen_act}
use Rattle.shop_types.specs.declared.command.Act.{Act as Typed}
use Rattle.shop_types.specs.declared.command.Act.TheVariants.{TakeBack}
use Rattle.till_book.specs.Journal.{Journal}
use Rattle.till_book.specs.Steps.{Rests}
use Rattle.till_book.specs.declared.rents.HeldRental.{HeldRental}
use Rattle.till_work.specs.Entering.{IsTillsBook}
use Rattle.till_work.proofs.GoingOn.{extends_then, extends_same, more_then}
use Rattle.till_words.specs.declared.words.TillAct.{TillAct}
use Rattle.till_words.specs.declared.words.TillAct.TheVariants as typed
use Rattle.till_cashier.specs.declared.fault.TillFault.{TillFault}
use Rattle.till_cashier.specs.Doing.{DoesWord, GivesWord}
use Rattle.till_cashier.specs.Returns.{IsReturned}
use Rattle.till_cashier.specs.Word.{KeepsATillsBook, IsBehind}
use Rattle.till_cashier.proofs.GoingOn.{same_keeps}
use Rattle.till_program.specs.Windows.{Done, IsDone, AreDone, IsGivenIn, IsIn, ActsStay, CopiesComeBack, PerformedIsDone, book_after}

module _ {S : Type 0} (g : Ghosts S) (Exchanged : List ℕ → Answer → Type 0) (shows : ℕ → Type 0) where
  -- a book that goes on, and goes on again
  then_behind : (mark : Text) (s mid : State) (journal : Journal) (commands : List Command) (one : IsBehind Exchanged mark mid journal commands)
      → IsBehind Exchanged mark s one.journal one.commands → IsBehind Exchanged mark s journal commands
  then_behind mark s mid journal commands one two = record {
    journal = two.journal;
    commands = two.commands;
    rests = two.rests;
    book = two.book;
    extends = extends_then Exchanged journal one.journal two.journal one.extends two.extends;
    says = (one.says.0 ++ two.says.0, more_then commands one.commands two.commands one.says.0 two.says.0 one.says.1 two.says.1);
  }

  pub windows_share : (mark token : Text) (s : Held S) (words : List (Done S)) → AreDone g Exchanged shows mark token s words
      → KeepsATillsBook Exchanged mark (state g s) (state g (book_after s words))
  windows_share mark token s [] done journal commands rests book = record {
    journal = journal;
    commands = commands;
    rests = rests;
    book = book;
    extends = extends_same Exchanged journal;
    says = ([], sym (append-nil commands));
  }
  windows_share mark token s (word ∷ words) done journal commands rests book =
      let one = done.0.keeps journal commands rests book in
      then_behind mark (state g (book_after word.after words)) (state g word.after) journal commands one
      (windows_share mark token word.after words done.1 one.journal one.commands one.rests one.book)

  -- an act that was given stays
  given_stays : (mark token : Text) (s : Held S) (journal : Journal) (commands : List Command) (before later : List (Done S)) (word : Done S) (act : Act)
      → Rests (state g s) journal → IsTillsBook mark journal commands
      → AreDone g Exchanged shows mark token s before → AreDone g Exchanged shows mark token word.after later
      → GivesWord Exchanged shows mark token word.giver act (state g (book_after s before)) (state g word.after)
      → IsIn shows mark token word.giver act commands (state g (book_after word.after later))
  given_stays mark token s journal commands before later word act rests book first last gives =
      let front = windows_share mark token s before first journal commands rests book in
      let given = gives.3 front.journal front.commands front.rests front.book in
      let tried = given.1.2 in
      let back = windows_share mark token word.after later last tried.journal tried.commands tried.is_at.rests tried.is_at.book in (
        gives.0,
        gives.1,
        gives.2,
        record {
          journal = back.journal;
          commands = back.commands;
          rests = back.rests;
          book = back.book;
          earlier = front.says.0;
          tries = tried.tries;
          later = back.says.0;
          says = back.says.1 ∙ ap (λ (c : List Command). c ++ back.says.0)
              (tried.says ∙ ap (λ (c : List Command). c ++ tried.tries) front.says.1);
          first_entries = front.journal.entries;
          requests = tried.requests;
          more_entries = back.extends.entries.0;
          entries = back.extends.entries.1 ∙ ap (λ (e : List (List ℕ)). e ++ back.extends.entries.0) tried.entries;
          each = tried.each;
          first_replies = front.journal.replies ++ tried.waited;
          backs = given.1.0;
          more_replies = back.extends.replies.0;
          replies = back.extends.replies.1 ∙ ap (λ (r : List Answer). r ++ back.extends.replies.0) tried.replies;
          placed = tried.first;
          counted = tried.counted;
          tried = given.1.1;
        },
      )

  pub acts_stay : ActsStay g Exchanged shows
  acts_stay mark token s journal commands before later word what rests book first done last told is =
      let does : DoesWord Exchanged shows mark token word.giver word.sheet (typed.Do what) (state g (book_after s before)) (state g word.after) =
      subst (λ (act : TillAct). DoesWord Exchanged shows mark token word.giver word.sheet act (state g (book_after s before)) (state g word.after))
      is (done.does told) in
      given_stays mark token s journal commands before later word (seen_act what) rests book first last does

  pub copies_come_back : CopiesComeBack g Exchanged shows
  copies_come_back mark token s journal commands before later word copy rests book first done last told is =
      let does : DoesWord Exchanged shows mark token word.giver word.sheet (typed.ReturnCopy copy) (state g (book_after s before)) (state g word.after) =
      subst (λ (act : TillAct). DoesWord Exchanged shows mark token word.giver word.sheet act (state g (book_after s before)) (state g word.after))
      is (done.does told) in
      (does.0, does.1, given_stays mark token s journal commands before later word (seen_act (TakeBack does.0.rental)) rests book first last does.2)

  -- a word, and what was made sure of after it
  pub performed_is_done : (Answers : List ℕ → Answer → Type 0) → PerformedIsDone g Exchanged Answers shows
  performed_is_done Answers mark token own giver json sheet act status window said wall offset first final before after branch zero it = (
    record { keeps = it.keeps refl branch; does = λ told. it.does (zero told) },
    (record { keeps = same_keeps Exchanged mark (state g it.between) (state g after) (it.sure refl); does = λ told. absurd (false≢true told) }, tt),
  )
