-- What a stop leaves in the midst of a word, one step after another.
use Rattle.std.proofs.Common.{◌≡◌, ◌∙◌, ◌+◌, ◌≤◌, ◌++◌, ◌∷◌, [], ℕ, List, Option, None, Some, Result, Ok, Err, length, inl, inr, sym, ap, subst, refl, arith}
use Rattle.std.proofs.lemmas.Bool.{false≢true}
use Rattle.std.specs.Prelude.{Bool, true, false, if◌then◌else◌, IsSome, IsTrue}
use Rattle.sqlite.specs.State.{State, HasCleanDisk, Survives}
use Rattle.shop_model.specs.Values.{Text, Act, Command}
use Rattle.shop_model.specs.Answers.{Answer}
use Rattle.shop_types.specs.Seen.{seen_act}
use Rattle.shop_types.specs.declared.command.Act.TheVariants as asked
use Rattle.till_client.proofs.SoleMessages.{one_command}
use Rattle.till_book.specs.Journal.{Journal, with_entry}
use Rattle.till_book.specs.Steps as book
use Rattle.till_book.specs.Steps.{Rests, LeavesEntered}
use Rattle.till_work.specs.declared.place.Place.{Place}
use Rattle.till_work.specs.Entering.{IsTillsBook}
use Rattle.till_work.specs.Desk.{HasPlace, GoesOn, Grows, LeavesEntry}
use Rattle.till_work.specs.Stops.{IsAny, IsLater, IsSentAfter, IsSettledAfter, IsUnchanged, Leaves, with_settlements}
use Rattle.till_work.proofs.GoingOn.{nothing_more, more_then, extends_same, extends_then, extends_entry}
use Rattle.till_work.proofs.Stops.{leaves_same, leaves_before, leaves_then, leaves_as, same_book, later_same, later_then}
use Rattle.till_work.proofs.Stops.{sent_same, sent_is_later, sent_at_till, sent_at_any, settled_same, settled_both}
use Rattle.till_cashier.specs.declared.fault.TillFault.{TillFault}
use Rattle.till_cashier.specs.Giving.{IsTry, IsRequest, EntersTry, IsBack, Gives}
use Rattle.till_cashier.specs.Word.{IsPlaceOf, IsPlannedFor, EntersNothing}
use Rattle.till_cashier.specs.Doing.{IsPlanOf}
use Rattle.till_cashier.specs.Stops.{IsTriedAfter, IsTriedOnce, LeavesPlan, LeavesWord}
use Rattle.till_cashier.specs.declared.word.Plan.{Plan}
use Rattle.till_cashier.specs.declared.word.Plan.TheVariants as plan
use Rattle.till_requests.specs.Requests.{is_reading}
use Rattle.till_words.specs.declared.words.TillAct.{TillAct}
use Rattle.till_words.specs.declared.words.TillAct.TheVariants as typed
use Rattle.till_cashier.proofs.Adding.{by_then}
use Rattle.till_cashier.proofs.GoingOn.{stays_both}
use Rattle.till_cashier.proofs.Doing.{returned_before}
use Rattle.till_cashier.proofs.Giving.{SoFar}
use Rattle.till_cashier.proofs.Refusing.{AreAllRefused, refused_then, given_refused, all_refused, by_giver}

-- ---- nothing is changed

pub unchanged_same : (journal : Journal) (commands : List Command) → IsUnchanged journal commands journal commands
unchanged_same journal commands = (refl, refl)

unchanged_is_later : (Exchanged : List ℕ → Answer → Type 0) (a b : Journal) (x y : List Command) → IsUnchanged a x b y → IsLater Exchanged a x b y
unchanged_is_later Exchanged a b x y it =
    subst (λ (j : Journal). IsLater Exchanged a x j y) (sym it.0)
    (subst (λ (z : List Command). IsLater Exchanged a x a z) (sym it.1) (later_same Exchanged a x))

-- a look, whatever its outcome
pub look_leaves : (Had : Journal → Type 0) (s : State) → ((journal : Journal) → Had journal → Rests s journal) → Leaves Had IsAny IsUnchanged s
look_leaves Had s rests = leaves_same Had IsAny IsUnchanged s rests unchanged_same

pub look_after : (place : Place) (old new : State) → book.Stays old new → Leaves (HasPlace place old) IsAny IsUnchanged new
look_after place old new stays = look_leaves (HasPlace place old) new (λ journal has. stays journal has.rests)

-- from where the book was read
pub read_leaves : (place : Place) (old mid new : State) → IsPlaceOf place old → book.Stays old mid
    → (Is : Journal → List Command → Type 0) (Goes : Journal → List Command → Journal → List Command → Type 0)
    → Leaves (HasPlace place mid) Is Goes new → Leaves (Rests old) Is Goes new
read_leaves place old mid new is stays Is Goes leaves =
    leaves_before (Rests old) (HasPlace place mid) Is Goes new
    (λ journal rests. let counted = is journal rests in record { rests = stays journal rests; entries = counted.0; replies = counted.1 }) leaves

-- A step, and what a stop leaves in the next one, are a step of a third kind.
leaves_through : (First Had : Journal → Type 0) (Is : Journal → List Command → Type 0)
    (One Next Both : Journal → List Command → Journal → List Command → Type 0) (new : State)
    → ((a b c : Journal) (x y z : List Command) → One a x b y → Next b y c z → Both a x c z)
    → ((journal : Journal) (commands : List Command) → First journal → Is journal commands
    → (next : Journal) × (known : List Command) × Had next × Is next known × One journal commands next known)
    → Leaves Had Is Next new → Leaves First Is Both new
leaves_through First Had Is One Next Both new both comes leaves journal commands first is db may =
    let mid = comes journal commands first is in
    let it = leaves mid.0 mid.1 mid.2 mid.3 db may in
    record {
      journal = it.journal;
      commands = it.commands;
      stands = it.stands;
      is = it.is;
      goes = both journal mid.0 it.journal commands mid.1 it.commands mid.4 it.goes;
    }

-- what a stop leaves, by a weaker step
leaves_weaker : (Had : Journal → Type 0) (Is : Journal → List Command → Type 0)
    (Goes Steps : Journal → List Command → Journal → List Command → Type 0) (new : State)
    → ((a b : Journal) (x y : List Command) → Goes a x b y → Steps a x b y) → Leaves Had Is Goes new → Leaves Had Is Steps new
leaves_weaker Had Is Goes Steps new steps leaves journal commands had is db may =
    let it = leaves journal commands had is db may in
    record {
      journal = it.journal;
      commands = it.commands;
      stands = it.stands;
      is = it.is;
      goes = steps journal it.journal commands it.commands it.goes;
    }

-- ---- tries of an act

module _ (Exchanged : List ℕ → Answer → Type 0) (shows : ℕ → Type 0) (token : Text) (giver : Result ℕ TillFault) (act : Act) where
  once_same : (journal : Journal) (commands : List Command) → IsTriedOnce Exchanged shows token giver act journal commands journal commands
  once_same journal commands = (
    record {
      extends = extends_same Exchanged journal;
      requests = [];
      tries = [];
      entries = nothing_more journal.entries;
      says = nothing_more commands;
      each = tt;
      settled = refl;
      refused = inl none;
    },
    none,
  )
    where
      none : 0 ≤ 1
      none = omega arith

  pub tried_same : (journal : Journal) (commands : List Command) → IsTriedAfter Exchanged shows token giver act journal commands journal commands
  tried_same journal commands = (once_same journal commands).0

  -- tries that were all refused for their moment
  abbrev IsBackAfter : Journal → List Command → Journal → List Command → Type 0
  IsBackAfter a x b y = (it : IsTriedAfter Exchanged shows token giver act a x b y) × AreAllRefused a.entries b.replies it.requests

  back_then : (a b c : Journal) (x y z : List Command) → IsBackAfter a x b y → IsTriedOnce Exchanged shows token giver act b y c z
      → IsTriedAfter Exchanged shows token giver act a x c z
  back_then a b c x y z one two = record {
    extends = extends_then Exchanged a b c one.0.extends two.0.extends;
    requests = one.0.requests ++ two.0.requests;
    tries = one.0.tries ++ two.0.tries;
    entries = more_then a.entries b.entries c.entries one.0.requests two.0.requests one.0.entries two.0.entries;
    says = more_then x y z one.0.tries two.0.tries one.0.says two.0.says;
    each = by_then shows token giver act one.0.requests two.0.requests one.0.tries two.0.tries one.0.each two.0.each;
    settled = two.0.settled ∙ one.0.settled;
    refused = refused_then a.entries b.replies c.replies two.0.extends.replies.0 one.0.requests two.0.requests one.1 two.0.extends.replies.1 two.1;
  }

  pub tried_is_later : (a b : Journal) (x y : List Command) → IsTriedAfter Exchanged shows token giver act a x b y → IsLater Exchanged a x b y
  tried_is_later a b x y it = record { extends = it.extends; says = (it.tries, it.says) }

  -- a try, and what was sent after it
  tried_sent : (a b c : Journal) (x y z : List Command) → IsTriedOnce Exchanged shows token giver act a x b y → IsSentAfter Exchanged b y c z
      → IsTriedOnce Exchanged shows token giver act a x c z
  tried_sent a b c x y z one two = (
    record {
      extends = extends_then Exchanged a b c one.0.extends (sent_is_later Exchanged b c y z two).extends;
      requests = one.0.requests;
      tries = one.0.tries;
      entries = ap (λ (j : Journal). j.entries) two.1 ∙ one.0.entries;
      says = two.2 ∙ one.0.says;
      each = one.0.each;
      settled = ap (λ (j : Journal). j.settled) two.1 ∙ one.0.settled;
      refused = inl one.1;
    },
    one.1,
  )

  entry_is_tried : (staff : ℕ) (request : List ℕ) (command : Command) (journal : Journal) (commands : List Command) → giver ≡ Ok staff
      → IsTry shows token staff act request command
      → IsTriedOnce Exchanged shows token giver act journal commands (with_entry request journal) (commands ++ command ∷ [])
  entry_is_tried staff request command journal commands by try = (
    record {
      extends = extends_entry Exchanged request journal;
      requests = request ∷ [];
      tries = command ∷ [];
      entries = refl;
      says = refl;
      each = ((staff, by, try), tt);
      settled = refl;
      refused = inl one;
    },
    one,
  )
    where
      one : 1 ≤ 1
      one = omega arith

  module _ (mark : Text) where
    -- nothing is entered
    pub tries_stay : (place : Place) (s : State) → Leaves (HasPlace place s) (IsTillsBook mark) (IsTriedOnce Exchanged shows token giver act) s
    tries_stay place s =
        leaves_same (HasPlace place s) (IsTillsBook mark) (IsTriedOnce Exchanged shows token giver act) s (λ journal has. has.rests) once_same

    -- what a stop leaves while a try is entered: the book, or the book with the try
    pub entering_leaves : (own_mark own_token : Text) (request : List ℕ) (before : Place) (old new : State) → own_mark ≡ mark → own_token ≡ token
        → IsRequest shows token giver act request → HasCleanDisk new → Survives old new (LeavesEntry own_mark own_token request before old)
        → Leaves (HasPlace before old) (IsTillsBook mark) (IsTriedOnce Exchanged shows token giver act) new
    entering_leaves own_mark own_token request before old new same_mark same_token says clean h journal commands has is db may =
        elim (h.crash clean db may) [
          | inl earlier ↦ record {
            journal = journal;
            commands = commands;
            stands = has.rests.left db earlier;
            is = is;
            goes = once_same journal commands;
          }
          | inr made ↦
              let marked : LeavesEntry mark own_token request before old db =
              subst (λ (it : Text). LeavesEntry it own_token request before old db) same_mark made in
              let leaves : LeavesEntry mark token request before old db =
              subst (λ (it : Text). LeavesEntry mark it request before old db) same_token marked in
              let it = leaves journal commands (record { rests = has.rests; book = is; entries = has.entries; replies = has.replies }) in
              let own = says.2.1 in
              let same : says.2.0 ≡ it.0 = one_command request token token says.2.0 it.0 own.says it.1 in
              record {
                journal = with_entry request journal;
                commands = commands ++ it.0 ∷ [];
                stands = it.3;
                is = it.2;
                goes = entry_is_tried says.0 request it.0 journal commands says.1
                    (subst (λ (command : Command). IsTry shows token says.0 act request command) same own);
              }
        ]

    -- a book to which a try was added
    pub try_leaves : (before after : Place) (old new : State) → EntersTry shows mark token giver act before old after new
        → Leaves (HasPlace before old) (IsTillsBook mark) (IsTriedOnce Exchanged shows token giver act) new
    try_leaves before after old new enters journal commands has is db may =
        let it = enters.2 journal commands (record { rests = has.rests; book = is; entries = has.entries; replies = has.replies }) in
        record {
          journal = with_entry it.0 journal;
          commands = commands ++ it.1 ∷ [];
          stands = it.3.rests.left db may;
          is = it.3.book;
          goes = entry_is_tried enters.0 it.0 it.1 journal commands enters.1 it.2;
        }

    -- a try was added, and a stop comes while what waits is sent
    pub try_then_leaves : (before mid : Place) (old between new : State) → EntersTry shows mark token giver act before old mid between
        → Leaves (HasPlace mid between) IsAny (IsSentAfter Exchanged) new
        → Leaves (HasPlace before old) (IsTillsBook mark) (IsTriedOnce Exchanged shows token giver act) new
    try_then_leaves before mid old between new enters leaves =
        leaves_through (HasPlace before old) (HasPlace mid between) (IsTillsBook mark) (IsTriedOnce Exchanged shows token giver act) (IsSentAfter Exchanged)
        (IsTriedOnce Exchanged shows token giver act) new tried_sent
        (λ journal commands has is.
        let it = enters.2 journal commands (record { rests = has.rests; book = is; entries = has.entries; replies = has.replies }) in (
          with_entry it.0 journal,
          commands ++ it.1 ∷ [],
          record { rests = it.3.rests; entries = it.3.entries; replies = it.3.replies },
          it.3.book,
          entry_is_tried enters.0 it.0 it.1 journal commands enters.1 it.2,
        ))
        (leaves_as (HasPlace mid between) IsAny (IsTillsBook mark) (IsSentAfter Exchanged) (IsSentAfter Exchanged) new
        (λ journal commands is. tt) (λ a b x y is it. (same_book mark a b x y (ap (λ (j : Journal). j.entries) it.1) it.2 is, it)) leaves)

    -- ---- several tries

    -- the act was given, and got that answer
    given_after : (answer : Answer) (before after : Place) (old new : State) → Gives Exchanged shows mark token giver act answer before old after new
        → (journal : Journal) (commands : List Command) → HasPlace before old journal → IsTillsBook mark journal commands
        → (next : Journal) × (known : List Command) × HasPlace after new next × IsTillsBook mark next known
        × IsTriedAfter Exchanged shows token giver act journal commands next known
    given_after answer before after old new gives journal commands has is =
        let given = gives.2 journal commands (record { rests = has.rests; book = is; entries = has.entries; replies = has.replies }) in
        let it = given.2 in (
          it.journal,
          it.commands,
          record { rests = it.is_at.rests; entries = it.is_at.entries; replies = it.is_at.replies },
          it.is_at.book,
          record {
            extends = it.extends;
            requests = it.requests;
            tries = it.tries;
            entries = it.entries;
            says = it.says;
            each = by_giver shows token giver act gives.0 gives.1 it.requests it.tries it.each;
            settled = it.settled;
            refused = given_refused Exchanged shows mark token gives.0 act given.0 answer after new journal commands given.1 it;
          },
        )

    -- it was refused for its moment
    given_back : (answer : Answer) (before after : Place) (old new : State) → IsBack answer
        → Gives Exchanged shows mark token giver act answer before old after new
        → (journal : Journal) (commands : List Command) → HasPlace before old journal → IsTillsBook mark journal commands
        → (next : Journal) × (known : List Command) × HasPlace after new next × IsTillsBook mark next known
        × IsBackAfter journal commands next known
    given_back answer before after old new back gives journal commands has is =
        let given = gives.2 journal commands (record { rests = has.rests; book = is; entries = has.entries; replies = has.replies }) in
        let it = given.2 in (
          it.journal,
          it.commands,
          record { rests = it.is_at.rests; entries = it.is_at.entries; replies = it.is_at.replies },
          it.is_at.book,
          (
            record {
              extends = it.extends;
              requests = it.requests;
              tries = it.tries;
              entries = it.entries;
              says = it.says;
              each = by_giver shows token giver act gives.0 gives.1 it.requests it.tries it.each;
              settled = it.settled;
              refused = given_refused Exchanged shows mark token gives.0 act given.0 answer after new journal commands given.1 it;
            },
            all_refused Exchanged shows mark token gives.0 act given.0 answer after new journal commands given.1 back it,
          ),
        )

    -- a look after that
    pub given_leaves : (answer : Answer) (before after : Place) (old mid new : State) → Gives Exchanged shows mark token giver act answer before old after mid
        → book.Stays mid new → Leaves (HasPlace before old) (IsTillsBook mark) (IsTriedAfter Exchanged shows token giver act) new
    given_leaves answer before after old mid new gives stays journal commands has is db may =
        let it = given_after answer before after old mid gives journal commands has is in
        record { journal = it.0; commands = it.1; stands = (stays it.0 it.2.rests).left db may; is = it.3; goes = it.4 }

    -- tries so far, and a stop in the next
    pub so_far_leaves : {A : Type 0} (seen : A → Answer) (told : Result A TillFault) (before mid : Place) (old between new : State)
        → SoFar Exchanged shows mark token giver act seen told before old mid between
        → Leaves (HasPlace mid between) (IsTillsBook mark) (IsTriedOnce Exchanged shows token giver act) new
        → Leaves (HasPlace before old) (IsTillsBook mark) (IsTriedAfter Exchanged shows token giver act) new
    so_far_leaves seen (Ok it) before mid old between new far leaves =
        leaves_through (HasPlace before old) (HasPlace mid between) (IsTillsBook mark) IsBackAfter (IsTriedOnce Exchanged shows token giver act)
        (IsTriedAfter Exchanged shows token giver act) new back_then (given_back (seen it) before mid old between far.1 far.0) leaves
    so_far_leaves seen (Err fault) before mid old between new far leaves =
        leaves_before (HasPlace before old) (HasPlace mid between) (IsTillsBook mark) (IsTriedAfter Exchanged shows token giver act) new far
        (leaves_weaker (HasPlace mid between) (IsTillsBook mark) (IsTriedOnce Exchanged shows token giver act)
        (IsTriedAfter Exchanged shows token giver act) new (λ a b x y it. it.0) leaves)

    -- all tries
    pub all_tries_leave : {A : Type 0} (seen : A → Answer) (told : Result A TillFault) (before after : Place) (old new : State)
        → SoFar Exchanged shows mark token giver act seen told before old after new
        → Leaves (HasPlace before old) (IsTillsBook mark) (IsTriedAfter Exchanged shows token giver act) new
    all_tries_leave seen told before after old new far =
        so_far_leaves seen told before after old new new far
        (leaves_same (HasPlace after new) (IsTillsBook mark) (IsTriedOnce Exchanged shows token giver act) new (λ journal has. has.rests) once_same)

    pub tried_at_till : (Had : Journal → Type 0) (new : State) → Leaves Had (IsTillsBook mark) (IsTriedAfter Exchanged shows token giver act) new
        → Leaves Had (IsTillsBook mark) (IsLater Exchanged) new
    tried_at_till Had new leaves journal commands had is db may =
        let it = leaves journal commands had is db may in
        record {
          journal = it.journal;
          commands = it.commands;
          stands = it.stands;
          is = it.is;
          goes = tried_is_later journal it.journal commands it.commands it.goes;
        }

module _ (Exchanged : List ℕ → Answer → Type 0) where
  -- ---- a till's book goes on, and then a stop

  goes_after : (mark : Text) (before after : Place) (old new : State) → GoesOn Exchanged mark before old after new
      → (journal : Journal) (commands : List Command) → HasPlace before old journal → IsTillsBook mark journal commands
      → (next : Journal) × (known : List Command) × HasPlace after new next × IsTillsBook mark next known × IsLater Exchanged journal commands next known
  goes_after mark before after old new goes journal commands has is =
      let it = goes journal commands (record { rests = has.rests; book = is; entries = has.entries; replies = has.replies }) in (
        it.journal,
        it.commands,
        record { rests = it.is_at.rests; entries = it.is_at.entries; replies = it.is_at.replies },
        it.is_at.book,
        record { extends = it.extends; says = it.says },
      )

  pub goes_leaves : (mark : Text) (before after : Place) (old new : State) → GoesOn Exchanged mark before old after new
      → Leaves (HasPlace before old) (IsTillsBook mark) (IsLater Exchanged) new
  goes_leaves mark before after old new goes journal commands has is db may =
      let it = goes_after mark before after old new goes journal commands has is in
      record { journal = it.0; commands = it.1; stands = it.2.rests.left db may; is = it.3; goes = it.4 }

  pub goes_then_leaves : (mark : Text) (before mid : Place) (old between new : State) → GoesOn Exchanged mark before old mid between
      → Leaves (HasPlace mid between) (IsTillsBook mark) (IsLater Exchanged) new → Leaves (HasPlace before old) (IsTillsBook mark) (IsLater Exchanged) new
  goes_then_leaves mark before mid old between new goes leaves =
      leaves_then (HasPlace before old) (HasPlace mid between) (IsTillsBook mark) (IsLater Exchanged) new (later_then Exchanged)
      (goes_after mark before mid old between goes) leaves

  -- ---- head office's book

  pub entered_leaves : (n : ℕ) (request : List ℕ) (place : Place) (old new : State) → n ≡ place.entries + 1 → HasCleanDisk new
      → Survives old new (LeavesEntered n request old) → Leaves (HasPlace place old) IsAny (IsLater Exchanged) new
  entered_leaves n request place old new counted clean h journal commands has is db may =
      elim (h.crash clean db may) [
        | inl earlier ↦ record {
          journal = journal;
          commands = commands;
          stands = has.rests.left db earlier;
          is = tt;
          goes = later_same Exchanged journal commands;
        }
        | inr made ↦ record {
          journal = with_entry request journal;
          commands = commands;
          stands = made journal has.rests (counted ∙ ap (λ k. k + 1) has.entries);
          is = tt;
          goes = record { extends = extends_entry Exchanged request journal; says = ([], nothing_more commands) };
        }
      ]

  pub grows_after : (before after : Place) (old new : State) → Grows Exchanged before old after new
      → (journal : Journal) (commands : List Command) → HasPlace before old journal → IsAny journal commands
      → (next : Journal) × (known : List Command) × HasPlace after new next × IsAny next known × IsLater Exchanged journal commands next known
  grows_after before after old new grows journal commands has is =
      let it = grows journal has in (it.journal, commands, it.has, tt, record { extends = it.extends; says = ([], nothing_more commands) })

  pub grows_leaves : (before after : Place) (old new : State) → Grows Exchanged before old after new
      → Leaves (HasPlace before old) IsAny (IsLater Exchanged) new
  grows_leaves before after old new grows journal commands has is db may =
      let it = grows_after before after old new grows journal commands has is in
      record { journal = it.0; commands = it.1; stands = it.2.rests.left db may; is = it.3; goes = it.4 }

  pub grows_then_leaves : (before mid : Place) (old between new : State) → Grows Exchanged before old mid between
      → Leaves (HasPlace mid between) IsAny (IsSentAfter Exchanged) new → Leaves (HasPlace before old) IsAny (IsLater Exchanged) new
  grows_then_leaves before mid old between new grows leaves =
      leaves_then (HasPlace before old) (HasPlace mid between) IsAny (IsLater Exchanged) new (later_then Exchanged)
      (grows_after before mid old between grows) (sent_at_any Exchanged (HasPlace mid between) new leaves)

  -- ---- entries that are sent once more

  settled_as : (old new : Journal) (more : List (ℕ × Answer)) → new.entries ≡ old.entries → new.replies ≡ old.replies → new.settled ≡ old.settled ++ more
      → new ≡ with_settlements more old
  settled_as old new more entries replies settled =
      ap (λ (es : List (List ℕ)). record new { entries = es }) entries
      ∙ ap (λ (rs : List Answer). record old { replies = rs; settled = new.settled }) replies
      ∙ ap (λ (them : List (ℕ × Answer)). record old { settled = them }) settled

  nothing_after : (old new : State) → EntersNothing Exchanged old new → (journal : Journal) (commands : List Command) → Rests old journal
      → IsAny journal commands
      → (next : Journal) × (known : List Command) × Rests new next × IsAny next known × IsSettledAfter Exchanged journal commands next known
  nothing_after old new nothing journal commands rests is =
      let it = nothing journal rests in (
        it.journal,
        commands,
        it.rests,
        tt,
        (it.settled.0, settled_as journal it.journal it.settled.0 it.entries it.replies it.settled.1, refl, it.settled.2),
      )

  pub nothing_leaves : (old new : State) → EntersNothing Exchanged old new → Leaves (Rests old) IsAny (IsSettledAfter Exchanged) new
  nothing_leaves old new nothing journal commands rests is db may =
      let it = nothing_after old new nothing journal commands rests is in
      record { journal = it.0; commands = it.1; stands = it.2.left db may; is = it.3; goes = it.4 }

  pub nothing_then_leaves : (old mid new : State) → EntersNothing Exchanged old mid → Leaves (Rests mid) IsAny (IsSettledAfter Exchanged) new
      → Leaves (Rests old) IsAny (IsSettledAfter Exchanged) new
  nothing_then_leaves old mid new nothing leaves =
      leaves_then (Rests old) (Rests mid) IsAny (IsSettledAfter Exchanged) new (settled_both Exchanged) (nothing_after old mid nothing) leaves

  pub rest_leaves : (old new : State) → book.Stays old new → Leaves (Rests old) IsAny (IsSettledAfter Exchanged) new
  rest_leaves old new stays = leaves_same (Rests old) IsAny (IsSettledAfter Exchanged) new stays (settled_same Exchanged)

  pub rest_then_leaves : (old mid new : State) → book.Stays old mid → Leaves (Rests mid) IsAny (IsSettledAfter Exchanged) new
      → Leaves (Rests old) IsAny (IsSettledAfter Exchanged) new
  rest_then_leaves old mid new stays leaves = leaves_before (Rests old) (Rests mid) IsAny (IsSettledAfter Exchanged) new stays leaves

  -- ---- nothing is changed

  pub stays_at_till : (mark : Text) (old new : State) → book.Stays old new → Leaves (Rests old) (IsTillsBook mark) (IsLater Exchanged) new
  stays_at_till mark old new stays = leaves_same (Rests old) (IsTillsBook mark) (IsLater Exchanged) new stays (later_same Exchanged)

  pub stays_at_any : (old new : State) → book.Stays old new → Leaves (Rests old) IsAny (IsLater Exchanged) new
  stays_at_any old new stays = leaves_same (Rests old) IsAny (IsLater Exchanged) new stays (later_same Exchanged)

  unchanged_at_till : (mark : Text) (Had : Journal → Type 0) (new : State) → Leaves Had IsAny IsUnchanged new
      → Leaves Had (IsTillsBook mark) (IsLater Exchanged) new
  unchanged_at_till mark Had new leaves =
      leaves_as Had IsAny (IsTillsBook mark) IsUnchanged (IsLater Exchanged) new (λ journal commands is. tt)
      (λ a b x y is it. (same_book mark a b x y (ap (λ (j : Journal). j.entries) it.0) it.1 is, unchanged_is_later Exchanged a b x y it)) leaves

  unchanged_at_any : (Had : Journal → Type 0) (new : State) → Leaves Had IsAny IsUnchanged new → Leaves Had IsAny (IsLater Exchanged) new
  unchanged_at_any Had new leaves =
      leaves_as Had IsAny IsAny IsUnchanged (IsLater Exchanged) new (λ journal commands is. tt)
      (λ a b x y is it. (tt, unchanged_is_later Exchanged a b x y it)) leaves

  module _ (shows : ℕ → Type 0) (mark token : Text) (giver : Result ℕ TillFault) where
    -- what a plan leaves, the same plan by another name leaves
    pub leaves_by : (it other : Plan) (Had : Journal → Type 0) (new : State) → it ≡ other → LeavesPlan Exchanged shows mark token giver it Had new
        → LeavesPlan Exchanged shows mark token giver other Had new
    leaves_by it other Had new same leaves = subst (λ (p : Plan). LeavesPlan Exchanged shows mark token giver p Had new) same leaves

    -- ---- whatever the plan of a branch is, a till's book is left one

    no_office : (staff : Option ℕ) → IsSome staff → staff ≡ None → ⊥
    no_office None some none = absurd (false≢true some)
    no_office (Some own) some none = cc

    pub plan_at_till : (staff : Option ℕ) (it : Plan) (Had : Journal → Type 0) (new : State) → IsSome staff → IsPlannedFor staff it
        → LeavesPlan Exchanged shows mark token giver it Had new → Leaves Had (IsTillsBook mark) (IsLater Exchanged) new
    plan_at_till staff (plan.Give what customer) Had new some planned leaves =
        tried_at_till Exchanged shows token giver (seen_act what) mark Had new leaves
    plan_at_till staff (plan.Office words) Had new some planned leaves = absurd (no_office staff some planned)
    plan_at_till staff plan.Send Had new some planned leaves = sent_at_till Exchanged mark Had new leaves
    plan_at_till staff (plan.Again late) Had new some planned leaves = leaves
    plan_at_till staff (plan.Look look) Had new some planned leaves = unchanged_at_till mark Had new leaves
    plan_at_till staff (plan.ReadOffice words) Had new some planned leaves = unchanged_at_till mark Had new leaves
    plan_at_till staff plan.Waiting Had new some planned leaves = unchanged_at_till mark Had new leaves
    plan_at_till staff (plan.Last count) Had new some planned leaves = unchanged_at_till mark Had new leaves
    plan_at_till staff (plan.Day asked) Had new some planned leaves = unchanged_at_till mark Had new leaves
    plan_at_till staff (plan.Today date) Had new some planned leaves = unchanged_at_till mark Had new leaves
    plan_at_till staff plan.Slip Had new some planned leaves = unchanged_at_till mark Had new leaves
    plan_at_till staff plan.Usage Had new some planned leaves = unchanged_at_till mark Had new leaves

    pub plan_at_office : (staff : Option ℕ) (it : Plan) (Had : Journal → Type 0) (new : State) → staff ≡ None → IsPlannedFor staff it
        → LeavesPlan Exchanged shows mark token giver it Had new → Leaves Had IsAny (IsLater Exchanged) new
    plan_at_office staff (plan.Give what customer) Had new none planned leaves = absurd (no_office staff planned none)
    plan_at_office staff (plan.Office words) Had new none planned leaves = leaves
    plan_at_office staff plan.Send Had new none planned leaves = sent_at_any Exchanged Had new leaves
    plan_at_office staff (plan.Again late) Had new none planned leaves = absurd (no_office staff planned none)
    plan_at_office staff (plan.Look look) Had new none planned leaves = unchanged_at_any Had new leaves
    plan_at_office staff (plan.ReadOffice words) Had new none planned leaves = unchanged_at_any Had new leaves
    plan_at_office staff plan.Waiting Had new none planned leaves = unchanged_at_any Had new leaves
    plan_at_office staff (plan.Last count) Had new none planned leaves = unchanged_at_any Had new leaves
    plan_at_office staff (plan.Day asked) Had new none planned leaves = unchanged_at_any Had new leaves
    plan_at_office staff (plan.Today date) Had new none planned leaves = unchanged_at_any Had new leaves
    plan_at_office staff plan.Slip Had new none planned leaves = unchanged_at_any Had new leaves
    plan_at_office staff plan.Usage Had new none planned leaves = unchanged_at_any Had new leaves

    -- ---- a word at which the book stays

    pub stays_left : (sheet : Text) (word : TillAct) (old new : State) → book.Stays old new → LeavesWord Exchanged shows mark token giver sheet word old new
    stays_left sheet (typed.Do what) old new stays =
        leaves_same (Rests old) (IsTillsBook mark) (IsTriedAfter Exchanged shows token giver (seen_act what)) new stays
        (tried_same Exchanged shows token giver (seen_act what))
    stays_left sheet (typed.ReturnCopy copy) old new stays = inl (look_leaves (Rests old) new stays)
    stays_left sheet (typed.Office words) old new stays =
        (leaves_same (Rests old) IsAny (IsLater Exchanged) new stays (later_same Exchanged), λ reads. look_leaves (Rests old) new stays)
    stays_left sheet typed.Send old new stays = leaves_same (Rests old) IsAny (IsSentAfter Exchanged) new stays (sent_same Exchanged)
    stays_left sheet (typed.Again late) old new stays = leaves_same (Rests old) (IsTillsBook mark) (IsLater Exchanged) new stays (later_same Exchanged)
    stays_left sheet (typed.Look look) old new stays = look_leaves (Rests old) new stays
    stays_left sheet typed.Waiting old new stays = look_leaves (Rests old) new stays
    stays_left sheet (typed.Last count) old new stays = look_leaves (Rests old) new stays
    stays_left sheet (typed.Day asked) old new stays = look_leaves (Rests old) new stays
    stays_left sheet (typed.Today date) old new stays = look_leaves (Rests old) new stays
    stays_left sheet typed.Slip old new stays = look_leaves (Rests old) new stays
    stays_left sheet typed.Help old new stays = look_leaves (Rests old) new stays
    stays_left sheet (typed.Zone name) old new stays = look_leaves (Rests old) new stays
    stays_left sheet (typed.Init beginning) old new stays = look_leaves (Rests old) new stays
    stays_left sheet (typed.Import file lot) old new stays = look_leaves (Rests old) new stays
    stays_left sheet (typed.JoinIn who) old new stays = look_leaves (Rests old) new stays
    stays_left sheet typed.Prompt old new stays = look_leaves (Rests old) new stays

    -- ---- a word by its plan, which was made of the book as it was read

    office_left : (reads : Bool) (words : List Text) (it : Plan) (Had : Journal → Type 0) (new : State)
        → it ≡ (if reads then plan.ReadOffice words else plan.Office words)
        → LeavesPlan Exchanged shows mark token giver it Had new → Leaves Had IsAny (IsLater Exchanged) new × (IsTrue reads → Leaves Had IsAny IsUnchanged new)
    office_left true words it Had new same leaves =
        let reading = leaves_by it (plan.ReadOffice words) Had new same leaves in (unchanged_at_any Had new reading, λ reads. reading)
    office_left false words it Had new same leaves = (leaves_by it (plan.Office words) Had new same leaves, λ reads. absurd (false≢true reads))

    pub word_left : (sheet : Text) (word : TillAct) (it : Plan) (place : Place) (old read mid new : State)
        → IsPlaceOf place old → book.Stays old read → book.Stays read mid → IsPlanOf sheet read word it
        → LeavesPlan Exchanged shows mark token giver it (HasPlace place mid) new → LeavesWord Exchanged shows mark token giver sheet word old new
    word_left sheet (typed.Do what) it place old read mid new is first second plans leaves =
        read_leaves place old mid new is (stays_both old read mid first second) (IsTillsBook mark) (IsTriedAfter Exchanged shows token giver (seen_act what))
        (leaves_by it (plan.Give what plans.0) (HasPlace place mid) new plans.2 leaves)
    word_left sheet (typed.ReturnCopy copy) it place old read mid new is first second plans leaves = inr (
      plans.0,
      returned_before sheet copy plans.0 old read first plans.1,
      read_leaves place old mid new is (stays_both old read mid first second) (IsTillsBook mark)
          (IsTriedAfter Exchanged shows token giver (seen_act (asked.TakeBack plans.0.rental)))
          (leaves_by it (plan.Give (asked.TakeBack plans.0.rental) (Some plans.0.customer)) (HasPlace place mid) new plans.2 leaves),
    )
    word_left sheet (typed.Office words) it place old read mid new is first second plans leaves =
        let left = office_left (is_reading words) words it (HasPlace place mid) new plans leaves in
        let stays = stays_both old read mid first second in (
          read_leaves place old mid new is stays IsAny (IsLater Exchanged) left.0,
          λ reads. read_leaves place old mid new is stays IsAny IsUnchanged (left.1 reads),
        )
    word_left sheet typed.Send it place old read mid new is first second plans leaves =
        read_leaves place old mid new is (stays_both old read mid first second) IsAny (IsSentAfter Exchanged)
        (leaves_by it plan.Send (HasPlace place mid) new plans leaves)
    word_left sheet (typed.Again late) it place old read mid new is first second plans leaves =
        read_leaves place old mid new is (stays_both old read mid first second) (IsTillsBook mark) (IsLater Exchanged)
        (leaves_by it (plan.Again late) (HasPlace place mid) new plans leaves)
    word_left sheet (typed.Look look) it place old read mid new is first second plans leaves =
        read_leaves place old mid new is (stays_both old read mid first second) IsAny IsUnchanged
        (leaves_by it (plan.Look look) (HasPlace place mid) new plans leaves)
    word_left sheet typed.Waiting it place old read mid new is first second plans leaves =
        read_leaves place old mid new is (stays_both old read mid first second) IsAny IsUnchanged
        (leaves_by it plan.Waiting (HasPlace place mid) new plans leaves)
    word_left sheet (typed.Last count) it place old read mid new is first second plans leaves =
        read_leaves place old mid new is (stays_both old read mid first second) IsAny IsUnchanged
        (leaves_by it (plan.Last count) (HasPlace place mid) new plans leaves)
    word_left sheet (typed.Day asked) it place old read mid new is first second plans leaves =
        read_leaves place old mid new is (stays_both old read mid first second) IsAny IsUnchanged
        (leaves_by it (plan.Day asked) (HasPlace place mid) new plans leaves)
    word_left sheet (typed.Today date) it place old read mid new is first second plans leaves =
        read_leaves place old mid new is (stays_both old read mid first second) IsAny IsUnchanged
        (leaves_by it (plan.Today date) (HasPlace place mid) new plans leaves)
    word_left sheet typed.Slip it place old read mid new is first second plans leaves =
        read_leaves place old mid new is (stays_both old read mid first second) IsAny IsUnchanged
        (leaves_by it plan.Slip (HasPlace place mid) new plans leaves)
    word_left sheet typed.Help it place old read mid new is first second plans leaves =
        read_leaves place old mid new is (stays_both old read mid first second) IsAny IsUnchanged
        (leaves_by it plan.Usage (HasPlace place mid) new plans leaves)
    word_left sheet (typed.Zone name) it place old read mid new is first second plans leaves =
        read_leaves place old mid new is (stays_both old read mid first second) IsAny IsUnchanged
        (leaves_by it plan.Usage (HasPlace place mid) new plans leaves)
    word_left sheet (typed.Init beginning) it place old read mid new is first second plans leaves =
        read_leaves place old mid new is (stays_both old read mid first second) IsAny IsUnchanged
        (leaves_by it plan.Usage (HasPlace place mid) new plans leaves)
    word_left sheet (typed.Import file lot) it place old read mid new is first second plans leaves =
        read_leaves place old mid new is (stays_both old read mid first second) IsAny IsUnchanged
        (leaves_by it plan.Usage (HasPlace place mid) new plans leaves)
    word_left sheet (typed.JoinIn who) it place old read mid new is first second plans leaves =
        read_leaves place old mid new is (stays_both old read mid first second) IsAny IsUnchanged
        (leaves_by it plan.Usage (HasPlace place mid) new plans leaves)
    word_left sheet typed.Prompt it place old read mid new is first second plans leaves =
        read_leaves place old mid new is (stays_both old read mid first second) IsAny IsUnchanged
        (leaves_by it plan.Usage (HasPlace place mid) new plans leaves)
