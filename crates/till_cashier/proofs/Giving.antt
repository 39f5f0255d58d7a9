-- Tries of an act, one after another.
use Rattle.std.proofs.Common.{◌≡◌, ◌∙◌, ◌+◌, ◌≤◌, ◌<◌, ◌++◌, ◌∷◌, [], ℕ, List, Option, None, Some, Result, Ok, Err, IfOk, length, sym, ap, subst, refl, arith}
use Rattle.std.proofs.Common.{append_assoc, append-nil, length-append}
use Rattle.std.specs.Prelude.{MatchResult, slice_get, max}
use Rattle.std.specs.List.{AllByRecursion}
use Rattle.std.proofs.lemmas.Option.{slice_get_within}
use Rattle.sqlite.specs.State.{State}
use Rattle.shop_model.specs.Calendar.{Moment, seconds_of}
use Rattle.shop_model.specs.Values.{Text, Act, Command}
use Rattle.shop_model.specs.Answers.{Answer}
use Rattle.till_client.specs.Replies.{seen_answer}
use Rattle.till_client.specs.declared.replies.Answer.{Answer as Read}
use Rattle.till_client.proofs.SoleMessages.{one_command}
use Rattle.till_book.specs.Journal.{Journal, with_entry}
use Rattle.till_work.specs.declared.place.Place.{Place}
use Rattle.till_work.specs.Exchanged.{AreExchanged}
use Rattle.till_work.specs.Desk.{HasPlace, IsAt, GoesOn, Stays, EntersOne, ReturnsLast, with_replies}
use Rattle.till_work.proofs.GoingOn.{place_of, at_place, extends_then, extends_entry, extends_sent, more_then}
use Rattle.till_cashier.specs.declared.fault.TillFault.{TillFault}
use Rattle.till_cashier.specs.Giving.{IsDated, IsTry, AreTries, IsRequest, EntersTry, IsTried, Tries, IsBack, IsGivenAt, Gives, GivesAct}

-- ---- one try

at_least : (m n : ℕ) → m ≤ max m n
at_least m n = grind (arith, max)

-- such a moment is the clock's, or up to two minutes later
pub dated_within : (shows : ℕ → Type 0) (last : Option Moment) (ahead : ℕ) (at : Moment) → IsDated shows last ahead at
    → (now : ℕ) × shows now × (now ≤ seconds_of at) × (seconds_of at ≤ now + 120)
dated_within shows None ahead at is = (seconds_of is.0, is.1, (let same = is.2 in omega arith), is.3)
dated_within shows (Some last) ahead at is = (seconds_of is.0, is.1, later, is.3)
  where
    later : seconds_of is.0 ≤ seconds_of at
    later = let same = is.2 in let most = at_least (seconds_of is.0 + ahead) (seconds_of last + 1) in omega (arith, same, most)

pub enters_try :
    (shows : ℕ → Type 0) (mark token own_mark own_token : Text) (giver : Result ℕ TillFault)
    (act : Act) (request : List ℕ) (before after : Place) (old new : State)
    → own_mark ≡ mark → own_token ≡ token → IsRequest shows token giver act request → EntersOne own_mark own_token request before old after new
    → EntersTry shows mark token giver act before old after new
enters_try shows mark token own_mark own_token giver act request before after old new same_mark same_token says enters =
    let marked : EntersOne mark own_token request before old after new =
    subst (λ (it : Text). EntersOne it own_token request before old after new) same_mark enters in
    let entered : EntersOne mark token request before old after new =
    subst (λ (it : Text). EntersOne mark it request before old after new) same_token marked in (
      says.0,
      says.1,
      (λ journal commands at.
          let one = entered journal commands at in
          let own = says.2.1 in
          let same : one.0 ≡ says.2.0 = one_command request token token one.0 says.2.0 one.1 own.says in (
            request,
            one.0,
            record {
              says = one.1;
              by = ap (λ (it : Command). it.staff) same ∙ own.by;
              does = ap (λ (it : Command). it.act) same ∙ own.does;
              dated = subst (λ (it : Command). (now : ℕ) × shows now × (now ≤ seconds_of it.moment) × (seconds_of it.moment ≤ now + 120)) (sym same) own.dated;
            },
            one.2,
          )),
    )

pub try_goes :
    (Exchanged : List ℕ → Answer → Type 0) (shows : ℕ → Type 0) (mark token : Text)
    (giver : Result ℕ TillFault) (act : Act) (before after : Place) (old new : State)
    → EntersTry shows mark token giver act before old after new → GoesOn Exchanged mark before old after new
try_goes Exchanged shows mark token giver act before after old new enters journal commands at =
    let it = enters.2 journal commands at in
    record {
      journal = with_entry it.0 journal;
      commands = commands ++ it.1 ∷ [];
      is_at = it.3;
      extends = extends_entry Exchanged it.0 journal;
      says = (it.1 ∷ [], refl);
    }

-- each reply that was received is of an entry of the book
told_within : (Exchanged : List ℕ → Answer → Type 0) (entries : List (List ℕ)) (i : ℕ) (front : List Answer) (answer : Answer)
    → AreExchanged Exchanged entries i (front ++ answer ∷ [])
    → i + length front < length entries
told_within Exchanged entries i [] answer told = let within = slice_get_within entries i told.0.0 told.0.1 in omega arith
told_within Exchanged entries i (x ∷ front) answer told = let within = told_within Exchanged entries (i + 1) front answer told.1 in omega arith

module _ (Exchanged : List ℕ → Answer → Type 0) (shows : ℕ → Type 0) (mark token : Text) (giver : Result ℕ TillFault) (act : Act) where
  pub tries_one : (answer : Read) (before mid after : Place) (old between new : State) → EntersTry shows mark token giver act before old mid between
      → ReturnsLast Exchanged (Some answer) mid between after new → (mid.replies ≤ mid.entries → after.replies ≡ mid.entries)
      → Tries Exchanged shows mark token giver act (seen_answer answer ∷ []) before old after new
  tries_one answer before mid after old between new enters tells all = (enters.0, enters.1, tried)
    where
      tried : (journal : Journal) (commands : List Command) → IsAt mark before old journal commands
          → IsTried Exchanged shows mark token enters.0 act (seen_answer answer ∷ []) after new journal commands
      tried journal commands at =
          let it = enters.2 journal commands at in
          let next : Journal = with_entry it.0 journal in
          let sent = tells next (place_of mark mid between next (commands ++ it.1 ∷ []) it.3) in
          let answers = sent.0 in
          let front = sent.2.0 in
          let told : AreExchanged Exchanged next.entries (length next.replies) (front ++ seen_answer answer ∷ []) =
          subst (λ (xs : List Answer). AreExchanged Exchanged next.entries (length next.replies) xs) sent.2.1 sent.1.told in
          let within : length journal.replies + length front < length (journal.entries ++ it.0 ∷ []) =
          told_within Exchanged next.entries (length next.replies) front (seen_answer answer) told in
          let entries : mid.entries ≡ length (journal.entries ++ it.0 ∷ []) = it.3.entries in
          let replies : mid.replies ≡ length journal.replies = it.3.replies in
          let full : after.replies ≡ mid.entries = all (omega arith) in
          let counted : after.replies ≡ length (journal.replies ++ answers) = sent.1.has.replies in
          let long : length (journal.replies ++ answers) ≡ length journal.replies + length answers = length-append journal.replies answers in
          let longer : length (journal.entries ++ it.0 ∷ []) ≡ length journal.entries + 1 = length-append journal.entries (it.0 ∷ []) in
          let parts : length answers ≡ length front + 1 = ap length sent.2.1 ∙ length-append front (seen_answer answer ∷ []) in
          let before_it : length (journal.replies ++ front) ≡ length journal.replies + length front = length-append journal.replies front in
          record {
            journal = with_replies answers next;
            commands = commands ++ it.1 ∷ [];
            is_at = at_place mark mid after between new next (with_replies answers next) (commands ++ it.1 ∷ []) it.3 refl sent.1.has;
            extends =
                extends_then Exchanged journal next (with_replies answers next) (extends_entry Exchanged it.0 journal)
                (extends_sent Exchanged answers next sent.1.told);
            requests = it.0 ∷ [];
            tries = it.1 ∷ [];
            entries = refl;
            says = refl;
            each = (it.2, tt);
            waited = front;
            replies = ap (λ (xs : List Answer). journal.replies ++ xs) sent.2.1 ∙ sym (append_assoc journal.replies front (seen_answer answer ∷ []));
            first = omega arith;
            counted = refl;
            settled = refl;
          }

-- ---- one try after another

tries_then : (shows : ℕ → Type 0) (token : Text) (staff : ℕ) (act : Act) (xs ys : List (List ℕ)) (cs ds : List Command)
    → AreTries shows token staff act xs cs → AreTries shows token staff act ys ds
    → AreTries shows token staff act (xs ++ ys) (cs ++ ds)
tries_then shows token staff act [] ys [] ds one two = two
tries_then shows token staff act [] ys (c ∷ cs) ds one two = absurd one
tries_then shows token staff act (x ∷ xs) ys [] ds one two = absurd one
tries_then shows token staff act (x ∷ xs) ys (c ∷ cs) ds one two = (one.0, tries_then shows token staff act xs ys cs ds one.1 two)

none_long : {A : Type 0} (xs : List A) → length xs ≡ 0 → xs ≡ []
none_long [] is = refl
none_long (x ∷ xs) is = absurd (omega arith)

-- where no entry waits, what had waited is nothing
none_waited : {A B : Type 0} (entries : List B) (replies waited : List A)
    → length replies ≡ length entries → length (replies ++ waited) ≡ length entries → waited ≡ []
none_waited entries replies waited full first =
    let long : length (replies ++ waited) ≡ length replies + length waited = length-append replies waited in
    none_long waited (omega arith)

-- where nothing had waited
behind_all : {A : Type 0} (mid last told later waited none : List A) (before : List A)
    → none ≡ [] → mid ≡ (before ++ waited) ++ told → last ≡ (mid ++ none) ++ later
    → last ≡ (before ++ waited) ++ (told ++ later)
behind_all mid last told later waited none before is one two =
    two ∙ ap (λ (xs : List _). (mid ++ xs) ++ later) is ∙ ap (λ (xs : List _). xs ++ later) (append-nil mid ∙ one) ∙ append_assoc (before ++ waited) told later

module _ (Exchanged : List ℕ → Answer → Type 0) (shows : ℕ → Type 0) (mark token : Text) (staff : ℕ) (act : Act) where
  -- each try has its reply
  full :
      (told : List Answer) (place : Place) (s : State) (old : Journal) (said : List Command)
      (it : IsTried Exchanged shows mark token staff act told place s old said)
      → length it.journal.replies ≡ length it.journal.entries
  full told place s old said it =
      let replies : length it.journal.replies ≡ length (old.replies ++ it.waited) + length told =
      ap length it.replies ∙ length-append (old.replies ++ it.waited) told in
      let entries : length it.journal.entries ≡ length old.entries + length it.requests = ap length it.entries ∙ length-append old.entries it.requests in
      let first = it.first in
      let counted = it.counted in
      omega arith

  tried_then :
      (told later : List Answer) (mid after : Place) (between new : State) (old : Journal)
      (said : List Command) (one : IsTried Exchanged shows mark token staff act told mid between old said)
      → IsTried Exchanged shows mark token staff act later after new one.journal one.commands
      → IsTried Exchanged shows mark token staff act (told ++ later) after new old said
  tried_then told later mid after between new old said one two = record {
    journal = two.journal;
    commands = two.commands;
    is_at = two.is_at;
    extends = extends_then Exchanged old one.journal two.journal one.extends two.extends;
    requests = one.requests ++ two.requests;
    tries = one.tries ++ two.tries;
    entries = more_then old.entries one.journal.entries two.journal.entries one.requests two.requests one.entries two.entries;
    says = more_then said one.commands two.commands one.tries two.tries one.says two.says;
    each = tries_then shows token staff act one.requests two.requests one.tries two.tries one.each two.each;
    waited = one.waited;
    replies = behind_all one.journal.replies two.journal.replies told later one.waited two.waited old.replies
        (none_waited one.journal.entries one.journal.replies two.waited (full told mid between old said one) two.first) one.replies two.replies;
    first = one.first;
    counted = length-append told later ∙ sums told later one.requests two.requests one.counted two.counted ∙ sym (length-append one.requests two.requests);
    settled = two.settled ∙ one.settled;
  }
    where
      sums : (a b : List Answer) (c d : List (List ℕ)) → length a ≡ length c → length b ≡ length d → length a + length b ≡ length c + length d
      sums a b c d e f = omega arith

pub all_then : {A : Type 0} (P : A → Type 0) (xs : List A) (y : A) → AllByRecursion P xs → P y → AllByRecursion P (xs ++ y ∷ [])
all_then P [] y all last = (last, tt)
all_then P (x ∷ xs) y all last = (all.0, all_then P xs y all.1 last)

module _ (Exchanged : List ℕ → Answer → Type 0) (shows : ℕ → Type 0) (mark token : Text) (giver : Result ℕ TillFault) (act : Act) where
  pub first_gives : (answer : Answer) (before mid after : Place) (old between new : State) → Stays before old mid between
      → Tries Exchanged shows mark token giver act (answer ∷ []) mid between after new → Gives Exchanged shows mark token giver act answer before old after new
  first_gives answer before mid after old between new stays tries = (
    tries.0,
    tries.1,
    (λ journal commands at.
        let there = at_place mark before mid old between journal journal commands at refl (stays journal (place_of mark before old journal commands at)) in
        ([], tt, tries.2 journal commands there)),
  )

  pub next_gives : (back answer : Answer) (before mid after : Place) (old between new : State)
      → IsBack back → Gives Exchanged shows mark token giver act back before old mid between
      → Tries Exchanged shows mark token giver act (answer ∷ []) mid between after new → Gives Exchanged shows mark token giver act answer before old after new
  next_gives back answer before mid after old between new is gives tries = (gives.0, gives.1, given)
    where
      same : tries.0 ≡ gives.0
      same = let one = tries.1 in let two = gives.1 in cc

      given : (journal : Journal) (commands : List Command) → IsAt mark before old journal commands
          → (backs : List Answer) × AllByRecursion IsBack backs
          × IsTried Exchanged shows mark token gives.0 act (backs ++ answer ∷ []) after new journal commands
      given journal commands at =
          let it = gives.2 journal commands at in
          let last : IsTried Exchanged shows mark token gives.0 act (answer ∷ []) after new it.2.journal it.2.commands =
          subst (λ (staff : ℕ). IsTried Exchanged shows mark token staff act (answer ∷ []) after new it.2.journal it.2.commands) same
          (tries.2 it.2.journal it.2.commands it.2.is_at) in (
            it.0 ++ back ∷ [],
            all_then IsBack it.0 back it.1 is,
            tried_then Exchanged shows mark token gives.0 act (it.0 ++ back ∷ []) (answer ∷ []) mid after between new journal commands it.2 last,
          )

  -- the replies so far: none, or `moment_back` to each try
  abbrev pub SoFar : {A : Type 0} → (A → Answer) → Result A TillFault → Place → State → Place → State → Type 0
  SoFar seen told before old after new =
      MatchResult told (λ it. Gives Exchanged shows mark token giver act (seen it) before old after new × IsBack (seen it)) (λ _. Stays before old after new)

  pub gives_so_far : {A : Type 0} (seen : A → Answer) (told : Result A TillFault) (answer : Answer) (before mid after : Place) (old between new : State)
      → SoFar seen told before old mid between → Tries Exchanged shows mark token giver act (answer ∷ []) mid between after new
      → Gives Exchanged shows mark token giver act answer before old after new
  gives_so_far seen (Ok it) answer before mid after old between new far tries = next_gives (seen it) answer before mid after old between new far.1 far.0 tries
  gives_so_far seen (Err fault) answer before mid after old between new far tries = first_gives answer before mid after old between new far tries

  pub gave : {A : Type 0} (seen : A → Answer) (told : Result A TillFault) (before after : Place) (old new : State) → SoFar seen told before old after new
      → IfOk told (λ it. Gives Exchanged shows mark token giver act (seen it) before old after new)
  gave seen (Ok it) before after old new far = far.0
  gave seen (Err fault) before after old new far = tt

  pub tries_goes : (answers : List Answer) (before after : Place) (old new : State) → Tries Exchanged shows mark token giver act answers before old after new
      → GoesOn Exchanged mark before old after new
  tries_goes answers before after old new tries journal commands at =
      let it = tries.2 journal commands at in
      record { journal = it.journal; commands = it.commands; is_at = it.is_at; extends = it.extends; says = (it.tries, it.says) }
