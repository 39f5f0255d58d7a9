-- What a line's act does to the book that is held, and its stock file.
use Rattle.std.proofs.Common.{◌≡◌, ◌≢◌, ◌⊎◌, ℕ, Bool, List, [], Option, Some, None, Result, Ok, Err, inl, inr, refl, subst, sym}
use Rattle.std.specs.Prelude.{IfSome, IfOk, IfErr}
use Rattle.shop_model.specs.Values.{Text}
use Rattle.till_words.specs.declared.words.Beginning.{Beginning}
use Rattle.till_words.specs.declared.words.PersonIn.{PersonIn}
use Rattle.till_words.specs.declared.words.TillAct.{TillAct}
use Rattle.till_words.specs.declared.words.TillAct.TheVariants as typed
use Rattle.till_words.specs.declared.words.TillLine.{TillLine}
use Rattle.till_words.specs.Line.{till_line_of}
use Rattle.till_cashier.specs.declared.fault.TillFault.{TillFault}
use Rattle.till_program.specs.declared.opening.OpenBook.{OpenBook}
use Rattle.till_program.specs.declared.program.Performed.{Performed}
use Rattle.till_program.specs.Screens.{PrintsFault, SaysSomeFault, Screen, Shows, screen}
use Rattle.till_program.specs.Lines.{About, IsCompleted, IsAttemptedIn, IsGreeting, IsHelp, IsNotBegun, IsNotDoneAt, DoesAct, DoesLine, DoesWords}
use Rattle.till_program.specs.Lines.{SaysDone, SaysUsage}
use Rattle.till_program.specs.Performing.{IsAttemptedAt, AtBook}
use Rattle.till_program.proofs.OutputLaws.{shows_weaker, some_fault}

-- an act that names no stock file and no city
pub as_it_is : (sent : Option (List ℕ)) (act : TillAct) → ((file lot : List ℕ) → act ≢ typed.Import file lot)
    → ((who : PersonIn) → act ≢ typed.JoinIn who) → IsCompleted sent act act
as_it_is sent (typed.Import file lot) other joins = absurd (other file lot refl)
as_it_is sent (typed.JoinIn who) other joins = absurd (joins who refl)
as_it_is sent (typed.Init beginning) other joins = refl
as_it_is sent (typed.Do what) other joins = refl
as_it_is sent (typed.ReturnCopy copy) other joins = refl
as_it_is sent (typed.Look look) other joins = refl
as_it_is sent typed.Waiting other joins = refl
as_it_is sent typed.Send other joins = refl
as_it_is sent (typed.Last count) other joins = refl
as_it_is sent (typed.Day asked) other joins = refl
as_it_is sent (typed.Today date) other joins = refl
as_it_is sent (typed.Again late) other joins = refl
as_it_is sent typed.Slip other joins = refl
as_it_is sent typed.Help other joins = refl
as_it_is sent (typed.Zone name) other joins = refl
as_it_is sent (typed.Office words) other joins = refl
as_it_is sent typed.Prompt other joins = refl

help_said : (text : Text) (wanted : ℕ) → SaysDone IsHelp text wanted → SaysDone (λ it. IsHelp it ⊎ IsGreeting it) text wanted
help_said text wanted (inl says) = inl (inl says.0, says.1)
help_said text wanted (inr fault) = inr fault

module _ (line : About) (status : ℕ) (first final : Screen) (held now : Option OpenBook) where
  -- an act that isn't done in another way is attempted
  pub attempted : (act : TillAct) → ((beginning : Beginning) → act ≢ typed.Init beginning) → ((zone : List ℕ) → act ≢ typed.Zone zone)
      → act ≢ typed.Help → act ≢ typed.Prompt → IsAttemptedIn line act status first final held now
      → DoesAct line act status first final held now
  attempted (typed.Init beginning) init zone help prompt is = absurd (init beginning refl)
  attempted (typed.Zone it) init zone help prompt is = absurd (zone it refl)
  attempted typed.Help init zone help prompt is = absurd (help refl)
  attempted typed.Prompt init zone help prompt is = absurd (prompt refl)
  attempted (typed.Import file lot) init zone help prompt is = is
  attempted (typed.JoinIn who) init zone help prompt is = is
  attempted (typed.Do what) init zone help prompt is = is
  attempted (typed.ReturnCopy copy) init zone help prompt is = is
  attempted (typed.Look look) init zone help prompt is = is
  attempted typed.Waiting init zone help prompt is = is
  attempted typed.Send init zone help prompt is = is
  attempted (typed.Last count) init zone help prompt is = is
  attempted (typed.Day asked) init zone help prompt is = is
  attempted (typed.Today date) init zone help prompt is = is
  attempted (typed.Again late) init zone help prompt is = is
  attempted typed.Slip init zone help prompt is = is
  attempted (typed.Office words) init zone help prompt is = is

  -- the act is that one, and the status is that one
  pub act_as : (act it : TillAct) (was : ℕ) → act ≡ it → status ≡ was → DoesAct line it was first final held now
      → DoesAct line act status first final held now
  act_as act it was is of done =
      subst (λ (a : TillAct). DoesAct line a status first final held now) (sym is)
      (subst (λ (n : ℕ). DoesAct line it n first final held now) (sym of) done)

  -- the words that there are were printed, and the act asks for that, or for a prompt
  pub helped : (act : TillAct) (was : ℕ) → (act ≡ typed.Help) ⊎ (act ≡ typed.Prompt) → status ≡ was → now ≡ held → Shows (SaysDone IsHelp) was first final
      → DoesAct line act status first final held now
  helped act was (inl is) of same shown = act_as act typed.Help was is of (same, shown)
  helped act was (inr is) of same shown =
      act_as act typed.Prompt was is of
      (same, shows_weaker (SaysDone IsHelp) (SaysDone (λ it. IsHelp it ⊎ IsGreeting it)) was first final help_said shown)

-- A zone was set, or that failed. With status 0 it didn't fail.
pub zone_performed : {A E P Q R : Type 0} (r : Result A E) (status : ℕ) → (status ≡ 0 → IfErr r (λ e. ⊥)) → IfOk r (λ x. Q) → IfErr r (λ e. P ⊎ Q)
    → IfOk r (λ x. R) → ((status ≢ 0) × P) ⊎ (Q × (status ≡ 0 → R))
zone_performed (Ok x) status ok sets fails set = inr (sets, λ zero. set)
zone_performed (Err e) status ok sets (inl not) set = inl (ok, not)
zone_performed (Err e) status ok sets (inr done) set = inr (done, λ zero. absurd (ok zero))

module _ (name : Text) (line : About) (first final : Screen) (held now : Option OpenBook) where
  -- an act of the line was attempted at its book, as the member of staff
  pub act_done : {E : Type 0} (r : Result Performed E) (act it : TillAct) (staff : Option ℕ) → name ≡ line.book → staff ≡ line.named
      → ((beginning : Beginning) → act ≢ typed.Init beginning) → ((zone : List ℕ) → act ≢ typed.Zone zone) → act ≢ typed.Help → act ≢ typed.Prompt
      → IsCompleted line.sent act it → IfOk r (λ done. AtBook (IsAttemptedAt line.json staff it done.status first final) name held now)
      → IfOk r (λ done. DoesAct line act done.status first final held now)
  act_done (Ok done) act it staff same of init zone help prompt completed is =
      attempted line done.status first final held now act init zone help prompt (
        it,
        completed,
        subst (λ (text : Text). AtBook (IsAttemptedAt line.json line.named it done.status first final) text held now) same
            (subst (λ (who : Option ℕ). AtBook (IsAttemptedAt line.json who it done.status first final) name held now) of is),
      )
  act_done (Err fault) act it staff same of init zone help prompt completed is = tt

-- the book was closed as it couldn't be opened
pub not_begun : {A E : Type 0} (held now : Option OpenBook) (r : Result A E) → IfErr r (λ fault. now ≡ None) → IfErr r (λ fault. IsNotBegun held now)
not_begun held now (Ok done) closed = tt
not_begun held now (Err fault) closed = inr closed

-- what keeps the till from a line was printed, and nothing before it
pub not_done_at : (fault : TillFault) (status was : ℕ) (output between after : Option (List ℕ)) (first : Screen) (held now : Option OpenBook)
    → status ≡ was → was ≢ 0 → IsNotBegun held now → screen output between ≡ first → PrintsFault fault was between after
    → IsNotDoneAt status first (screen output after) held now
not_done_at fault status was output between after first held now of other not silent prints =
    subst (λ (n : ℕ). IsNotDoneAt n first (screen output after) held now) (sym of)
    (subst (λ (it : Screen). IsNotDoneAt was it (screen output after) held now) silent (other, not, some_fault fault was output between after prints))

-- the words are that line
pub words_done : (words : List Text) (stands : Option ℕ) (sent : Option (List ℕ)) (line : TillLine) (status : ℕ) (first final : Screen)
    (held now : Option OpenBook) → till_line_of words ≡ Some line
    → DoesLine stands sent line status first final held now ⊎ IsNotDoneAt status first final held now
    → DoesWords words stands sent status first final held now
words_done words stands sent line status first final held now is (inl done) = inr (inr (line, is, done))
words_done words stands sent line status first final held now is (inr not) = inr (inl not)

-- the words are no line
pub usage_done : (words : List Text) (stands : Option ℕ) (sent : Option (List ℕ)) (status was : ℕ) (first final : Screen) (held : Option OpenBook)
    → till_line_of words ≡ None → status ≡ was → Shows SaysUsage was first final → DoesWords words stands sent status first final held held
usage_done words stands sent status was first final held none of shown =
    inl (none, refl, subst (λ (n : ℕ). Shows SaysUsage n first final) (sym of) shown)
