-- A word that was done wasn't refused.
use Rattle.std.proofs.Common.{◌≡◌, ◌<◌, ◌⊎◌, ℕ, ℤ, List, Bool, Option, Result, Ok, Err, inl, inr, subst, string_bytes, arith}
use Rattle.std.specs.Prelude.{IfErr, IfOk, OnOk}
use Rattle.sqlite_trees.specs.declared.store.Store.{Ghosts}
use Rattle.sqlite.specs.Held.{Held}
use Rattle.sqlite.specs.State.{State}
use Rattle.shop_model.specs.Values.{Text}
use Rattle.shop_model.specs.Answers.{Answer}
use Rattle.till_words.specs.declared.words.TillAct.{TillAct}
use Rattle.jiff_tz.specs.declared.timezone.TimeZone.{TimeZone}
use Rattle.till_cashier.specs.Printing.{SaysWord}
use Rattle.till_cashier.specs.Showing.{ShowsWord}
use Rattle.till_cashier.specs.Today.{IsOnWall}
use Rattle.till_cashier.specs.Word.{EntersNothing, EntersOrSends, IsFor, IsOwnBook}
use Rattle.till_cashier.specs.declared.fault.TillFault.{TillFault}
use Rattle.till_cashier.specs.declared.fault.TillFault.TheVariants.{OtherBook}
use Rattle.till_cashier.specs.declared.said.Said.{Said}
use Rattle.till_cashier.specs.Faults.{IsBookKept, IsReading, others_fault}
use Rattle.till_cashier.proofs.GoingOn.{kept_ok, stays_same}
use Rattle.std.specs.Io.KnownBytes.{Keeps}
use Rattle.till_cashier.specs.Asked.{Grows}
use Rattle.till_program.specs.Screens.{SaysFaultLine, Screen, Shows, ShowsSaid}
use Rattle.till_program.specs.Performing.{IsPerformed, IsWordFault, MakesSure, Prints}
use Rattle.till_program.proofs.OutputLaws.{prints_then, shown_zero}

-- what is true of a word's outcome if it was done is true if it wasn't refused
pub ok_done : {A E P : Type 0} (r : Result A E) → IfErr r (λ e. ⊥) → OnOk r P → P
ok_done (Ok x) ok done = done
ok_done (Err e) ok done = absurd ok

pub ok_kept : {A : Type 0} (r : Result A TillFault) → IfErr r (λ e. ⊥) → IsBookKept r
ok_kept (Ok x) ok = kept_ok x
ok_kept (Err e) ok = absurd ok

-- what is true whatever comes of it
pub if_ok : {A E P : Type 0} (r : Result A E) → P → IfOk r (λ x. P)
if_ok (Ok x) it = it
if_ok (Err e) it = tt

pub if_err : {A E P : Type 0} (r : Result A E) → P → IfErr r (λ e. P)
if_err (Ok x) it = tt
if_err (Err e) it = it

-- acts were given once more by a word with status 0
pub repeats_zero : {E P : Type 0} (r : Result Said E) → IfErr r (λ e. ⊥) → IfOk r (λ it. it.status ≡ 0) → IfOk r (λ it. it.status < 3 → P) → P
repeats_zero (Ok it) ok zero again = again (omega arith)
repeats_zero (Err e) ok zero again = absurd ok

-- with status 0 a word says that it was done, and nothing is on standard error
pub accepted_zero : (r : Result Said TillFault) (status : ℕ) (first shown : Screen) → status ≡ 0 → IfErr r (λ e. ⊥) → ShowsSaid r status first shown
    → IfOk r (λ it. it.status ≡ 0)
accepted_zero (Ok it) status first shown zero ok is = (shown_zero (string_bytes it.text) it.status status first shown zero is).0
accepted_zero (Err e) status first shown zero ok is = absurd ok

pub quiet_zero : (r : Result Said TillFault) (status : ℕ) (first shown : Screen) → status ≡ 0 → IfErr r (λ e. ⊥) → ShowsSaid r status first shown
    → Keeps first.errors shown.errors
quiet_zero (Ok it) status first shown zero ok is = (shown_zero (string_bytes it.text) it.status status first shown zero is).2
quiet_zero (Err e) status first shown zero ok is = absurd ok

-- why a word wasn't done
pub word_fault : {A : Type 0} (r : Result A TillFault) (mark : Text) (own : Option ℕ) (act : TillAct) (s : State)
    → (¬ IsFor own act → IfErr r (λ fault. IsReading fault ⊎ (fault ≡ others_fault own)))
    → (EntersOrSends act → IsFor own act → ¬ IsOwnBook mark s → IfErr r (λ fault. IsReading fault ⊎ (fault ≡ OtherBook)))
    → IfErr r (IsWordFault mark own act s)
word_fault (Ok x) mark own act s others foreign = tt
word_fault (Err fault) mark own act s others foreign = record { others = others; foreign = foreign }

module _ (Exchanged Answers : List ℕ → Answer → Type 0) (shows : ℕ → Type 0) (wall : TimeZone) (offset : ℤ) (own : Option ℕ) (mark token : Text)
    (giver : Result ℕ TillFault) (json : Bool) (sheet : Text) (act : TillAct) (old new : State) where
  -- a word that was done and has status 0 says its text with that status, and the text was printed
  pub says_zero : (r : Result Said TillFault) (status : ℕ) (first shown : Screen) (written : Option (List ℕ))
      → status ≡ 0 → IfErr r (λ e. ⊥) → ShowsSaid r status first shown
      → IfOk r (λ it. SaysWord Exchanged Answers shows (IsOnWall wall offset) mark token giver json sheet act old new (string_bytes it.text) it.status)
      → IfOk r (λ it. ShowsWord Exchanged shows wall offset own mark token json act old new (string_bytes it.text) it.status)
      → Grows shown.output written
      → (text : Text) × SaysWord Exchanged Answers shows (IsOnWall wall offset) mark token giver json sheet act old new text 0
      × ShowsWord Exchanged shows wall offset own mark token json act old new text 0 × Prints text first.output written
  says_zero (Ok it) status first shown written zero ok is says prints grows =
      let whole = shown_zero (string_bytes it.text) it.status status first shown zero is in (
        string_bytes it.text,
        subst (λ (n : ℕ). SaysWord Exchanged Answers shows (IsOnWall wall offset) mark token giver json sheet act old new (string_bytes it.text) n) whole.0
            says,
        subst (λ (n : ℕ). ShowsWord Exchanged shows wall offset own mark token json act old new (string_bytes it.text) n) whole.0 prints,
        prints_then (string_bytes it.text) first.output shown.output written whole.1 grows,
      )
  says_zero (Err e) status first shown written zero ok is says prints grows = absurd ok

  -- what a word says, or why it wasn't done, is printed
  pub refuses_word : (r : Result Said TillFault) (status : ℕ) (first final : Screen) → ShowsSaid r status first final → OnOk r (IsFor own act)
      → IfOk r (λ it. SaysWord Exchanged Answers shows (IsOnWall wall offset) mark token giver json sheet act old new (string_bytes it.text) it.status)
      → IfOk r (λ it. ShowsWord Exchanged shows wall offset own mark token json act old new (string_bytes it.text) it.status)
      → IfErr r (IsWordFault mark own act old)
      → Shows (λ text wanted.
      (IsFor own act × SaysWord Exchanged Answers shows (IsOnWall wall offset) mark token giver json sheet act old new text wanted
      × ShowsWord Exchanged shows wall offset own mark token json act old new text wanted)
      ⊎ ((fault : TillFault) × IsWordFault mark own act old fault × SaysFaultLine fault text wanted)) status first final
  refuses_word (Ok it) status first final is kind says prints why = (string_bytes it.text, it.status, inl (kind, says, prints), is)
  refuses_word (Err fault) status first final is kind says prints why = (is.0, is.1, inr (fault, why, is.2), is.3)

-- a book that is as it was got no entry
pub enters_none : (Exchanged : List ℕ → Answer → Type 0) (s : State) → EntersNothing Exchanged s s
enters_none Exchanged s = stays_same Exchanged s s (λ journal rests. rests)

either : {A : Type 0} → A ⊎ A → A
either (inl x) = x
either (inr x) = x

-- both ways to the server are sockets
pub sure_over_one : {S : Type 0} (g : Ghosts S) (Exchanged Answers : List ℕ → Answer → Type 0) (shows : ℕ → Type 0) (wall : TimeZone) (offset : ℤ)
    (mark token : Text) (own : Option ℕ) (giver : Result ℕ TillFault) (json : Bool) (sheet : Text) (act : TillAct) (is_failed : Bool) (status : ℕ)
    (first final : Screen) (before after : Held S)
    → IsPerformed g Exchanged Answers (MakesSure Exchanged Exchanged) shows wall offset mark token own giver json sheet act is_failed status
    first final before after
    → IsPerformed g Exchanged Answers (EntersNothing Exchanged) shows wall offset mark token own giver json sheet act is_failed status first final before after
sure_over_one g Exchanged Answers shows wall offset mark token own giver json sheet act is_failed status first final before after it = record {
  between = it.between;
  does = it.does;
  says = it.says;
  quiet = it.quiet;
  refuses = it.refuses;
  repeats = it.repeats;
  kind = it.kind;
  others = it.others;
  untouched = it.untouched;
  keeps = it.keeps;
  office = it.office;
  enters = it.enters;
  sure = λ kept. either (it.sure kept);
}
