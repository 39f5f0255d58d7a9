-- What holds of a reply holds of the work that is made of the reply.
use Rattle.shop_schema.proofs.Common.{◌≡◌, refl, sym, subst, ℕ, Result, Ok, Err, Bool, true, false, IsOk, IfOk, IfErr, true≢false, MutBor, Ghosts, Held}
use Rattle.shop_schema.proofs.Common.{State, DoesWithin}
use Rattle.shop_schema.proofs.Common.{inside_when, within_of, within_when, Ask, seen_reply}
use Rattle.shop_types.specs.declared.reply.Reply.{Reply}
use Rattle.shop_model.specs.Values as model
use Rattle.shop_schema.specs.Asked.{HoldsBooks}
use Rattle.shop_ledger.specs.Asked.{HoldsBranch}
use Rattle.shop_ledger.specs.Calls.{Finds}
use Rattle.shop_ledger.proofs.Failing.{has_books}
use Rattle.branch_reports.specs.Told.{IsDecision}
use Rattle.branch_reports.specs.Looked.{Tells}
use Rattle.branch_finds.specs.Looks.{DoesBy, HoldsFor, IsShown, LooksAt, TellsDecision, reads_row, told_of, IsStill}
use Rattle.branch_finds.specs.declared.work.Listing.{Listing}
use Rattle.branch_finds.specs.declared.work.Work.{Work}

module _ {E : Type 0} where
  was_told : (r : Result Reply E) → IsOk (told_of r) → IsOk r
  was_told (Ok x) ok = refl
  was_told (Err e) ok = ok

  told_says : (r : Result Reply E) (b : ℕ) (ask : Ask) (old new : State)
      → IfOk r (λ it. Tells b ask it old new) → IfOk (told_of r) (λ it. Finds (IsShown b ask it) old new)
  told_says (Ok it) b ask old new tells = λ books holds held. let found = tells books holds held in (found.0, (found.1, refl))
  told_says (Err e) b ask old new tells = tt

  told_decided : (r : Result Reply E) → IfOk r (λ it. IsDecision (seen_reply it)) → IfOk (told_of r) TellsDecision
  told_decided (Ok it) decided = decided
  told_decided (Err e) decided = tt

  told_still : (r : Result Reply E) → IfOk (told_of r) IsStill
  told_still (Ok it) = refl
  told_still (Err e) = tt

  -- the work fails as the reply did
  pub told_fails : (r : Result Reply E) {work : Result (Work Listing) E} (P : E → Type 0) → work ≡ told_of r → IfErr r P → IfErr work P
  told_fails (Ok it) P is fails = subst (λ w. IfErr w P) (sym is) tt
  told_fails (Err e) P is fails = subst (λ w. IfErr w P) (sym is) fails

-- ---- what readings ask of the state before them

-- a reading that reads a row asks for the books alone
pub row_asks : (b : ℕ) (ask : Ask) {s : State} → reads_row ask ≡ true → HoldsBooks s → HoldsFor b ask s
row_asks b (model.Rewards at purchases cents) reads it = absurd (true≢false (sym reads))
row_asks b ask reads it = it

-- any asks no more than the branch
pub branch_asks : (b : ℕ) (ask : Ask) {s : State} → HoldsBranch b s → HoldsFor b ask s
branch_asks b (model.Rewards at purchases cents) it = it
branch_asks b ask it = has_books it

module _ {S E : Type 0} {g : Ghosts S} {a b : MutBor (Held S)} where
  -- a reading is answered, whether or not it reads a row
  pub told_look : {branch : ℕ} {ask : Ask} (r : Result Reply E) {work : Result (Work Listing) E}
      → work ≡ told_of r → DoesBy (reads_row ask) g a b r (Tells branch ask)
      → IfOk r (λ it. IsDecision (seen_reply it)) → LooksAt g branch ask a b work
  told_look {branch = branch} {ask = ask} r is one decided =
      subst (LooksAt g branch ask a b) (sym is) (record { does = by (reads_row ask) one; decided = told_decided r decided; still = λ row. told_still r })
    where
      by : (is_read : Bool) → DoesBy is_read g a b r (Tells branch ask) → DoesBy is_read g a b (told_of r) (λ it. Finds (IsShown branch ask it))
      by true one = record { inside = inside_when one.inside (was_told r); says = λ clean. told_says r branch ask _ _ (one.says clean) }
      by false one = record { inside = within_when one.inside (was_told r); says = λ clean. told_says r branch ask _ _ (one.says clean) }

  pub within_by : {X : Type 0} {r : Result X E} {P : X → State → State → Type 0} (is_read : Bool) → DoesBy is_read g a b r P → DoesWithin g a b r P
  within_by true one = record { inside = within_of one.inside; says = one.says }
  within_by false one = one
