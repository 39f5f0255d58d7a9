-- Lemmas about the number of a row and the calls that put the row.
use Rattle.shop_schema.proofs.Common.{◌≡◌, ◌+◌, ℕ, Ok, Err, Result, refl, sym, subst, IsOk, IfOk, MutBor, false≢true, Ghosts, Held, state, State, inside_as}
use Rattle.shop_schema.proofs.Common.{inside_err}
use Rattle.sql_rows.specs.Calls.{DoesInside}

-- a number that shows that a call succeeded
pub numbered_as :
    {S X E F : Type 0} {g : Ghosts S} {a b : MutBor (Held S)} {P : X → State → State → Type 0}
    {Q : ℕ → State → State → Type 0} (put : Result X E) (r : Result ℕ F) (m : ℕ)
    → IfOk r (λ n. (n ≡ m) × IsOk put) → DoesInside g a b put P
    → ((x : X) → P x (state g a.now) (state g b.now) → Q m (state g a.now) (state g b.now)) → DoesInside g a b r Q
numbered_as {g = g} {a = a} {b = b} {Q = Q} (Ok x) (Ok n) m is one more = record {
  inside = inside_as one.inside;
  says = λ clean. subst (λ (it : ℕ). Q it (state g a.now) (state g b.now)) (sym is.0) (more x (one.says clean));
}
numbered_as (Err e) (Ok n) m is one more = absurd (false≢true is.1)
numbered_as put (Err e) m is one more = record { inside = inside_err one.inside refl; says = λ clean. tt }

-- the number is the one that comes after the last
abbrev pub IsNext : {E : Type 0} → Result ℕ E → ℕ → Type 0
IsNext last number = (n : ℕ) × (last ≡ Ok n) × (number ≡ n + 1)
