-- What a function does by one call that may be none, or by several.
use Rattle.sql_rows.proofs.Common.{Result, IfOk-weaker, MutBor, Ghosts, Held, State, state, DoesInside, DoesWithin}
use Rattle.sql_rows.proofs.Stays.{within_of}

module _ {S : Type 0} {g : Ghosts S} {a b : MutBor (Held S)} where
  pub does_within : {X E : Type 0} {r : Result X E} {P Q : X → State → State → Type 0} → DoesInside g a b r P
      → ((x : X) → P x (state g a.now) (state g b.now) → Q x (state g a.now) (state g b.now)) → DoesWithin g a b r Q
  does_within {r = r} one more = record { inside = within_of one.inside; says = λ clean. IfOk-weaker r _ _ more (one.says clean) }
