-- What a function does by one call inside a transaction, or by several calls, if the first is surely made.
use Rattle.shop_schema.proofs.Common.{◌≡◌, List, ℕ, Option, Some, None, Ok, Result, IfOk, MutBor, slice_get, Ghosts, Held, state, State, HasCleanDisk}
use Rattle.shop_schema.proofs.Common.{StaysInside, StoreFault, TellsFirst, found_then, clean_before, clean_within, inside_then, within_of, within_then}
use Rattle.sqlite_value.specs.Order.{Row}
use Rattle.sqlite.specs.State.{Shown}
use Rattle.sql_rows.specs.Calls.{DoesInside}
use Rattle.sql_rows.proofs.Chaining.{Calls}
use Rattle.shop_schema.proofs.FirstRows.{first_then}

module _ {S : Type 0} {g : Ghosts S} {a b : MutBor (Held S)} where
  -- `Q` follows from `P`, which holds for the value that the call gave
  pub does_so : {X E : Type 0} {r : Result X E} {P : X → Type 0} {Q : X → State → State → Type 0} → StaysInside g a b r
      → (HasCleanDisk (state g b.now) → IfOk r P) → ((x : X) → P x → Q x (state g a.now) (state g b.now)) → DoesInside g a b r Q
  does_so {r = r} stays tells more = record { inside = stays; says = λ clean. found_then _ _ r (tells clean) more }

  -- a first call, other calls, and a last call whose result is the function's result
  pub first_and_last : {c d : MutBor (Held S)} {X E Y F : Type 0} {x : X} {r : Result Y F} {P : X → State → State → Type 0} {R Q : Y → State → State → Type 0}
      → DoesInside {X = X} {E = E} g a b (Ok x) P → (calls : Calls g b c) → DoesInside g c d r R
      → (P x (state g a.now) (state g b.now) → calls.Said → (y : Y) → R y (state g c.now) (state g d.now) → Q y (state g a.now) (state g d.now))
      → DoesInside g a d r Q
  first_and_last {r = r} one calls last more = record {
    inside = inside_then one.inside (within_then calls.inside (within_of last.inside));
    says = λ clean.
        let clean_c = clean_before last.inside clean in
        found_then _ _ r (last.says clean) (more (one.says (clean_within calls.inside clean_c)) (calls.said clean_c));
  }

-- a call that reads its result from the first row that a query shows
pub does_first :
    {S V : Type 0} {g : Ghosts S} {a b : MutBor (Held S)} {r : Result (Option V) StoreFault}
    {Fits : Row → V → Type 0} {Says : Option V → State → State → Type 0}
    (text : List ℕ) (params : Row) → StaysInside g a b r
    → (HasCleanDisk (state g b.now) → IfOk r (λ o. (rows : List Row) × Shown text params (state g a.now) (state g b.now) rows × TellsFirst Fits rows o))
    → ((rows : List Row) → Shown text params (state g a.now) (state g b.now) rows → (None ≡ slice_get rows 0 → Says None (state g a.now) (state g b.now))
    × ((row : Row) (v : V) → Some row ≡ slice_get rows 0 → Fits row v → Says (Some v) (state g a.now) (state g b.now))) → DoesInside g a b r Says
does_first {r = r} text params inside shown read = record { inside = inside; says = λ clean. first_then _ _ _ _ _ r (shown clean) read }
