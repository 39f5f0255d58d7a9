-- Calls inside a transaction, one after another.
use Rattle.std.specs.Prelude.{IsErr}
use Rattle.sql_rows.proofs.Common.{Ok, Err, Result, MutBor, ⊤, IfOk, IfOk-weaker, refl, false≢true, Ghosts, Held, state, State, HasCleanDisk, StaysInside}
use Rattle.sql_rows.proofs.Common.{StaysWithin, DoesInside, DoesWithin}
use Rattle.sql_rows.proofs.Stays.{clean_within, inside_as, inside_err, inside_then, within_as, within_of, within_then}

-- the calls succeeded and stay in the transaction; if the disk was honest, `Said` holds
pub record Calls {S : Type 0} (g : Ghosts S) (a b : MutBor (Held S)) : Type 1 where
  pub Said : Type 0
  pub inside : StaysWithin {X = ⊤} {E = ⊤} g a b (Ok tt)
  pub said : HasCleanDisk (state g b.now) → Said

module _ {S : Type 0} {g : Ghosts S} {a b : MutBor (Held S)} where
  -- a call with two clauses
  abbrev pub call : {X E : Type 0} {x : X} {P : Type 0} → StaysInside {X = X} {E = E} g a b (Ok x) → (HasCleanDisk (state g b.now) → P) → Calls g a b
  call {P = P} stays says = record { Said = P; inside = within_as (within_of stays); said = says }

  -- a call with one, of a store
  abbrev pub one_call : {X E : Type 0} {x : X} {P : X → State → State → Type 0} → DoesInside {X = X} {E = E} g a b (Ok x) P → Calls g a b
  one_call {x = x} {P = P} one = record { Said = P x (state g a.now) (state g b.now); inside = within_as (within_of one.inside); said = one.says }

  -- or that itself is made of some
  abbrev pub some_calls : {X E : Type 0} {x : X} {P : X → State → State → Type 0} → DoesWithin {X = X} {E = E} g a b (Ok x) P → Calls g a b
  some_calls {x = x} {P = P} one = record { Said = P x (state g a.now) (state g b.now); inside = within_as one.inside; said = one.says }

  -- calls, and then more from where they left the state
  abbrev pub and_then : {c : MutBor (Held S)} → Calls g a b → Calls g b c → Calls g a c
  and_then one two = record {
    Said = one.Said × two.Said;
    inside = within_then one.inside two.inside;
    said = λ clean. (one.said (clean_within two.inside clean), two.said clean);
  }

  -- all were well, and so is the result
  pub done : {Y F : Type 0} {y : Y} {Q : Y → State → State → Type 0} (calls : Calls g a b) → (calls.Said → Q y (state g a.now) (state g b.now))
      → DoesWithin {X = Y} {E = F} g a b (Ok y) Q
  done calls more = record { inside = within_as calls.inside; says = λ clean. more (calls.said clean) }

  -- with what follows of what was said
  pub does_such : {X E : Type 0} {r : Result X E} {P Q : X → State → State → Type 0} → DoesWithin g a b r P
      → ((x : X) (old new : State) → P x old new → Q x old new) → DoesWithin g a b r Q
  does_such {r = r} one more = record { inside = one.inside; says = λ clean. IfOk-weaker r _ _ (λ x. more x (state g a.now) (state g b.now)) (one.says clean) }

  -- the same for one call whose clause speaks only about the value that it gave
  pub does_so : {X E : Type 0} {r : Result X E} {P : X → Type 0} {Q : X → State → State → Type 0} → StaysInside g a b r
      → (HasCleanDisk (state g b.now) → IfOk r P) → ((x : X) → P x → Q x (state g a.now) (state g b.now)) → DoesInside g a b r Q
  does_so {r = r} stays tells more = record { inside = stays; says = λ clean. IfOk-weaker r _ _ more (tells clean) }

  -- a call that only has to stay in the transaction
  pub only_stays : {X E : Type 0} {r : Result X E} → StaysInside g a b r → DoesInside g a b r (λ _ _ _. ⊤)
  only_stays {r = Ok x} stays = record { inside = stays; says = λ clean. tt }
  only_stays {r = Err e} stays = record { inside = stays; says = λ clean. tt }

  -- after a fault there is nothing to say
  pub err_inside : {X E Y F : Type 0} {s : Result X E} {Q : Y → State → State → Type 0} (r : Result Y F) → IsErr r → StaysInside g a b s → DoesInside g a b r Q
  err_inside (Ok y) is stays = absurd (false≢true is)
  err_inside (Err e) is stays = record { inside = inside_err stays refl; says = λ clean. tt }

  -- calls, and then a result that is made of what they say
  pub and_told : {Y F : Type 0} {r : Result Y F} {P : Y → Type 0} {Q : Y → State → State → Type 0} (calls : Calls g a b) → IfOk r P
      → (calls.Said → (y : Y) → P y → Q y (state g a.now) (state g b.now)) → DoesWithin g a b r Q
  and_told {r = r} calls told more = record { inside = within_as calls.inside; says = λ clean. IfOk-weaker r _ _ (more (calls.said clean)) told }

  -- calls, and then some whose result is the result
  pub and_more : {c : MutBor (Held S)} {Y F : Type 0} {r : Result Y F} {P Q : Y → State → State → Type 0} (calls : Calls g a b) → DoesWithin g b c r P
      → (calls.Said → (y : Y) → P y (state g b.now) (state g c.now) → Q y (state g a.now) (state g c.now)) → DoesWithin g a c r Q
  and_more {r = r} calls last more = record {
    inside = within_then calls.inside last.inside;
    says = λ clean. IfOk-weaker r _ _ (more (calls.said (clean_within last.inside clean))) (last.says clean);
  }

  -- calls, and then one with two clauses
  pub and_last : {c : MutBor (Held S)} {Y F : Type 0} {r : Result Y F} {P : Y → Type 0} {Q : Y → State → State → Type 0} (calls : Calls g a b)
      → StaysInside g b c r
      → (HasCleanDisk (state g c.now) → IfOk r P) → (calls.Said → (y : Y) → P y → Q y (state g a.now) (state g c.now)) → DoesWithin g a c r Q
  and_last {P = P} calls stays says more = and_more {P = λ y _ _. P y} calls (record { inside = within_of stays; says = says }) more

-- a call that was answered, which shows that the transaction was open
module _ {S X E : Type 0} {g : Ghosts S} {a b : MutBor (Held S)} {x : X} {P : X → State → State → Type 0} (one : DoesInside {E = E} g a b (Ok x) P) where
  -- then some whose result is the result
  pub first_last : {c : MutBor (Held S)} {Y F : Type 0} {r : Result Y F} {R Q : Y → State → State → Type 0} → DoesWithin g b c r R
      → (P x (state g a.now) (state g b.now) → (y : Y) → R y (state g b.now) (state g c.now) → Q y (state g a.now) (state g c.now)) → DoesInside g a c r Q
  first_last {r = r} rest more = record {
    inside = inside_then one.inside rest.inside;
    says = λ clean. IfOk-weaker r _ _ (more (one.says (clean_within rest.inside clean))) (rest.says clean);
  }

  -- then one more, with what both say
  pub then_does : {Y F : Type 0} {c : MutBor (Held S)} {r : Result Y F} {R : Y → State → State → Type 0} → DoesInside g b c r R
      → DoesInside g a c r (λ y _ _. P x (state g a.now) (state g b.now) × R y (state g b.now) (state g c.now))
  then_does {R = R} two = first_last {R = R} (record { inside = within_of two.inside; says = two.says }) (λ said y also. (said, also))

  -- and so is the result
  pub done_inside : {Y F : Type 0} {y : Y} {Q : Y → State → State → Type 0}
      → (P x (state g a.now) (state g b.now) → Q y (state g a.now) (state g b.now)) → DoesInside {E = F} g a b (Ok y) Q
  done_inside more = record { inside = inside_as one.inside; says = λ clean. more (one.says clean) }

  -- then others, and so is the result
  pub first_done : {c : MutBor (Held S)} {Y F : Type 0} {y : Y} {Q : Y → State → State → Type 0} (calls : Calls g b c)
      → (P x (state g a.now) (state g b.now) → calls.Said → Q y (state g a.now) (state g c.now)) → DoesInside {X = Y} {E = F} g a c (Ok y) Q
  first_done calls more = record {
    inside = inside_then one.inside (within_as calls.inside);
    says = λ clean. more (one.says (clean_within calls.inside clean)) (calls.said clean);
  }
