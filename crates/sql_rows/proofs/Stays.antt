-- One call after another.
use Rattle.sql_rows.proofs.Common.{arith, true, Ok, Err, Result, ◌∙◌, refl, MutBor, IsOk, IsErr, false≢true, Ghosts, Held, state, State, HasCleanDisk, Shows}
use Rattle.sql_rows.proofs.Common.{Survives, survives_then, unchanged_then, keeps_then, StaysInside, StaysSame, StaysWithin}
use Rattle.std.specs.Prelude.{OnOk}
use Rattle.sql_rows.proofs.Inside.{on_ok, on_ok_then, survives_nothing}

not_both : {X E : Type 0} (r : Result X E) → IsOk r → IsErr r → ⊥
not_both (Ok x) ok err = false≢true err
not_both (Err e) ok err = false≢true ok

ok_when : {X E Y F : Type 0} (r : Result X E) (s : Result Y F) (P : Type 0) → (IsOk s → IsOk r) → OnOk r P → OnOk s P
ok_when (Ok x) s P ok p = on_ok s p
ok_when (Err e) (Ok y) P ok p = absurd (false≢true (ok refl))
ok_when (Err e) (Err f) P ok p = tt

pub survives_more : (a b c : State) → Survives a b (λ _. ⊥) → Survives b c (λ _. ⊥) → Survives a c (λ _. ⊥)
survives_more a b c one two = survives_then a b c _ _ (λ _. ⊥) (λ _ db none. none) (λ _ db none. none) one two

shows_more : (a b c : State) → Shows a b b.now a.committed true → Shows b c c.now b.committed true → Shows a c c.now a.committed true
shows_more a b c one two = record {
  was_open = one.was_open;
  is_open = two.is_open;
  now_is = refl;
  committed_is = two.committed_is ∙ one.committed_is;
  mode = two.mode;
}

module _ {S X E : Type 0} {g : Ghosts S} {a b : MutBor (Held S)} where
  -- a clean disk was clean before
  pub clean_before : {r : Result X E} → StaysInside g a b r → HasCleanDisk (state g b.now) → HasCleanDisk (state g a.now)
  clean_before h clean = omega (arith, h.survives.clean, clean)

  pub clean_within : {r : Result X E} → StaysWithin g a b r → HasCleanDisk (state g b.now) → HasCleanDisk (state g a.now)
  clean_within h clean = omega (arith, h.survives.clean, clean)

  pub within_of : {r : Result X E} → StaysInside g a b r → StaysWithin g a b r
  within_of {r} h = record {
    same_reference = h.same_reference;
    survives = h.survives;
    kept = h.kept;
    mode = λ clean inside. on_ok_then r (λ shows. shows.mode) (h.lives clean inside);
    lives = λ clean inside live. h.lives clean inside;
  }

  module _ {Y F : Type 0} {s : Result Y F} where
    -- another result of the same calls
    pub within_when : {r : Result X E} → StaysWithin g a b r → (IsOk s → IsOk r) → StaysWithin g a b s
    within_when {r} h ok = record {
      same_reference = h.same_reference;
      survives = h.survives;
      kept = h.kept;
      mode = λ clean inside. ok_when r s _ ok (h.mode clean inside);
      lives = λ clean inside live. ok_when r s _ ok (h.lives clean inside live);
    }

    pub inside_when : {r : Result X E} → StaysInside g a b r → (IsOk s → IsOk r) → StaysInside g a b s
    inside_when {r} h ok = record {
      same_reference = h.same_reference;
      survives = h.survives;
      kept = h.kept;
      lives = λ clean inside. ok_when r s _ ok (h.lives clean inside);
    }

    -- whatever comes of calls that were answered
    pub within_as : {x : X} → StaysWithin {E = E} g a b (Ok x) → StaysWithin g a b s
    within_as h = within_when h (λ ok. refl)

    pub inside_as : {x : X} → StaysInside {E = E} g a b (Ok x) → StaysInside g a b s
    inside_as h = inside_when h (λ ok. refl)

    -- the last of the calls may have failed, and the result is an error
    pub within_err : {r : Result X E} → StaysWithin g a b r → IsErr s → StaysWithin g a b s
    within_err h err = within_when h (λ ok. absurd (not_both s ok err))

    pub inside_err : {r : Result X E} → StaysInside g a b r → IsErr s → StaysInside g a b s
    inside_err h err = inside_when h (λ ok. absurd (not_both s ok err))

    -- the first call succeeded, and the rest goes on from its state
    module _ {c : MutBor (Held S)} {x : X} where
      pub within_then : StaysWithin {E = E} g a b (Ok x) → StaysWithin g b c s → StaysWithin g a c s
      within_then one two = record {
        same_reference = two.same_reference ∙ one.same_reference;
        survives = survives_more (state g a.now) (state g b.now) (state g c.now) one.survives two.survives;
        kept = λ clean inside.
            let clean_b : HasCleanDisk (state g b.now) = omega (arith, clean, two.survives.clean) in
            keeps_then (state g a.now) (state g b.now) (state g c.now) (one.kept clean_b inside) (two.kept clean (one.mode clean_b inside));
        mode = λ clean inside.
            let clean_b : HasCleanDisk (state g b.now) = omega (arith, clean, two.survives.clean) in
            two.mode clean (one.mode clean_b inside);
        lives = λ clean inside live.
            let clean_b : HasCleanDisk (state g b.now) = omega (arith, clean, two.survives.clean) in
            let first = one.lives clean_b inside live in
            on_ok_then s (shows_more (state g a.now) (state g b.now) (state g c.now) first) (two.lives clean first.mode first.is_open);
      }

      pub inside_then : StaysInside {E = E} g a b (Ok x) → StaysWithin g b c s → StaysInside g a c s
      inside_then one two =
          let both = within_then (within_of one) two in record {
            same_reference = both.same_reference;
            survives = both.survives;
            kept = both.kept;
            lives = λ clean inside. both.lives clean inside (one.lives (omega (arith, clean, two.survives.clean)) inside).was_open;
          }

-- no call at all
pub within_none : {S X E : Type 0} {g : Ghosts S} {a : MutBor (Held S)} {r : Result X E} → StaysWithin g a a r
within_none {g = g} {a = a} {r = r} = record {
  same_reference = refl;
  survives = survives_nothing (state g a.now);
  kept = λ clean inside. record { was_open = λ now. now; committed = λ _. refl };
  mode = λ clean inside. on_ok r inside;
  lives = λ clean inside live. on_ok r (record { was_open = live; is_open = live; now_is = refl; committed_is = refl; mode = inside });
}

-- looks, one after another
module _ {S X E : Type 0} {g : Ghosts S} {a b : Held S} where
  pub was_clean : {r : Result X E} → StaysSame g a b r → HasCleanDisk (state g b) → HasCleanDisk (state g a)
  was_clean h clean = omega (arith, h.survives.clean, clean)

  module _ {Y F : Type 0} {s : Result Y F} where
    pub same_when : {r : Result X E} → StaysSame g a b r → (IsOk s → IsOk r) → StaysSame g a b s
    same_when {r} h ok = record { survives = h.survives; mode = h.mode; kept = h.kept; same = λ clean. ok_when r s _ ok (h.same clean) }

    pub same_as : {x : X} → StaysSame {E = E} g a b (Ok x) → StaysSame g a b s
    same_as h = same_when h (λ ok. refl)

    pub same_err : {r : Result X E} → StaysSame g a b r → IsErr s → StaysSame g a b s
    same_err h err = same_when h (λ ok. absurd (not_both s ok err))

    pub same_then : {c : Held S} {x : X} → StaysSame {E = E} g a b (Ok x) → StaysSame g b c s → StaysSame g a c s
    same_then {c} one two = record {
      survives = survives_more (state g a) (state g b) (state g c) one.survives two.survives;
      mode = λ off. two.mode (one.mode off);
      kept = λ clean. keeps_then (state g a) (state g b) (state g c) (one.kept (omega (arith, clean, two.survives.clean))) (two.kept clean);
      same = λ clean. on_ok_then s (unchanged_then (state g a) (state g b) (state g c) (one.same (omega (arith, clean, two.survives.clean)))) (two.same clean);
    }
