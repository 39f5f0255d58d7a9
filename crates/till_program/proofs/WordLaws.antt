-- A line that is read is the line that was written, and what was written is read again.
use Rattle.std.proofs.Common.{◌≡◌, ℕ, zero, suc, ◌+◌, ◌-◌, ◌^◌, ◌<◌, ◌≤◌, Bool, true, false, cond, eqb, List, [], ◌∷◌, ◌++◌, length, Result, Ok, Err, refl, sym}
use Rattle.std.proofs.Common.{ap, subst, ◌∙◌, append_assoc, arith}
use Rattle.std.specs.List.{flat_map, AllByRecursion}
use Rattle.std.specs.Int.{w32, to_be_bytes}
use Rattle.std.proofs.lemmas.Bool.{eqb-true}
use Rattle.std.proofs.lemmas.List.{append-nil, nil_from_length}
use Rattle.std.proofs.lemmas.List.Concat.{flat_map-cons}
use Rattle.till_program.specs.declared.fault.NoFrame.{NoFrame}
use Rattle.till_program.specs.declared.fault.NoFrame.TheVariants.{Trailing}
use Rattle.till_program.specs.declared.fault.NoLine.{NoLine}
use Rattle.till_program.specs.declared.fault.NoLine.TheVariants as lacks
use Rattle.till_program.specs.Frames.{field, line, most, AreWords}
use Rattle.till_program.specs.Reading.{◌>>=◌, Fails, number_at, field_at, words_at, line_at}
use Rattle.till_program.proofs.FieldLaws.{IsBytes, bind_ok, ok_is, Takes, Takes-then, number_takes, number_again, field_takes, field_again}

-- a test that held
pub guard_ended : {A : Type 0} (b : Bool) (d : NoFrame) (x y : A) → cond b (Ok x) (Err d) ≡ Ok y → (b ≡ true) × (x ≡ y)
guard_ended true d x y e = (refl, cc)
guard_ended false d x y e = absurd cc

words_take : (n : ℕ) (bytes : List ℕ) (x : List (List ℕ) × List ℕ) → IsBytes bytes
    → words_at n bytes ≡ Ok x → Takes bytes (flat_map field x.0) x.1 × (length x.0 ≡ n) × AreWords x.0
unfolding words_at
words_take zero bytes x fits e =
    subst (λ (y : List (List ℕ) × List ℕ). Takes bytes (flat_map field y.0) y.1 × (length y.0 ≡ 0) × AreWords y.0)
    (ok_is ([], bytes) x e) (record { parts = refl; rest_fits = fits }, refl, tt)
words_take (suc n) bytes x fits e =
    let a = bind_ok (field_at most bytes) (λ first. words_at n first.1 >>= λ others. Ok (first.0 ∷ others.0, others.1)) x e in
    let b = bind_ok (words_at n a.0.1) (λ others. Ok (a.0.0 ∷ others.0, others.1)) x a.2 in
    let first = field_takes most bytes a.0.0 a.0.1 fits a.1 in
    let second = words_take n a.0.1 b.0 first.0.rest_fits b.1 in
    let both = Takes-then bytes (field a.0.0) a.0.1 (flat_map field b.0.0) b.0.1 first.0 second.0 in
    let made : List (List ℕ) × List ℕ = (a.0.0 ∷ b.0.0, b.0.1) in
    subst (λ (y : List (List ℕ) × List ℕ). Takes bytes (flat_map field y.0) y.1 × (length y.0 ≡ suc n) × AreWords y.0)
    (ok_is made x b.2) (rw flat_map-cons both, ap suc second.1, (first.1, second.2))

words_again : (words : List (List ℕ)) (rest : List ℕ) → AreWords words → words_at (length words) (flat_map field words ++ rest) ≡ Ok (words, rest)
unfolding words_at
words_again [] rest fits = refl
words_again (word ∷ words) rest fits =
    let regrouped : flat_map field (word ∷ words) ++ rest ≡ field word ++ (flat_map field words ++ rest) =
    ap (λ (x : List ℕ). x ++ rest) (flat_map-cons field word words) ∙ append_assoc (field word) (flat_map field words) rest in
    ap (words_at (suc (length words))) regrouped
    ∙ rw (field_again most word (flat_map field words ++ rest) fits.0 (omega arith), words_again words rest fits.1) refl

pub line_takes : (bytes : List ℕ) (words : List (List ℕ)) → IsBytes bytes → line_at bytes ≡ Ok words → AreWords words × (bytes ≡ line words)
unfolding line_at
line_takes bytes words fits e =
    let a = bind_ok (number_at w32 bytes) (λ n. words_at n.0 n.1 >>= λ x. cond (eqb (length x.1) 0) (Ok x.0) (Err Trailing)) words e in
    let b = bind_ok (words_at a.0.0 a.0.1) (λ x. cond (eqb (length x.1) 0) (Ok x.0) (Err Trailing)) words a.2 in
    let g = guard_ended (eqb (length b.0.1) 0) Trailing b.0.0 words b.2 in
    let first = number_takes bytes a.0.0 a.0.1 fits a.1 in
    let second = words_take a.0.0 a.0.1 b.0 first.0.rest_fits b.1 in
    let nothing : b.0.1 ≡ [] = nil_from_length b.0.1 (eqb-true _ _ g.0) in
    let both = (Takes-then bytes (to_be_bytes w32 a.0.0) a.0.1 (flat_map field b.0.0) b.0.1 first.0 second.0).parts in
    let whole : bytes ≡ line b.0.0 =
    both ∙ ap (λ (r : List ℕ). (to_be_bytes w32 a.0.0 ++ flat_map field b.0.0) ++ r) nothing
    ∙ append-nil (to_be_bytes w32 a.0.0 ++ flat_map field b.0.0) ∙ ap (λ (k : ℕ). to_be_bytes w32 k ++ flat_map field b.0.0) (sym second.1) in
    subst (λ (v : List (List ℕ)). AreWords v × (bytes ≡ line v)) g.1 (second.2, whole)

pub line_again : (words : List (List ℕ)) → AreWords words → length words < 2 ^ 32 → line_at (line words) ≡ Ok words
unfolding line_at
line_again words fits few =
    let rest : words_at (length words) (flat_map field words) ≡ Ok (words, []) =
    ap (words_at (length words)) (sym (append-nil (flat_map field words))) ∙ words_again words [] fits in
    rw (number_again (length words) (flat_map field words) few, rest) refl
