-- A form shows where it ends: what two forms begin with is one part, and what follows is one too.
use Rattle.shop_schema.proofs.Common.{◌≡◌, ℕ, ◌%◌, ◌/◌, List, [], ◌∷◌, ◌++◌, length, Bool, true, false, Option, Some, None, refl, arith, option_to_list, Moment}
use Rattle.shop_schema.proofs.Common.{moment_text, Text, number_form, text_form, numbers_form, option_form, flag_form}
use Rattle.std.specs.Prelude.{flat_map}

same_number : (a b : ℕ) → a % 256 ≡ b % 256 → a / 256 % 256 ≡ b / 256 % 256 → a / 65_536 % 256 ≡ b / 65_536 % 256 → a / 16_777_216 ≡ b / 16_777_216 → a ≡ b
same_number a b p q r s = omega (arith, p, q, r, s)

pub number_ends : (a b : ℕ) (r s : List ℕ) → number_form a ++ r ≡ number_form b ++ s → (a ≡ b) × (r ≡ s)
number_ends a b r s h =
    let first : a % 256 ≡ b % 256 = cc in
    let second : a / 256 % 256 ≡ b / 256 % 256 = cc in
    let third : a / 65_536 % 256 ≡ b / 65_536 % 256 = cc in
    let fourth : a / 16_777_216 ≡ b / 16_777_216 = cc in
    let rest : r ≡ s = cc in
    (same_number a b first second third fourth, rest)

same_length : (t u r s : List ℕ) → length t ≡ length u → t ++ r ≡ u ++ s → (t ≡ u) × (r ≡ s)
same_length [] [] r s n h = (refl, h)
same_length [] (y ∷ u) r s n h = absurd (omega (arith, n))
same_length (x ∷ t) [] r s n h = absurd (omega (arith, n))
same_length (x ∷ t) (y ∷ u) r s n h =
    let head : x ≡ y = cc in
    let tail : t ++ r ≡ u ++ s = cc in
    let more = same_length t u r s (omega (arith, n)) tail in
    ((λ i. head i ∷ more.0 i), more.1)

pub text_ends : (t u : Text) (r s : List ℕ) → text_form t ++ r ≡ text_form u ++ s → (t ≡ u) × (r ≡ s)
text_ends t u r s h = let n = number_ends (length t) (length u) (t ++ r) (u ++ s) h in same_length t u r s n.0 n.1

pub text_is : (t u : Text) → text_form t ≡ text_form u → t ≡ u
text_is t u h = (number_ends (length t) (length u) t u h).1

each_ends : (ms ns : List ℕ) (r s : List ℕ) → length ms ≡ length ns → flat_map number_form ms ++ r ≡ flat_map number_form ns ++ s → (ms ≡ ns) × (r ≡ s)
each_ends [] [] r s n h = (refl, h)
each_ends [] (y ∷ ns) r s n h = absurd (omega (arith, n))
each_ends (x ∷ ms) [] r s n h = absurd (omega (arith, n))
each_ends (x ∷ ms) (y ∷ ns) r s n h =
    let head = number_ends x y (flat_map number_form ms ++ r) (flat_map number_form ns ++ s) h in
    let more = each_ends ms ns r s (omega (arith, n)) head.1 in
    ((λ i. head.0 i ∷ more.0 i), more.1)

pub numbers_ends : (ms ns : List ℕ) (r s : List ℕ) → numbers_form ms ++ r ≡ numbers_form ns ++ s → (ms ≡ ns) × (r ≡ s)
numbers_ends ms ns r s h =
    let n = number_ends (length ms) (length ns) (flat_map number_form ms ++ r) (flat_map number_form ns ++ s) h in each_ends ms ns r s n.0 n.1

pub option_ends : (o p : Option ℕ) (r s : List ℕ) → option_form o ++ r ≡ option_form p ++ s → (o ≡ p) × (r ≡ s)
option_ends o p r s h = let it = numbers_ends (option_to_list o) (option_to_list p) r s h in (one o p it.0, it.1)
  where
    one : (o p : Option ℕ) → option_to_list o ≡ option_to_list p → o ≡ p
    one None None e = refl
    one None (Some n) e = cc
    one (Some m) None e = cc
    one (Some m) (Some n) e = cc

pub flag_ends : (a b : Bool) (r s : List ℕ) → flag_form a ++ r ≡ flag_form b ++ s → (a ≡ b) × (r ≡ s)
flag_ends true true r s h = (refl, cc)
flag_ends false false r s h = (refl, cc)
flag_ends true false r s h = cc
flag_ends false true r s h = cc

pub moment_ends : (a b : Moment) (r s : List ℕ) → moment_text a ++ r ≡ moment_text b ++ s → (moment_text a ≡ moment_text b) × (r ≡ s)
moment_ends a b r s h = same_length (moment_text a) (moment_text b) r s refl h
