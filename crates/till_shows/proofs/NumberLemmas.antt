-- Digits with no leading zero are what is written of their number.
use Rattle.std.proofs.Common.{Bor}
use Rattle.std.specs.Prelude.{decimal, nat_le, nat_lt, ◌==◌, ◌&&◌, not, IfSome}
use Rattle.shop_types.proofs.Common.{rules, ◌≡◌, ◌≢◌, ◌∙◌, ◌<◌, ◌≤◌, ◌^◌, ◌++◌, [], ◌∷◌, ℕ, zero, suc, Bool, true, false, List, length, get_or, Option, Some}
use Rattle.shop_types.proofs.Common.{None, refl, sym, ap, arith, if◌then◌else◌, MatchOption, list_all, is_ascii_digit, digits_value, leb-true, le-leb}
use Rattle.shop_types.proofs.Common.{nat_tests, IsNumeralModel, numerals_by_value, digits_decimal, digits_value-decimal, decimal-digits_value, decimal_nonempty}
use Rattle.shop_types.proofs.Common.{length-decimal-le, first_decimal, is_row_number, is_plain_number, is_ten_digits, row_number_of, differ_test}

own : IsNumeralModel (λ ds. list_all is_ascii_digit ds ≡ true) (digits_value 10)
own = numerals_by_value _ (search rules)

both : (a b : Bool) → (a && b) ≡ true → (a ≡ true) × (b ≡ true)
both true b e = (refl, e)
both false b e = let no : false ≡ true = e in cc

-- ---- a number's digits are read

plain : (ds : List ℕ) (n : ℕ) → 1 ≤ length ds → length ds ≤ 10 → list_all is_ascii_digit ds ≡ true
    → get_or ds 0 0 ≢ 48 → digits_value 10 ds ≡ n → is_row_number n ≡ true → row_number_of ds ≡ Some n
plain ds n some few digits first value row =
    let a : nat_le 1 (length ds) ≡ true = le-leb 1 (length ds) some in
    let b : nat_le (length ds) 10 ≡ true = le-leb (length ds) 10 few in
    let d : (get_or ds 0 0 == 48) ≡ false = differ_test (get_or ds 0 0) 48 first in
    rw (a, b, digits, d, value, row) refl

pub reads_decimal : (n : ℕ) → 1 ≤ n → n < 2 ^ 32 → row_number_of (decimal n) ≡ Some n
reads_decimal n low high =
    let small : n < 2 ^ 64 = omega (arith, high) in
    let first = first_decimal n (omega (arith, low)) small in
    let row : is_row_number n ≡ true = grind (arith, nat_tests, low, high) in
    plain (decimal n) n (omega (arith, decimal_nonempty n small))
    (length-decimal-le 10 n (omega arith) (omega (arith, high)) small) (digits_decimal own n small) (λ is. omega (arith, first, is))
    (digits_value-decimal own n small) row

-- ---- and what is read is a number's digits

written : (ds : List ℕ) → is_plain_number ds ≡ true → is_row_number (digits_value 10 ds) ≡ true → decimal (digits_value 10 ds) ≡ ds
written ds is row =
    let parts = both (is_ten_digits ds) (not (get_or ds 0 0 == 48)) is in
    let ten = both (nat_le 1 (length ds) && nat_le (length ds) 10) (list_all is_ascii_digit ds) parts.0 in
    let some = leb-true 1 (length ds) (both (nat_le 1 (length ds)) (nat_le (length ds) 10) ten.0).0 in
    let low = both (nat_le 1 (digits_value 10 ds)) (nat_lt (digits_value 10 ds) (2 ^ 32)) row in
    let high = leb-true (suc (digits_value 10 ds)) (2 ^ 32) low.1 in
    decimal-digits_value own ds ten.1 (omega (arith, some)) (λ zero. grind (arith, nat_tests, zero, parts.1)) (omega (arith, high))

pub read_is : (ds : List ℕ) (n : ℕ) → row_number_of ds ≡ Some n → ds ≡ decimal n
read_is ds n e = go (is_plain_number ds) (is_row_number (digits_value 10 ds)) refl refl e
  where
    go : (a b : Bool) → is_plain_number ds ≡ a → is_row_number (digits_value 10 ds) ≡ b
        → (if a && b then Some (digits_value 10 ds) else None) ≡ Some n → ds ≡ decimal n
    go true true p q e = let one : digits_value 10 ds ≡ n = cc in sym (written ds p q) ∙ ap decimal one
    go true false p q e = let no : ◌≡◌ {A = Option ℕ} None (Some n) = e in cc
    go false b p q e = let no : ◌≡◌ {A = Option ℕ} None (Some n) = e in cc

pub zero_text : decimal 0 ≡ 48 ∷ []
zero_text = decimal-digits_value own (48 ∷ []) refl (omega arith) (λ _. refl) (omega arith)

-- digits that are no row's number and not 0 are written of no number
pub none_read : (ds : List ℕ) → None ≡ row_number_of ds → ds ≢ 48 ∷ [] → (n : ℕ) → n < 2 ^ 32 → ds ≢ decimal n
none_read ds none other zero small is = other (is ∙ zero_text)
none_read ds none other (suc n) small is =
    let no : ◌≡◌ {A = Option ℕ} None (Some (suc n)) = none ∙ ap row_number_of is ∙ reads_decimal (suc n) (omega arith) small in cc

-- ---- the text between a start and an end

pub between_ends : (body start rest end : List ℕ) (r : Option (Bor (List ℕ))) → body ≡ start ++ rest
    → MatchOption r ((front : List ℕ) → rest ≢ front ++ end) (λ x. rest ≡ x.now ++ end)
    → IfSome r (λ x. body ≡ start ++ (x.now ++ end))
between_ends body start rest end None front m = tt
between_ends body start rest end (Some x) front m = front ∙ ap (λ (l : List ℕ). start ++ l) m
