-- Numbers of copies have one digit or two.
use Rattle.shop_types.proofs.Common.{◌≡◌, ◌==◌, ◌≤◌, ◌+◌, ◌*◌, sym, arith, ℕ, true, false, true≢false, [], ◌∷◌, length, None, nat_tests, digit_value}
use Rattle.shop_types.proofs.Common.{is_ascii_digit, digits_value, digits_value_after, is_plain_number}
use Rattle.stock_csv.specs.Rows.{Text, copies_of}

-- further digits make no number less
no_less : (n : ℕ) (digits : Text) → n ≤ digits_value_after 10 n digits
no_less n [] = omega arith
no_less n (c ∷ digits) = let more = no_less (n * 10 + digit_value c) digits in omega (arith, more)

no_zero : (c : ℕ) → is_ascii_digit c ≡ true → (c == 48) ≡ false → 1 ≤ digit_value c
no_zero c digit other = grind (arith, nat_tests)

pub plain_is_some : (field : Text) → is_plain_number field ≡ true → 1 ≤ digits_value 10 field
plain_is_some [] plain = absurd (true≢false (sym plain))
plain_is_some (a ∷ rest) plain = let more = no_less (0 * 10 + digit_value a) rest in let some = no_zero a in grind (arith, nat_tests, more, some)

pub long_is_none : (field : Text) → 3 ≤ length field → None ≡ copies_of field
long_is_none [] n = absurd (omega arith)
long_is_none (a ∷ []) n = absurd (omega arith)
long_is_none (a ∷ b ∷ []) n = absurd (omega arith)
long_is_none (a ∷ b ∷ c ∷ rest) n =
    let more = no_less (((0 * 10 + digit_value a) * 10 + digit_value b) * 10 + digit_value c) rest in
    let some = no_zero a in
    grind (arith, nat_tests, more, some)
