-- What the proofs on written numbers cite.
use Rattle.shop_model.proofs.Common.{◌≡◌, ◌<◌, ◌≤◌, ◌^◌, ◌+◌, ◌*◌, ℕ, arith, lit<, add-one, pow-le-pow_right, digit_value, digit_value_digit}
use Rattle.std.proofs.lemmas.Str.Parse.{digit_from_value}

pub next_digit : (n i d : ℕ) → n < 10 ^ i → i < 19 → d < 10 → n * 10 + d < 10 ^ (i + 1)
next_digit n i d p q r = rw add-one (omega arith)

pub fits_64 : (n i : ℕ) → n < 10 ^ i → i ≤ 19 → n < 18446744073709551616
fits_64 n i p q =
    let up : 10 ^ i ≤ 10 ^ 19 = pow-le-pow_right (lit< tt) q in
    omega arith

pub digit_is : (c : ℕ) → digit_value c < 10 → digit_value c + 48 ≡ c
digit_is c h = digit_value_digit c (digit_from_value c h)
