-- Numbers of rows, by their bounds.
use Rattle.shop_schema.proofs.Common.{◌≤◌, ℕ, arith, nat_tests, IsNumber}

pub in_range : (n : ℕ) → IsNumber n → (1 ≤ n) × (n ≤ 4_294_967_295)
in_range n h = (grind (arith, nat_tests), grind (arith, nat_tests))

pub ranged : (n : ℕ) → (1 ≤ n) × (n ≤ 4_294_967_295) → IsNumber n
ranged n (a, b) = grind (arith, nat_tests)
