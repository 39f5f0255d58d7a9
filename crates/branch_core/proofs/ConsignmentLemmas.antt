-- Lemmas about listed copies, none of them twice and none unknown, and about lines that are partly missing.
use Rattle.shop_types.proofs.Common.{take, drop, take_all, length-drop, lt-ltb, ◌≡◌, refl, sym, ap, ◌∙◌, inl, inr, ℕ, suc, ◌+◌, ◌-◌, ◌≤◌, ◌<◌, Bool, true}
use Rattle.shop_types.proofs.Common.{false, not, List, [], ◌∷◌, map, filter, length, arith, list_any, nat_tests, cases_Bool, length-map, lacks, mem, arrived}
use Rattle.shop_types.proofs.Common.{numbered_from, numbered, are_lines}
use Rattle.std.specs.Prelude.{◌==◌, ◌||◌, nat_lt}

-- ---- copies that are listed twice

pub any_mem : (n : ℕ) (ns : List ℕ) → mem n ns ≡ list_any (λ (m : ℕ). m == n) ns
any_mem n [] = refl
any_mem n (m ∷ ms) = ap (λ (b : Bool). m == n || b) (any_mem n ms)

pub rest_of : (xs : List ℕ) (later : ℕ) → take (length xs - later) (drop later xs) ≡ drop later xs
rest_of xs later = let left = length-drop later xs in take_all (length xs - later) (drop later xs) (omega (arith, left))

-- ---- numbers that a branch never gave

-- a row's number counts the rows up to it, from 1
pub lacks_by : {A : Type 0} (n : ℕ) (rows : List A) → 1 ≤ n → lacks rows n ≡ nat_lt (length rows) n
lacks_by n [] low = sym (lt-ltb 0 n low)
lacks_by n (x ∷ rows) low = elim (cases_Bool (n == 1)) [
  | inl first ↦ rw first (none_less (length rows) n first)
  | inr further ↦ rw further (lacks_by (n - 1) rows (second n low further) ∙ one_less (length rows) n low)
]
  where
    none_less : (m n : ℕ) → (n == 1) ≡ true → false ≡ nat_lt (suc m) n
    none_less m n e = grind (arith, nat_tests)

    second : (n : ℕ) → 1 ≤ n → (n == 1) ≡ false → 1 ≤ n - 1
    second n low e = grind (arith, nat_tests)

    one_less : (m n : ℕ) → 1 ≤ n → nat_lt m (n - 1) ≡ nat_lt (suc m) n
    one_less m n low = grind (arith, nat_tests)

-- ---- lines that come

abbrev comes : {A : Type 0} → List ℕ → ℕ × A → Bool
comes missing it = not (mem it.0 missing)

-- the lines from that number on that aren't missing
abbrev pub arrived_from : {A : Type 0} → List ℕ → ℕ → List A → List A
arrived_from {A} missing n xs = map (λ (it : ℕ × A). it.1) (filter (comes missing) (numbered_from n xs))

-- ---- how many come

-- a number below the lines is none of them
below_lines : (low high n : ℕ) (missing : List ℕ) → are_lines low high missing ≡ true → n ≤ low → mem n missing ≡ false
below_lines low high n [] h less = refl
below_lines low high n (m ∷ ms) h less = grind (arith, nat_tests, below_lines m high n ms)

-- after the first missing number, only the other missing numbers matter
skip_first : {A : Type 0} (m : ℕ) (ms : List ℕ) (k : ℕ) (xs : List A) → m < k
    → filter (comes (m ∷ ms)) (numbered_from k xs) ≡ filter (comes ms) (numbered_from k xs)
skip_first m ms k [] less = refl
skip_first m ms k (x ∷ xs) less = let more = skip_first m ms (k + 1) xs (omega (arith, less)) in grind (arith, nat_tests, more)

-- the lines k + 1 to high are the lines that come and the lines that are missing
counted : {A : Type 0} (k high : ℕ) (missing : List ℕ) (xs : List A) → high ≡ k + length xs → are_lines k high missing ≡ true
    → length (filter (comes missing) (numbered_from (k + 1) xs)) + length missing ≡ length xs
counted k high [] [] is h = refl
counted k high (m ∷ ms) [] is h = absurd (grind (arith, nat_tests))
counted k high [] (x ∷ xs) is h = let more = counted (k + 1) high [] xs (omega (arith, is)) refl in omega (arith, more)
counted k high (m ∷ ms) (x ∷ xs) is h = elim (cases_Bool (m == k + 1)) [
  | inl first ↦
      let skip = skip_first m ms (k + 1 + 1) xs in
      let more = counted (k + 1) high ms xs (omega (arith, is)) in
      grind (arith, nat_tests, skip, more)
  | inr later ↦
      let below = below_lines m high (k + 1) ms in
      let more = counted (k + 1) high (m ∷ ms) xs (omega (arith, is)) in
      grind (arith, nat_tests, below, more)
]

pub all_counted : {A : Type 0} (missing : List ℕ) (xs : List A)
    → are_lines 0 (length xs) missing ≡ true → length (arrived missing xs) + length missing ≡ length xs
all_counted {A} missing xs h =
    ap (λ (n : ℕ). n + length missing) (length-map (filter (comes missing) (numbered xs)) (λ (it : ℕ × A). it.1))
    ∙ counted 0 (length xs) missing xs (omega arith) h
