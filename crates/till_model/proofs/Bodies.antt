-- The rental can be read from the body of the reply to an accepted rent.
use Rattle.shop_types.proofs.Common.{rules, ◌≡◌, ◌≢◌, ◌∙◌, ◌+◌, ◌-◌, ◌<◌, ◌≤◌, ◌^◌, ℕ, suc, Bool, true, false, List, [], ◌∷◌, ◌++◌, length, take, get_or}
use Rattle.shop_types.proofs.Common.{Option, Some, None, refl, sym, ap, subst, arith, slice_range, option_and_then, if◌then◌else◌, list_all, is_ascii_digit}
use Rattle.shop_types.proofs.Common.{bytes_eq, digits_value, take-append_seam, leb-true, le-leb, nat_tests, IsNumeralModel, numerals_by_value, digits_decimal}
use Rattle.shop_types.proofs.Common.{digits_value-decimal, decimal_nonempty, length-decimal-le, first_decimal, bytes_eq-Decides, is_row_number, is_plain_number}
use Rattle.shop_types.proofs.Common.{row_number_of, Answer, accepted_answer, differ_test}
use Rattle.std.specs.Prelude.{codes, decimal, nat_le, nat_lt, ◌==◌, ◌&&◌}
use Rattle.std.proofs.lemmas.List.{length-append}
use Rattle.shop_model.specs.Json.{escape_byte}
use Rattle.till_model.specs.Register.{rental_body, rental_in, rental_told}

own : IsNumeralModel (λ ds. list_all is_ascii_digit ds ≡ true) (digits_value 10)
own = numerals_by_value _ (search rules)

both : (a b : Bool) → (a && b) ≡ true → (a ≡ true) × (b ≡ true)
both true b e = (refl, e)
both false b e = let no : false ≡ true = e in cc

bounds : (n : ℕ) → is_row_number n ≡ true → (1 ≤ n) × (n < 2 ^ 32)
bounds n row = let it = both (nat_le 1 n) (nat_lt n (2 ^ 32)) row in (leb-true 1 n it.0, leb-true (suc n) (2 ^ 32) it.1)

-- digits are read back
plain : (ds : List ℕ) (n : ℕ) → 1 ≤ length ds → length ds ≤ 10 → list_all is_ascii_digit ds ≡ true
    → get_or ds 0 0 ≢ 48 → digits_value 10 ds ≡ n → is_row_number n ≡ true → row_number_of ds ≡ Some n
plain ds n some few digits first value row =
    let a : nat_le 1 (length ds) ≡ true = le-leb 1 (length ds) some in
    let b : nat_le (length ds) 10 ≡ true = le-leb (length ds) 10 few in
    let d : (get_or ds 0 0 == 48) ≡ false = differ_test (get_or ds 0 0) 48 first in
    rw (a, b, digits, d, value, row) refl

reads_decimal : (n : ℕ) → is_row_number n ≡ true → row_number_of (decimal n) ≡ Some n
reads_decimal n row =
    let it = bounds n row in
    let small : n < 2 ^ 64 = omega (arith, it.1) in
    let first = first_decimal n (omega (arith, it.0)) small in
    plain (decimal n) n (omega (arith, decimal_nonempty n small))
    (length-decimal-le 10 n (omega arith) (omega (arith, it.1)) small) (digits_decimal own n small) (λ is. omega (arith, first, is))
    (digits_value-decimal own n small) row

-- ---- bodies

abbrev begun : List ℕ
begun = codes "{\"rental\":"

body_is : (n : ℕ) → rental_body n ≡ begun ++ (decimal n ++ 125 ∷ [])
unfolding escape_byte
body_is n = refl

digits_of_body : (ds : List ℕ) → slice_range (begun ++ (ds ++ 125 ∷ [])) 10 (length (begun ++ (ds ++ 125 ∷ [])) - 1) ≡ ds
digits_of_body ds =
    let long : length (ds ++ 125 ∷ []) ≡ length ds + 1 = length-append ds (125 ∷ []) in
    let size : length (begun ++ (ds ++ 125 ∷ [])) - 1 - 10 ≡ length ds = omega (arith, long) in
    ap (λ k. take k (ds ++ 125 ∷ [])) size ∙ take-append_seam ds (125 ∷ [])

same_bytes : (xs : List ℕ) → bytes_eq xs xs ≡ true
same_bytes xs = grind (arith, bytes_eq-Decides xs xs)

-- the rental of such a body is read from it
in_body : (n : ℕ) → is_row_number n ≡ true → rental_in (rental_body n) ≡ Some n
in_body n row =
    let digits : slice_range (rental_body n) 10 (length (rental_body n) - 1) ≡ decimal n =
    ap (λ (body : List ℕ). slice_range body 10 (length body - 1)) (body_is n) ∙ digits_of_body (decimal n) in
    rw (digits, reads_decimal n row, same_bytes (rental_body n)) refl

pub told_back : (n : ℕ) → is_row_number n ≡ true → rental_told (accepted_answer (rental_body n)) ≡ Some n
told_back n row =
    let it = bounds n row in
    let some = decimal_nonempty n (omega (arith, it.1)) in
    let long : length (decimal n ++ 125 ∷ []) ≡ length (decimal n) + 1 = length-append (decimal n) (125 ∷ []) in
    let size = ap (λ (body : List ℕ). length body) (body_is n) in
    let wide : nat_le 12 (length (rental_body n)) ≡ true = le-leb 12 (length (rental_body n)) (omega (arith, size, long, some)) in
    rw wide (in_body n row)

-- ---- a text from which a rental is read is such a body

pub equal_numbers : (a b : ℕ) → (a == b) ≡ true → a ≡ b
equal_numbers a b e = grind (arith, nat_tests)

row_is : (b : Bool) (value n : ℕ) → (if b && is_row_number value then Some value else None) ≡ Some n → is_row_number n ≡ true
row_is false value n e = let no : ◌≡◌ {A = Option ℕ} None (Some n) = e in cc
row_is true value n e = go (is_row_number value) refl e
  where
    go : (row : Bool) → is_row_number value ≡ row → (if row then Some value else None) ≡ Some n → is_row_number n ≡ true
    go false is e = let no : ◌≡◌ {A = Option ℕ} None (Some n) = e in cc
    go true is e = let same : value ≡ n = cc in subst (λ m. is_row_number m ≡ true) same is

abbrev digits_in : List ℕ → List ℕ
digits_in body = slice_range body 10 (length body - 1)

in_is : (body : List ℕ) (n : ℕ) → rental_in body ≡ Some n → (is_row_number n ≡ true) × (body ≡ rental_body n)
in_is body n told = go (row_number_of (digits_in body)) refl told
  where
    same : (m : ℕ) (is : Bool) → bytes_eq (rental_body m) body ≡ is → (if is then Some m else None) ≡ Some n → (m ≡ n) × (body ≡ rental_body n)
    same m false is e = let no : ◌≡◌ {A = Option ℕ} None (Some n) = e in cc
    same m true is e =
        let one : m ≡ n = cc in
        let equal : rental_body m ≡ body = grind (arith, bytes_eq-Decides (rental_body m) body) in
        (one, sym equal ∙ ap rental_body one)

    go : (found : Option ℕ) → row_number_of (digits_in body) ≡ found
        → option_and_then (λ m. if bytes_eq (rental_body m) body then Some m else None) found ≡ Some n
        → (is_row_number n ≡ true) × (body ≡ rental_body n)
    go None is e = let no : ◌≡◌ {A = Option ℕ} None (Some n) = e in cc
    go (Some m) is e =
        let it = same m (bytes_eq (rental_body m) body) refl e in
        (row_is (is_plain_number (digits_in body)) (digits_value 10 (digits_in body)) n (is ∙ ap (λ k. Some k) it.0), it.1)

pub told_is : (answer : Answer) (n : ℕ) → rental_told answer ≡ Some n → (is_row_number n ≡ true) × (answer ≡ accepted_answer (rental_body n))
told_is answer n told = go (answer.status == 200) (nat_le 12 (length answer.body)) refl told
  where
    go : (done long : Bool) → (answer.status == 200) ≡ done → (if done && long then rental_in answer.body else None) ≡ Some n
        → (is_row_number n ≡ true) × (answer ≡ accepted_answer (rental_body n))
    go false long is e = let no : ◌≡◌ {A = Option ℕ} None (Some n) = e in cc
    go true false is e = let no : ◌≡◌ {A = Option ℕ} None (Some n) = e in cc
    go true true is e =
        let it = in_is answer.body n e in
        let status : answer.status ≡ 200 = equal_numbers answer.status 200 is in
        (it.0, λ i. record { status = status i; body = it.1 i })
