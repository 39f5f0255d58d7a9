-- Who has a copy, whether it is in stock, and the reply that shows the holder.
use Rattle.shop_schema.proofs.Common.{◌≡◌, ◌∙◌, refl, sym, ap, inl, inr, arith, ℕ, ◌+◌, ◌-◌, ◌≤◌, Bool, true, false, not, List, [], ◌∷◌, map, Option, is_some}
use Rattle.shop_schema.proofs.Common.{option_to_list, cases_Bool, nat_tests, at, Rental, keeps_out, in_stock, held_by, holder_text, head}
use Rattle.std.specs.Prelude.{◌==◌}
use Rattle.consign_finds.specs.Finds.{open_from}
use Rattle.consign_finds.proofs.Outs.{twice, out_shown}

pub none_held : (k x : ℕ) (rentals : List Rental) → [] ≡ open_from k x rentals → held_by x rentals ≡ []
none_held k x [] none = refl
none_held k x (rental ∷ rentals) none = elim (cases_Bool (keeps_out x rental)) [
  | inl is ↦ let no : [] ≡ k ∷ open_from (k + 1) x rentals = rw is at none in absurd (empty no)
  | inr isnt ↦ let more : [] ≡ open_from (k + 1) x rentals = rw isnt at none in rw isnt (none_held (k + 1) x rentals more)
]
  where
    empty : {n : ℕ} {ns : List ℕ} → ◌≡◌ {A = List ℕ} [] (n ∷ ns) → ⊥
    empty e = cc

-- the customer of the copy's only open rental
held_from : (k n x : ℕ) (rentals : List Rental) → n ∷ [] ≡ open_from k x rentals
    → (k ≤ n) × (held_by x rentals ≡ map (λ (it : Rental). it.customer) (at (n + 1 - k) rentals))
held_from k n x [] one = cc
held_from k n x (rental ∷ rentals) one = elim (cases_Bool (keeps_out x rental)) [
  | inl is ↦
      let ones : n ∷ [] ≡ k ∷ open_from (k + 1) x rentals = rw is at one in
      let number : n ≡ k = cc in
      let none : [] ≡ open_from (k + 1) x rentals = cc in
      let first : (n + 1 - k == 1) ≡ true = grind (arith, number, nat_tests) in
      (omega (arith, number), rw (is, first) (ap (λ (ns : List ℕ). rental.customer ∷ ns) (none_held (k + 1) x rentals none)))
  | inr isnt ↦
      let more : n ∷ [] ≡ open_from (k + 1) x rentals = rw isnt at one in
      let rest = held_from (k + 1) n x rentals more in
      let above : k + 1 ≤ n = rest.0 in
      let later : (n + 1 - k == 1) ≡ false = grind (arith, above, nat_tests) in
      let place : n + 1 - (k + 1) ≡ n + 1 - k - 1 = omega (arith, above) in
      (omega (arith, above), rw (isnt, later) (rest.1 ∙ ap (λ (m : ℕ). map (λ (it : Rental). it.customer) (at m rentals)) place))
]

pub held_at : (n x : ℕ) (rentals : List Rental) → n ∷ [] ≡ open_from 1 x rentals → held_by x rentals ≡ map (λ (it : Rental). it.customer) (at n rentals)
held_at n x rentals one =
    let place : n + 1 - 1 ≡ n = omega arith in (held_from 1 n x rentals one).1 ∙ ap (λ (m : ℕ). map (λ (it : Rental). it.customer) (at m rentals)) place

pub stock_of_out : (x : ℕ) (rentals : List Rental) (out : Option ℕ) (is_in : Bool)
    → is_some out ≡ not is_in → option_to_list out ≡ open_from 1 x rentals → is_in ≡ in_stock x rentals
stock_of_out x rentals out is_in none is = twice is_in ∙ ap not (sym none ∙ out_shown x rentals out is) ∙ sym (twice (in_stock x rentals))

pub first_holder : (holders : List ℕ) → holder_text (option_to_list (head holders)) ≡ holder_text holders
first_holder [] = refl
first_holder (c ∷ holders) = refl
