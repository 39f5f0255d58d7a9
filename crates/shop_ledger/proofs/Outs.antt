-- In the books' own counts, the copies that are out are the copies of the open rentals.
use Rattle.shop_schema.proofs.Common.{◌≡◌, ◌∙◌, inl, inr, refl, sym, ap, subst, ℕ, ◌+◌, ◌≤◌, Bool, List, [], ◌∷◌, map, filter, length, is_none, cases_Bool}
use Rattle.shop_schema.proofs.Common.{PicksOne, Row, is_of, of, numbered, numbered_from, IsCounted, Rental, keeps_out, Books, length_map, map_map, IsHeld, Out}
use Rattle.shop_schema.proofs.Common.{is_out, is_open, out_of, counts_of, Rentals, filter_map, filter_filter, map-map, ascending-filter}
use Rattle.std.specs.Prelude.{◌==◌}
use Rattle.shop_ledger.proofs.Rising.{Rise, counted_rise, as_many_pass}
use Rattle.shop_schema.proofs.Lists.{filter_twice}

-- the numbers of the copy's open rentals
abbrev pub open_of : ℕ → List Rental → List ℕ
open_of x rentals = map (λ (it : ℕ × Rental). it.0) (filter (λ (it : ℕ × Rental). keeps_out x it.1) (numbered rentals))

-- which of two tests is first makes no difference
swapped : {A : Type 0} (p q : A → Bool) (xs : List A) → filter p (filter q xs) ≡ filter q (filter p xs)
swapped p q xs = filter_filter p q xs ∙ filter_twice p q xs

-- a branch's open rentals
own_open : (b : ℕ) (rows : List (Row Rental)) → filter (is_of b) (filter is_open rows) ≡ filter is_open (filter (is_of b) rows)
own_open b rows = swapped (is_of b) is_open rows

-- the numbers of rows that pass are the places of their items
numbers_are : (q : Rental → Bool) (k : ℕ) (own : List (Row Rental)) → IsCounted k (map (λ (row : Row Rental). row.number) own)
    → map (λ (row : Row Rental). row.number) (filter (λ row. q row.it) own)
    ≡ map (λ (it : ℕ × Rental). it.0) (filter (λ (it : ℕ × Rental). q it.1) (numbered_from k (map (λ (row : Row Rental). row.it) own)))
numbers_are q k [] counted = refl
numbers_are q k (row ∷ own) counted = elim (cases_Bool (q row.it)) [
  | inl passes ↦ rw passes (λ i. counted.0 i ∷ numbers_are q (k + 1) own counted.1 i)
  | inr fails ↦ rw fails (numbers_are q (k + 1) own counted.1)
]

-- ---- one copy

pub outs_numbered : (b x : ℕ) (books : Books) → IsHeld books
    → map (λ (it : Out). it.rental) (filter (is_out b x) (counts_of books).outs) ≡ open_of x (of b books.rentals)
outs_numbered b x books held =
    let its : Row Rental → Bool = λ row. row.it.copy == x in
    ap (map (λ (it : Out). it.rental)) (filter_map (is_out b x) out_of (filter is_open books.rentals))
    ∙ map-map (λ (it : Out). it.rental) out_of (filter (λ row. is_out b x (out_of row)) (filter is_open books.rentals))
    ∙ ap (map (λ (row : Row Rental). row.number))
    (filter_twice (is_of b) its (filter is_open books.rentals) ∙ ap (filter its) (own_open b books.rentals)
    ∙ filter_filter its is_open (filter (is_of b) books.rentals))
    ∙ numbers_are (keeps_out x) 1 (filter (is_of b) books.rentals) (held.numbers.rows Rentals b)

-- a copy is out at most once
pub picks_out : (b x : ℕ) (books : Books) → IsHeld books → PicksOne (is_out b x) (counts_of books).outs
picks_out b x books held =
    let own = of b books.rentals in
    let outs : List Out = filter (is_out b x) (counts_of books).outs in
    let opened : List (ℕ × Rental) = filter (λ (it : ℕ × Rental). keeps_out x it.1) (numbered own) in
    let many : length outs ≡ length (filter (keeps_out x) own) =
    sym (length_map (λ (it : Out). it.rental) outs) ∙ ap length (outs_numbered b x books held)
    ∙ length_map (λ (it : ℕ × Rental). it.0) opened ∙ as_many_pass (keeps_out x) 1 own in
    subst (λ (n : ℕ). n ≤ 1) (sym many) (held.out_once b x)

-- ---- all that a branch has out

pub outs_rise : (b : ℕ) (books : Books) → IsHeld books → Rise (filter (is_of b) (filter is_open books.rentals))
outs_rise b books held =
    subst Rise (sym (own_open b books.rentals))
    (ascending-filter _ is_open (filter (is_of b) books.rentals)
    (counted_rise (λ (row : Row Rental). row.number) 1 (filter (is_of b) books.rentals) (held.numbers.rows Rentals b)))

-- the copies of the open rentals
abbrev pub copies_of : List Rental → List ℕ
copies_of rentals = map (λ (it : Rental). it.copy) (filter (λ (it : Rental). is_none it.returned) rentals)

pub copies_are : (b : ℕ) (books : Books)
    → map (λ (row : Row Rental). row.it.copy) (filter (is_of b) (filter is_open books.rentals)) ≡ copies_of (of b books.rentals)
copies_are b books =
    ap (map (λ (row : Row Rental). row.it.copy)) (own_open b books.rentals)
    ∙ sym (map_map (λ (it : Rental). it.copy) (λ (row : Row Rental). row.it) (filter is_open (filter (is_of b) books.rentals)))
    ∙ ap (map (λ (it : Rental). it.copy))
    (sym (filter_map (λ (it : Rental). is_none it.returned) (λ (row : Row Rental). row.it) (filter (is_of b) books.rentals)))
