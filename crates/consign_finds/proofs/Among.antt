-- Lemmas about numbers among other numbers in order, and about copies that are away or out.
use Rattle.shop_schema.proofs.Common.{◌≡◌, ◌≢◌, ◌∙◌, refl, sym, ap, inl, inr, arith, ℕ, zero, suc, ◌+◌, ◌<◌, ◌≤◌, Bool, true, false, not, List, [], ◌∷◌, length}
use Rattle.shop_schema.proofs.Common.{map, filter, get_or, Result, Ok, Err, IsPermutation, None, subst, take, is_none, is_ok, MatchResult, nat_cmp, list_any}
use Rattle.shop_schema.proofs.Common.{IsBinarySearchResult, IsSortedByKey, list_any_more, IsNonDecreasingBy-from_sort, list_any-IsPermutation, searched}
use Rattle.shop_schema.proofs.Common.{cases_Bool, cases_lt, or-true, Row, is_of, is_row, lacks, mem, of, CopyState, Here, Sent, Scrapped, Copy, Rental, is_here}
use Rattle.shop_schema.proofs.Common.{in_stock, keeps_out, is_away, HasNumbers, copy_is, Books, BookCopy, shop_of, unmarked, differ_test, equal_test, row_at}
use Rattle.shop_schema.proofs.Common.{CopyRows}
use Rattle.std.specs.Prelude.{◌==◌, ◌||◌, ◌&&◌}
use Rattle.shop_ledger.proofs.Outs.{copies_of}
use Rattle.consign_finds.specs.Finds.{AreListed}
use Rattle.consign_finds.proofs.Outs.{twice}

-- ---- tests of a whole list

any_same : (p q : ℕ → Bool) (xs : List ℕ) → ((x : ℕ) → p x ≡ q x) → list_any p xs ≡ list_any q xs
any_same p q [] same = refl
any_same p q (x ∷ xs) same = λ i. same x i || any_same p q xs same i

any_or : (p q : ℕ → Bool) (xs : List ℕ) → list_any (λ x. p x || q x) xs ≡ (list_any p xs || list_any q xs)
any_or p q [] = refl
any_or p q (x ∷ xs) = go (p x) (q x) (any_or p q xs)
  where
    go : (a b : Bool) → list_any (λ x. p x || q x) xs ≡ (list_any p xs || list_any q xs)
        → ((a || b) || list_any (λ x. p x || q x) xs) ≡ ((a || list_any p xs) || (b || list_any q xs))
    go true b more = refl
    go false true more = sym (or-true (list_any p xs))
    go false false more = more

-- ---- a number among others

found_at : (x i : ℕ) (ns : List ℕ) → i < length ns → get_or ns i 0 ≡ x → mem x ns ≡ true
found_at x i [] lt is = absurd (omega (arith, lt))
found_at x zero (n ∷ ns) lt is = rw (equal_test n x is) refl
found_at x (suc i) (n ∷ ns) lt is = rw (found_at x i ns (omega (arith, lt)) is) (or-true (n == x))

found_nowhere : (x : ℕ) (ns : List ℕ) → ((k : ℕ) → k < length ns → get_or ns k 0 ≢ x) → mem x ns ≡ false
found_nowhere x [] none = refl
found_nowhere x (n ∷ ns) none = rw (differ_test n x (none 0 (omega arith)), found_nowhere x ns (λ k lt. none (suc k) (omega (arith, lt)))) refl

module _ (rising : List ℕ) (x : ℕ) where
  told_by : (r : Result ℕ ℕ)
      → MatchResult r (λ i. (i < length rising) × (get_or rising i 0 ≡ x))
      (λ i. (i ≤ length rising) × ((k : ℕ) → k < i → get_or rising k 0 < x) × ((k : ℕ) → i ≤ k → k < length rising → x < get_or rising k 0))
      → is_ok r ≡ mem x rising
  told_by (Ok i) found = sym (found_at x i rising found.0 found.1)
  told_by (Err i) none = sym (found_nowhere x rising (λ k lt is. elim (cases_lt k i) [
    | inl low ↦ let below = none.1 k low in omega (arith, below, is)
    | inr high ↦ let above = none.2 k high lt in omega (arith, above, is)
  ]))

-- the result of a search in a list that was put in order
pub told_by_search : (ns rising : List ℕ) (x : ℕ) (r : Result ℕ ℕ) → IsPermutation ns rising
    → IsSortedByKey (λ (n : ℕ). n) nat_cmp rising → IsBinarySearchResult (λ y. nat_cmp y x) rising r → is_ok r ≡ mem x ns
told_by_search ns rising x r same sorted found =
    told_by rising x r (searched rising x r found (λ i j le lt. IsNonDecreasingBy-from_sort (λ (n : ℕ). n) rising sorted i j 0 le lt))
    ∙ sym (list_any-IsPermutation (λ n. n == x) ns rising same)

-- one of some numbers is among others
pub some_among : (ns xs : List ℕ) (i x : ℕ) → i < length xs → x ≡ get_or xs i x → mem x ns ≡ true → list_any (λ y. mem y ns) xs ≡ true
some_among ns [] i x lt is hit = absurd (omega (arith, lt))
some_among ns (y ∷ ys) zero x lt is hit = let first : mem y ns ≡ true = subst (λ z. mem z ns ≡ true) is hit in rw first refl
some_among ns (y ∷ ys) (suc i) x lt is hit = rw (some_among ns ys i x (omega (arith, lt)) is hit) (or-true (mem y ns))

-- none of the numbers so far and of one number more is among the others
pub none_among : (ns xs : List ℕ) (i x : ℕ) → i < length xs → x ≡ get_or xs i x → mem x ns ≡ false
    → list_any (λ y. mem y ns) (take i xs) ≡ false → list_any (λ y. mem y ns) (take (i + 1) xs) ≡ false
none_among ns xs i x lt is miss none =
    list_any_more (λ y. mem y ns) xs i x lt ∙ (λ j. none j || mem (sym is j) ns) ∙ miss

-- ---- copies that are away

abbrev pub numbers_of : ℕ → CopyState → List (Row BookCopy) → List ℕ
numbers_of b s rows = map (λ (row : Row BookCopy). row.number) (filter (λ (row : Row BookCopy). is_of b row && copy_is row.it.state s) rows)

abbrev away_of : ℕ → ℕ → List (Row BookCopy) → Bool
away_of b x rows = list_any (λ (it : Copy). not (is_here it)) (map (λ (row : Row BookCopy). unmarked row.it) (filter (is_row b x) rows))

abbrev IsAmong : ℕ → ℕ → List (Row BookCopy) → Type 0
IsAmong b x rows = away_of b x rows ≡ (mem x (numbers_of b Sent rows) || mem x (numbers_of b Scrapped rows))

-- one row more
among_more : (b x : ℕ) (row : Row BookCopy) (rows : List (Row BookCopy)) (own its : Bool) (s : CopyState)
    → (row.branch == b) ≡ own → (row.number == x) ≡ its → row.it.state ≡ s → IsAmong b x rows → IsAmong b x (row ∷ rows)
among_more b x row rows false its s own_is its_is state_is more = rw own_is more
among_more b x row rows true false Here own_is its_is state_is more = rw (own_is, state_is, its_is) more
among_more b x row rows true false Sent own_is its_is state_is more = rw (own_is, state_is, its_is) more
among_more b x row rows true false Scrapped own_is its_is state_is more = rw (own_is, state_is, its_is) more
among_more b x row rows true true Here own_is its_is state_is more = rw (own_is, state_is, its_is) more
among_more b x row rows true true Sent own_is its_is state_is more = rw (own_is, state_is, its_is) refl
among_more b x row rows true true Scrapped own_is its_is state_is more = rw (own_is, state_is, its_is) (sym (or-true (mem x (numbers_of b Sent rows))))

among : (b x : ℕ) (rows : List (Row BookCopy)) → IsAmong b x rows
among b x [] = refl
among b x (row ∷ rows) = among_more b x row rows (row.branch == b) (row.number == x) row.it.state refl refl refl (among b x rows)

away_among : (b x : ℕ) (books : Books) → HasNumbers books
    → is_away (shop_of b books).copies x ≡ (mem x (numbers_of b Sent books.copies) || mem x (numbers_of b Scrapped books.copies))
away_among b x books numbers =
    ap (list_any (λ (it : Copy). not (is_here it))) (sym (row_at unmarked b x books.copies (numbers.rows CopyRows b))) ∙ among b x books.copies

-- ---- copies that are out

kept_out : (x : ℕ) (rentals : List Rental) → list_any (keeps_out x) rentals ≡ mem x (copies_of rentals)
kept_out x [] = refl
kept_out x (rental ∷ rentals) = elim (cases_Bool (is_none rental.returned)) [
  | inl still ↦ elim (cases_Bool (rental.copy == x)) [
    | inl its ↦ rw (still, its) refl
    | inr isnt ↦ rw (still, isnt) (kept_out x rentals)
  ]
  | inr back ↦ elim (cases_Bool (rental.copy == x)) [
    | inl its ↦ rw (back, its) (kept_out x rentals)
    | inr isnt ↦ rw (back, isnt) (kept_out x rentals)
  ]
]

out_among : (x : ℕ) (rentals : List Rental) → not (in_stock x rentals) ≡ mem x (copies_of rentals)
out_among x rentals = sym (twice (list_any (keeps_out x) rentals)) ∙ kept_out x rentals

-- ---- listed copies

-- if none of the listed copies is unknown
pub among_listed : (b : ℕ) (xs : List ℕ) (books : Books) (sent scrapped out : List ℕ) (away outs : Bool)
    → HasNumbers books → list_any (lacks (shop_of b books).copies) xs ≡ false
    → sent ≡ numbers_of b Sent books.copies → scrapped ≡ numbers_of b Scrapped books.copies → out ≡ copies_of (of b books.rentals)
    → away ≡ (list_any (λ x. mem x sent) xs || list_any (λ x. mem x scrapped) xs) → outs ≡ list_any (λ x. mem x out) xs
    → AreListed b xs (record { has_unknown = false; has_away = away; has_out = outs; lines = None }) books
among_listed b xs books sent scrapped out away outs numbers known sent_is scrapped_is out_is away_is outs_is = (
  record {
    unknown = sym known;
    away = λ _.
        away_is
        ∙ (λ i. list_any (λ x. mem x (sent_is i)) xs || list_any (λ x. mem x (scrapped_is i)) xs)
        ∙ sym (any_or (λ x. mem x (numbers_of b Sent books.copies)) (λ x. mem x (numbers_of b Scrapped books.copies)) xs)
        ∙ sym (any_same (is_away (shop_of b books).copies)
        (λ x. mem x (numbers_of b Sent books.copies) || mem x (numbers_of b Scrapped books.copies)) xs (λ x. away_among b x books numbers));
    out = λ _ _.
        outs_is
        ∙ (λ i. list_any (λ x. mem x (out_is i)) xs)
        ∙ sym (any_same (λ x. not (in_stock x (shop_of b books).rentals))
        (λ x. mem x (copies_of (of b books.rentals))) xs (λ x. out_among x (of b books.rentals)));
  },
  tt,
)
