-- If no two copies have the same key, each mark has an origin. What custody asks of each mark holds of all tests of marks.
use Rattle.shop_types.proofs.Common.{◌≡◌, ◌&&◌, ◌||◌, ◌+◌, ◌==◌, ◌≤◌, ℕ, nat_lt, List, [], ◌∷◌, ◌++◌, map, not, Bool, true, false, cond, refl, sym, ap, ◌∙◌}
use Rattle.shop_types.proofs.Common.{arith, true≢false, IsPermutation, list_any, list_all, bytes_eq, IsPermutation-map, IsPermutation-append, Row, Here}
use Rattle.shop_types.proofs.Common.{Scrapped, BookCopy, Mark, Line, UnderWay, Missing, are_different, one, is_mark, is_origin, copy_is, line_is, rows_made}
use Rattle.shop_types.proofs.Common.{is_made_as}
use Rattle.audit_rows.specs.Lists.{count, climbs}
use Rattle.audit_rows.specs.Canons.{row_key}
use Rattle.audit_rows.specs.Marked.{Marked, AreInCustody, marked, marked_row, marked_line, places_in}
use Rattle.audit_rows.proofs.Keys.{both, different-map, different_from_climbs}
use Rattle.audit_rows.proofs.Maps.{all-map}
use Rattle.audit_rows.proofs.Tests.{all_congr, any_congr, different_congr}
use Rattle.audit_rows.proofs.Transfer.{all_along, total_along}
use Rattle.audit_rows.proofs.MarkLemmas.{Looked, all_from, all_both, all_append, some_counted, both_found, not_true, same_marks, mark_itself, mark_test}
use Rattle.audit_rows.proofs.MarkLemmas.{made_of, placed_of, lines_of, count_made, count_places, looked_of_asked, is_asked, within_all, one_some}

-- ---- if one list has each mark once, and another list has all its marks, the first list has no more of any mark

none_all : {X : Type 0} (p : X → Bool) (xs : List X) → list_any p xs ≡ false → list_all (λ x. not (p x)) xs ≡ true
none_all p [] h = refl
none_all p (x ∷ xs) h = go (p x) h (none_all p xs)
  where
    go : (t : Bool) → (t || list_any p xs) ≡ false → (list_any p xs ≡ false → list_all (λ y. not (p y)) xs ≡ true)
        → (not t && list_all (λ y. not (p y)) xs) ≡ true
    go true h more = absurd (true≢false h)
    go false h more = more h

module _ {Y : Type 0} (mark : Y → Mark) where
  without : Mark → List Y → List Y
  without m [] = []
  without m (y ∷ ys) = cond (is_mark m (mark y)) ys (y ∷ without m ys)

  abbrev has : Mark → List Y → Bool
  has m ys = list_any (λ y. is_mark m (mark y)) ys

  one_less : (test : Mark → Bool) (m : Mark) (ys : List Y) → has m ys ≡ true
      → count (λ y. test (mark y)) ys ≡ one (test m) + count (λ y. test (mark y)) (without m ys)
  unfolding without
  one_less test m [] h = absurd (true≢false (sym h))
  one_less test m (y ∷ ys) h = go (is_mark m (mark y)) refl h (one_less test m ys)
    where
      go : (t : Bool) → is_mark m (mark y) ≡ t → (t || has m ys) ≡ true
          → (has m ys ≡ true → count (λ z. test (mark z)) ys ≡ one (test m) + count (λ z. test (mark z)) (without m ys))
          → one (test (mark y)) + count (λ z. test (mark z)) ys ≡ one (test m) + count (λ z. test (mark z)) (cond t ys (y ∷ without m ys))
      go true e h more = ap (λ n. one (test n) + count (λ z. test (mark z)) ys) (same_marks m (mark y) e)
      go false e h more = let is = more h in omega (arith, is)

  still_has : (m n : Mark) → is_mark m n ≡ false → (ys : List Y) → has n ys ≡ true → has n (without m ys) ≡ true
  unfolding without
  still_has m n apart [] h = absurd (true≢false (sym h))
  still_has m n apart (y ∷ ys) h = go (is_mark m (mark y)) (is_mark n (mark y)) refl refl h (still_has m n apart ys)
    where
      clash : is_mark m (mark y) ≡ true → is_mark n (mark y) ≡ true → true ≡ false
      clash e f = sym (mark_itself m) ∙ ap (is_mark m) (sym (same_marks m (mark y) e) ∙ same_marks n (mark y) f) ∙ apart

      go : (s t : Bool) → is_mark m (mark y) ≡ s → is_mark n (mark y) ≡ t → (t || has n ys) ≡ true
          → (has n ys ≡ true → has n (without m ys) ≡ true) → has n (cond s ys (y ∷ without m ys)) ≡ true
      go true true e f h more = absurd (true≢false (clash e f))
      go true false e f h more = h
      go false true e f h more = ap (λ b. b || has n (without m ys)) f
      go false false e f h more = ap (λ b. b || has n (without m ys)) f ∙ more h

module _ {X Y : Type 0} (first : X → Mark) (second : Y → Mark) (test : Mark → Bool) where
  no_more : (xs : List X) (ys : List Y) → are_different (λ a b. is_mark (first a) (first b)) xs ≡ true → list_all (λ x. has second (first x) ys) xs ≡ true
      → count (λ x. test (first x)) xs ≤ count (λ y. test (second y)) ys
  no_more [] ys d h = omega arith
  no_more (x ∷ xs) ys d h =
      let apart = both (not (list_any (λ b. is_mark (first x) (first b)) xs)) (are_different (λ a b. is_mark (first a) (first b)) xs) d in
      let there = both (has second (first x) ys) (list_all (λ b. has second (first b) ys) xs) h in
      let others = none_all (λ b. is_mark (first x) (first b)) xs (not_true _ apart.0) in
      let left : list_all (λ b. has second (first b) (without second (first x) ys)) xs ≡ true =
      all_from _ _ xs (all_both _ _ xs there.1 others) (λ b e. step b (both (has second (first b) ys) (not (is_mark (first x) (first b))) e)) in
      let more = no_more xs (without second (first x) ys) apart.1 left in
      let is = one_less second test (first x) ys there.0 in
      omega (arith, more, is)
    where
      step : (b : X) → (has second (first b) ys ≡ true) × (not (is_mark (first x) (first b)) ≡ true) → has second (first b) (without second (first x) ys) ≡ true
      step b e = still_has second (first x) (first b) (not_true _ e.1) ys e.0

-- ---- no mark is made twice

abbrev own : Row BookCopy → Mark
own row = record { branch = row.branch; copy = row.number }

origin_own : (row : Row BookCopy) → is_origin row ≡ true → row.it.mark ≡ own row
origin_own row h = same_marks (own row) row.it.mark h

not_made : (m : Mark) (rows : List (Row BookCopy)) → list_any (λ row. is_mark m (own row)) rows ≡ false → list_any (is_mark m) (made_of rows) ≡ false
unfolding made_of
not_made m [] h = refl
not_made m (row ∷ rows) h = go (is_origin row) (is_mark m (own row)) refl refl h (not_made m rows)
  where
    go : (s t : Bool) → is_origin row ≡ s → is_mark m (own row) ≡ t → (t || list_any (λ it. is_mark m (own it)) rows) ≡ false
        → (list_any (λ it. is_mark m (own it)) rows ≡ false → list_any (is_mark m) (made_of rows) ≡ false)
        → list_any (is_mark m) (cond s (row.it.mark ∷ made_of rows) (made_of rows)) ≡ false
    go s true e f h more = absurd (true≢false h)
    go true false e f h more = (λ i. (ap (is_mark m) (origin_own row e) ∙ f) i || more h i)
    go false false e f h more = more h

made_once : (rows : List (Row BookCopy)) → are_different (λ a b. is_mark (own a) (own b)) rows ≡ true → are_different is_mark (made_of rows) ≡ true
unfolding made_of
made_once [] h = refl
made_once (row ∷ rows) h =
    go (is_origin row) refl
    (both (not (list_any (λ b. is_mark (own row) (own b)) rows)) (are_different (λ a b. is_mark (own a) (own b)) rows) h) (made_once rows)
  where
    go : (t : Bool) → is_origin row ≡ t
        → (not (list_any (λ b. is_mark (own row) (own b)) rows) ≡ true) × (are_different (λ a b. is_mark (own a) (own b)) rows ≡ true)
        → (are_different (λ a b. is_mark (own a) (own b)) rows ≡ true → are_different is_mark (made_of rows) ≡ true)
        → are_different is_mark (cond t (row.it.mark ∷ made_of rows) (made_of rows)) ≡ true
    go true e h more =
        let none : list_any (is_mark row.it.mark) (made_of rows) ≡ false =
        ap (λ m. list_any (is_mark m) (made_of rows)) (origin_own row e) ∙ not_made (own row) rows (not_true _ h.0) in
        (λ i. not (none i) && more h.1 i)
    go false e h more = more h.1

made_within : (p : Mark → Bool) (rows : List (Row BookCopy))
    → list_all (λ (it : Marked). p it.1) (map marked_row rows) ≡ true → list_all p (made_of rows) ≡ true
unfolding made_of
made_within p [] h = refl
made_within p (row ∷ rows) h = go (is_origin row) (both (p row.it.mark) (list_all (λ (it : Marked). p it.1) (map marked_row rows)) h) (made_within p rows)
  where
    go : (t : Bool) → (p row.it.mark ≡ true) × (list_all (λ (it : Marked). p it.1) (map marked_row rows) ≡ true)
        → (list_all (λ (it : Marked). p it.1) (map marked_row rows) ≡ true → list_all p (made_of rows) ≡ true)
        → list_all p (cond t (row.it.mark ∷ made_of rows) (made_of rows)) ≡ true
    go true h more = λ i. h.0 i && more h.1 i
    go false h more = more h.1

-- ---- origins

regroup : (o s t f : Bool) → ((o && (s && t)) && f) ≡ (((o && f) && s) && t)
regroup false s t f = refl
regroup true true true true = refl
regroup true true true false = refl
regroup true true false true = refl
regroup true true false false = refl
regroup true false t true = refl
regroup true false t false = refl

weaker : (o s f : Bool) → (not s || f) ≡ true → (not (o && s) || f) ≡ true
weaker true s f h = h
weaker false s f h = refl

has_origin : (film : ℕ) (m : Mark) (rows : List (Row BookCopy)) → nat_lt 0 (rows_made (is_mark m) rows) ≡ true
    → list_all (λ (row : Row BookCopy). not (is_mark m row.it.mark) || row.it.film == film) rows ≡ true → is_made_as rows film m ≡ true
has_origin film m rows a b =
    sym
    (any_congr _ _ (λ (row : Row BookCopy). regroup (is_origin row) (row.it.mark.branch == m.branch) (row.it.mark.copy == m.copy) (row.it.film == film)) rows)
    ∙ both_found (λ (row : Row BookCopy). is_origin row && is_mark m row.it.mark) (λ (row : Row BookCopy). row.it.film == film) rows (some_counted _ rows ∙ a)
    (all_from _ _ rows b (λ row e. weaker (is_origin row) (is_mark m row.it.mark) (row.it.film == film) e))

-- ---- all of it

module _ (copies : List (Row BookCopy)) (lines : List Line) (up : climbs (map row_key copies) ≡ true) (a : AreInCustody copies lines) where
  apart : are_different is_mark (made_of copies) ≡ true
  apart =
      made_once copies
      (sym (different_congr (λ (x y : Row BookCopy). bytes_eq (row_key x) (row_key y))
      (λ (x y : Row BookCopy). is_mark (own x) (own y)) (λ x y. mark_test (own x) (own y)) copies)
      ∙ sym (different-map bytes_eq row_key copies) ∙ different_from_climbs (map row_key copies) up)

  abbrev places : List Marked
  places = placed_of copies ++ lines_of lines

  looked : Looked (made_of copies) places (marked copies lines) (within_all copies lines)
  looked = looked_of_asked (made_of copies) places (marked copies lines) (within_all copies lines) (is_asked copies lines a)

  all_placed : list_all (λ (it : Marked). has (λ (q : Marked). q.1) it.1 places) (marked copies lines) ≡ true
  all_placed =
      all_from _ _ (marked copies lines) (is_asked copies lines a).place (λ it e. some_counted (λ (q : Marked). is_mark it.1 q.1) places ∙ one_some _ e)

  made_placed : list_all (λ m. has (λ (q : Marked). q.1) m places) (made_of copies) ≡ true
  made_placed =
      made_within (λ (m : Mark). has (λ (q : Marked). q.1) m places) copies
      (both (list_all (λ (it : Marked). has (λ (q : Marked). q.1) it.1 places) (map marked_row copies))
      (list_all (λ (it : Marked). has (λ (q : Marked). q.1) it.1 places) (map marked_line lines))
      (sym (all_append _ (map marked_row copies) (map marked_line lines)) ∙ all_placed)).0

  -- what was made is what has a place, whatever marks are asked of
  pub custody_of_all : (test : Mark → Bool) → rows_made test copies ≡ places_in test copies lines
  custody_of_all test =
      let below = no_more (λ (m : Mark). m) (λ (q : Marked). q.1) test (made_of copies) places apart made_placed in
      let above = no_more (λ (q : Marked). q.1) (λ (m : Mark). m) test places (made_of copies) looked.apart looked.single in
      let made = count_made test copies in
      let placed = count_places test copies lines in
      omega (arith, below, above, made, placed)

  origin : (it : Marked)
      → (nat_lt 0 (rows_made (is_mark it.1) copies) ≡ true)
      × (list_all (λ (other : Marked). not (is_mark it.1 other.1) || other.0 == it.0) (marked copies lines) ≡ true)
      → is_made_as copies it.0 it.1 ≡ true
  origin it h =
      let parts =
      both (list_all (λ (other : Marked). not (is_mark it.1 other.1) || other.0 == it.0) (map marked_row copies))
      (list_all (λ (other : Marked). not (is_mark it.1 other.1) || other.0 == it.0) (map marked_line lines))
      (sym (all_append _ (map marked_row copies) (map marked_line lines)) ∙ h.1) in
      has_origin it.0 it.1 copies h.0 (sym (all-map (λ (other : Marked). not (is_mark it.1 other.1) || other.0 == it.0) marked_row copies) ∙ parts.0)

  origins : list_all (λ (it : Marked). is_made_as copies it.0 it.1) (marked copies lines) ≡ true
  origins = all_from _ _ (marked copies lines) (all_both _ _ (marked copies lines) a.is_made a.film)
      (λ it e.
      origin it
      (both (nat_lt 0 (rows_made (is_mark it.1) copies))
      (list_all (λ (other : Marked). not (is_mark it.1 other.1) || other.0 == it.0) (marked copies lines)) e))

  split_origins : (list_all (λ (it : Marked). is_made_as copies it.0 it.1) (map marked_row copies) ≡ true)
      × (list_all (λ (it : Marked). is_made_as copies it.0 it.1) (map marked_line lines) ≡ true)
  split_origins =
      both (list_all (λ (it : Marked). is_made_as copies it.0 it.1) (map marked_row copies))
      (list_all (λ (it : Marked). is_made_as copies it.0 it.1) (map marked_line lines))
      (sym (all_append (λ (it : Marked). is_made_as copies it.0 it.1) (map marked_row copies) (map marked_line lines)) ∙ origins)

  pub origins_of_rows : list_all (λ (row : Row BookCopy). is_made_as copies row.it.film row.it.mark) copies ≡ true
  origins_of_rows = sym (all-map (λ (it : Marked). is_made_as copies it.0 it.1) marked_row copies) ∙ split_origins.0

  pub origins_of_lines : list_all (λ (line : Line). is_made_as copies line.film line.mark) lines ≡ true
  origins_of_lines = sym (all-map (λ (it : Marked). is_made_as copies it.0 it.1) marked_line lines) ∙ split_origins.1

-- ---- custody doesn't depend on the order of rows

module _ (copies others : List (Row BookCopy)) (lines rest : List Line) (p : IsPermutation copies others) (q : IsPermutation lines rest) where
  all_marked : IsPermutation (marked copies lines) (marked others rest)
  all_marked = IsPermutation-append _ _ _ _ (IsPermutation-map marked_row copies others p) (IsPermutation-map marked_line lines rest q)

  made_same : (test : Mark → Bool) → rows_made test copies ≡ rows_made test others
  made_same test = total_along (λ (row : Row BookCopy). one (is_origin row && test row.it.mark)) copies others p

  places_same : (test : Mark → Bool) → places_in test copies lines ≡ places_in test others rest
  places_same test = λ i.
      total_along (λ (row : Row BookCopy). one (copy_is row.it.state Here && test row.it.mark)) copies others p i
      + total_along (λ (line : Line). one (line_is line.state UnderWay && test line.mark)) lines rest q i
      + (total_along (λ (row : Row BookCopy). one (copy_is row.it.state Scrapped && test row.it.mark)) copies others p i
      + total_along (λ (line : Line). one (line_is line.state Missing && test line.mark)) lines rest q i)

  moved : (f g : Marked → Bool) → ((it : Marked) → f it ≡ g it) → list_all f (marked copies lines) ≡ list_all g (marked others rest)
  moved f g h = all_congr f g h (marked copies lines) ∙ all_along g _ _ all_marked

  pub custody_moved : AreInCustody copies lines → AreInCustody others rest
  custody_moved a = record {
    is_made = sym (moved _ _ (λ it. ap (nat_lt 0) (made_same (is_mark it.1)))) ∙ a.is_made;
    place = sym (moved _ _ (λ it. ap (λ n. n == 1) (places_same (is_mark it.1)))) ∙ a.place;
    film = sym (moved _ _ (λ it. all_along (λ (other : Marked). not (is_mark it.1 other.1) || other.0 == it.0) _ _ all_marked)) ∙ a.film;
  }
