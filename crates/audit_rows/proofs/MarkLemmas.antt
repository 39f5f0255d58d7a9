-- Marks as keys: searching for keys answers what custody asks of marks.
use Rattle.shop_types.proofs.Common.{◌≡◌, ◌&&◌, ◌||◌, ◌+◌, ◌==◌, ℕ, nat_lt, nat_le, List, [], ◌∷◌, ◌++◌, map, not, Bool, true, false, cond, refl, sym, ap}
use Rattle.shop_types.proofs.Common.{subst, ◌∙◌, arith, true≢false, IsPermutation, bytes_eq, list_any, list_all, nat_eq_equiv, nat_tests}
use Rattle.shop_types.proofs.Common.{list_any-IsPermutation, IsPermutation-map, Row, CopyState, Here, Sent, Scrapped, BookCopy, Mark, Line, LineState, UnderWay}
use Rattle.shop_types.proofs.Common.{Arrived, Missing, are_different, one, is_mark, is_origin, rows_made, rows_in, lines_in, copy_is, line_is}
use Rattle.sqlite_keyed.proofs.ListLemmas.{map-map}
use Rattle.audit_rows.specs.Lists.{Key, count}
use Rattle.audit_rows.specs.Marked.{mark_key, film_key, made_keys, is_copy_placed, is_line_placed, Marked, AreInCustody, marked, marked_row, marked_line}
use Rattle.audit_rows.specs.Marked.{places_in, rows_placed, lines_placed, places_are_single}
use Rattle.audit_rows.proofs.Keys.{both, any-map, different-map}
use Rattle.audit_rows.proofs.Maps.{all-map}
use Rattle.audit_rows.proofs.Tests.{all_congr, any_congr, different_congr, all_and}

-- ---- tests of lists

any_where : {X : Type 0} {P : Type 0} (p r : X → Bool) (xs : List X) → list_any p xs ≡ true → list_all r xs ≡ true → ((x : X) → p x ≡ true → r x ≡ true → P) → P
any_where p r [] a b f = absurd (true≢false (sym a))
any_where {X} {P} p r (x ∷ xs) a b f = go (any_where p r xs) (p x) refl a
  where
    go : (list_any p xs ≡ true → list_all r xs ≡ true → ((x : X) → p x ≡ true → r x ≡ true → P) → P) → (t : Bool) → p x ≡ t → (t || list_any p xs) ≡ true → P
    go more true e h = f x e (both (r x) (list_all r xs) b).0
    go more false e h = more h (both (r x) (list_all r xs) b).1 f

pub all_from : {X : Type 0} (p q : X → Bool) (xs : List X) → list_all p xs ≡ true → ((x : X) → p x ≡ true → q x ≡ true) → list_all q xs ≡ true
all_from p q [] a f = refl
all_from p q (x ∷ xs) a f = let h = both (p x) (list_all p xs) a in (λ i. f x h.0 i && all_from p q xs h.1 f i)

pub all_both : {X : Type 0} (p q : X → Bool) (xs : List X) → list_all p xs ≡ true → list_all q xs ≡ true → list_all (λ x. p x && q x) xs ≡ true
all_both p q xs a b = all_and p q xs ∙ (λ i. a i && b i)

pub all_append : {X : Type 0} (p : X → Bool) (xs ys : List X) → list_all p (xs ++ ys) ≡ (list_all p xs && list_all p ys)
all_append p [] ys = refl
all_append p (x ∷ xs) ys = ap (λ b. p x && b) (all_append p xs ys) ∙ again (p x) (list_all p xs) (list_all p ys)
  where
    again : (a b c : Bool) → (a && (b && c)) ≡ ((a && b) && c)
    again true b c = refl
    again false b c = refl

count_append : {X : Type 0} (test : X → Bool) (xs ys : List X) → count test (xs ++ ys) ≡ count test xs + count test ys
count_append test [] ys = omega arith
count_append test (x ∷ xs) ys = let more = count_append test xs ys in omega (arith, more)

pub one_some : (n : ℕ) → (n == 1) ≡ true → nat_lt 0 n ≡ true
one_some n h = grind (arith, nat_tests)

pub some_counted : {X : Type 0} (p : X → Bool) (xs : List X) → list_any p xs ≡ nat_lt 0 (count p xs)
some_counted p [] = refl
some_counted p (x ∷ xs) = go (p x) (some_counted p xs)
  where
    go : (t : Bool) → list_any p xs ≡ nat_lt 0 (count p xs) → (t || list_any p xs) ≡ nat_lt 0 (one t + count p xs)
    go true more = grind (arith, nat_tests)
    go false more = let same : count p xs ≡ one false + count p xs = omega arith in more ∙ ap (nat_lt 0) same

none_counted : {X : Type 0} (p : X → Bool) (xs : List X) → list_any p xs ≡ false → count p xs ≡ 0
none_counted p xs h = let e : nat_lt 0 (count p xs) ≡ false = sym (some_counted p xs) ∙ h in grind (arith, nat_tests)

pub both_found : {X : Type 0} (p r : X → Bool) (xs : List X) → list_any p xs ≡ true
    → list_all (λ x. not (p x) || r x) xs ≡ true → list_any (λ x. p x && r x) xs ≡ true
both_found p r [] a b = absurd (true≢false (sym a))
both_found p r (x ∷ xs) a b = go (p x) (r x) a (both (not (p x) || r x) (list_all (λ y. not (p y) || r y) xs) b) (both_found p r xs)
  where
    go : (s t : Bool) → (s || list_any p xs) ≡ true → ((not s || t) ≡ true) × (list_all (λ y. not (p y) || r y) xs ≡ true)
        → (list_any p xs ≡ true → list_all (λ y. not (p y) || r y) xs ≡ true → list_any (λ y. p y && r y) xs ≡ true)
        → ((s && t) || list_any (λ y. p y && r y) xs) ≡ true
    go true true a b more = refl
    go true false a b more = absurd (true≢false (sym b.0))
    go false t a b more = more a b.1

none_with : {X : Type 0} (p r : X → Bool) (xs : List X) → list_any p xs ≡ false → list_any (λ x. p x && r x) xs ≡ false
none_with p r [] h = refl
none_with p r (x ∷ xs) h = go (p x) h (none_with p r xs)
  where
    go : (t : Bool) → (t || list_any p xs) ≡ false → (list_any p xs ≡ false → list_any (λ y. p y && r y) xs ≡ false)
        → ((t && r x) || list_any (λ y. p y && r y) xs) ≡ false
    go true e more = absurd (true≢false e)
    go false e more = more e

-- ---- marks

pub same_marks : (m n : Mark) → is_mark m n ≡ true → n ≡ m
same_marks m n h =
    let parts = both (n.branch == m.branch) (n.copy == m.copy) h in
    let first = parts.0 in
    let second = parts.1 in
    let branch : n.branch ≡ m.branch = grind (arith, nat_tests) in
    let copy : n.copy ≡ m.copy = grind (arith, nat_tests) in
    (λ i. record { branch = branch i; copy = copy i })

pub mark_itself : (m : Mark) → is_mark m m ≡ true
mark_itself m =
    let a : (m.branch == m.branch) ≡ true = grind (arith, nat_tests) in let b : (m.copy == m.copy) ≡ true = grind (arith, nat_tests) in (λ i. a i && b i)

abbrev same : Marked → Marked → Bool
same a b = is_mark a.1 b.1

module _ (it q : Marked) (e : is_mark it.1 q.1 ≡ true) where
  none_left : (qs : List Marked) → list_any (same q) qs ≡ false → list_any (same it) qs ≡ false
  none_left qs h = subst (λ m. list_any (λ (x : Marked). is_mark m x.1) qs ≡ false) (same_marks it.1 q.1 e) h

pub not_true : (b : Bool) → not b ≡ true → b ≡ false
not_true true h = absurd (true≢false (sym h))
not_true false h = refl

count_one : (it : Marked) (qs : List Marked) → are_different same qs ≡ true → list_any (same it) qs ≡ true → count (same it) qs ≡ 1
count_one it [] d a = absurd (true≢false (sym a))
count_one it (q ∷ qs) d a = go (is_mark it.1 q.1) refl a (both (not (list_any (same q) qs)) (are_different same qs) d) (count_one it qs)
  where
    go : (t : Bool) → is_mark it.1 q.1 ≡ t → (t || list_any (same it) qs) ≡ true → (not (list_any (same q) qs) ≡ true) × (are_different same qs ≡ true)
        → (are_different same qs ≡ true → list_any (same it) qs ≡ true → count (same it) qs ≡ 1) → one t + count (same it) qs ≡ 1
    go true e a d more = let none = none_counted (same it) qs (none_left it q e qs (not_true _ d.0)) in omega (arith, none)
    go false e a d more = let is = more d.1 a in omega (arith, is)

abbrev with_film : Mark → ℕ → Marked → Bool
with_film m film q = is_mark m q.1 && q.0 == film

one_film : (it : Marked) (a b : ℕ) (qs : List Marked) → are_different same qs ≡ true
    → list_any (with_film it.1 a) qs ≡ true → list_any (with_film it.1 b) qs ≡ true → a ≡ b
one_film it a b [] d f g = absurd (true≢false (sym f))
one_film it a b (q ∷ qs) d f g = go (is_mark it.1 q.1) refl f g (both (not (list_any (same q) qs)) (are_different same qs) d) (one_film it a b qs)
  where
    only : (c : ℕ) → list_any (same it) qs ≡ false → ((q.0 == c) || list_any (with_film it.1 c) qs) ≡ true → q.0 ≡ c
    only c none h =
        let rest : list_any (with_film it.1 c) qs ≡ false = none_with (same it) (λ (x : Marked). x.0 == c) qs none in
        let is : ((q.0 == c) || false) ≡ true = ap (λ t. (q.0 == c) || t) (sym rest) ∙ h in
        first (q.0 == c) refl is
      where
        first : (t : Bool) → (q.0 == c) ≡ t → (t || false) ≡ true → q.0 ≡ c
        first true e h = grind (arith, nat_tests)
        first false e h = absurd (true≢false (sym h))

    go : (t : Bool) → is_mark it.1 q.1 ≡ t → ((t && q.0 == a) || list_any (with_film it.1 a) qs) ≡ true
        → ((t && q.0 == b) || list_any (with_film it.1 b) qs) ≡ true
        → (not (list_any (same q) qs) ≡ true) × (are_different same qs ≡ true)
        → (are_different same qs ≡ true → list_any (with_film it.1 a) qs ≡ true → list_any (with_film it.1 b) qs ≡ true → a ≡ b) → a ≡ b
    go true e f g d more = let none = none_left it q e qs (not_true _ d.0) in sym (only a none f) ∙ only b none g
    go false e f g d more = more d.1 f g

found_mark : (m : Mark) (film : ℕ) (qs : List Marked) → list_any (with_film m film) qs ≡ true → list_any (λ (q : Marked). is_mark m q.1) qs ≡ true
found_mark m film [] h = absurd (true≢false (sym h))
found_mark m film (q ∷ qs) h = go (is_mark m q.1) (q.0 == film) h (found_mark m film qs)
  where
    go : (s t : Bool) → ((s && t) || list_any (with_film m film) qs) ≡ true
        → (list_any (with_film m film) qs ≡ true → list_any (λ (x : Marked). is_mark m x.1) qs ≡ true)
        → (s || list_any (λ (x : Marked). is_mark m x.1) qs) ≡ true
    go true t h more = refl
    go false t h more = more h

distinct_from : (qs : List Marked) → list_all (λ (q : Marked). nat_le (count (same q) qs) 1) qs ≡ true → are_different same qs ≡ true
distinct_from [] h = refl
distinct_from (q ∷ qs) h =
    let parts =
    both (nat_le (one (is_mark q.1 q.1) + count (same q) qs) 1) (list_all (λ (x : Marked). nat_le (one (is_mark x.1 q.1) + count (same x) qs) 1) qs) h in
    let own : nat_le (one true + count (same q) qs) 1 ≡ true = ap (λ t. nat_le (one t + count (same q) qs) 1) (sym (mark_itself q.1)) ∙ parts.0 in
    let none : nat_lt 0 (count (same q) qs) ≡ false = grind (arith, nat_tests) in
    let apart : list_any (same q) qs ≡ false = some_counted (same q) qs ∙ none in
    let less =
    all_from (λ (x : Marked). nat_le (one (is_mark x.1 q.1) + count (same x) qs) 1)
    (λ (x : Marked). nat_le (count (same x) qs) 1) qs parts.1 (λ x e. fewer (one (is_mark x.1 q.1)) (count (same x) qs) e) in
    (λ i. not (apart i) && distinct_from qs less i)
  where
    fewer : (m n : ℕ) → nat_le (m + n) 1 ≡ true → nat_le n 1 ≡ true
    fewer m n e = grind (arith, nat_tests)

-- ---- what custody asks, of lists of marks

module _ (made : List Mark) (qs all : List Marked) (within : (p : Marked → Bool) → list_all p all ≡ true → list_all p qs ≡ true) where
  pub record Asked : Type 0 where
    pub is_made : list_all (λ (it : Marked). nat_lt 0 (count (is_mark it.1) made)) all ≡ true
    pub place : list_all (λ (it : Marked). count (same it) qs == 1) all ≡ true
    pub film : list_all (λ (it : Marked). list_all (λ (other : Marked). not (is_mark it.1 other.1) || other.0 == it.0) all) all ≡ true

  pub record Looked : Type 0 where
    pub single : list_all (λ (q : Marked). list_any (is_mark q.1) made) qs ≡ true
    pub apart : are_different same qs ≡ true
    pub found : list_all (λ (it : Marked). list_any (with_film it.1 it.0) qs) all ≡ true

  asked_made : Looked → (it : Marked) → list_any (with_film it.1 it.0) qs ≡ true → nat_lt 0 (count (is_mark it.1) made) ≡ true
  asked_made l it f =
      any_where (same it) (λ (q : Marked). list_any (is_mark q.1) made) qs (found_mark it.1 it.0 qs f) l.single
      (λ q e h. sym (some_counted (is_mark it.1) made) ∙ subst (λ m. list_any (is_mark m) made ≡ true) (same_marks it.1 q.1 e) h)

  asked_film : Looked → (it other : Marked) → list_any (with_film it.1 it.0) qs ≡ true
      → list_any (with_film other.1 other.0) qs ≡ true → (not (is_mark it.1 other.1) || other.0 == it.0) ≡ true
  asked_film l it other f g = go (is_mark it.1 other.1) refl
    where
      equal : other.0 ≡ it.0 → (other.0 == it.0) ≡ true
      equal e = grind (arith, nat_tests)

      go : (t : Bool) → is_mark it.1 other.1 ≡ t → (not t || other.0 == it.0) ≡ true
      go true e = equal (one_film it other.0 it.0 qs l.apart (subst (λ m. list_any (with_film m other.0) qs ≡ true) (same_marks it.1 other.1 e) g) f)
      go false e = refl

  one_is : (n : ℕ) → n ≡ 1 → (n == 1) ≡ true
  one_is n h = grind (arith, nat_tests)

  pub asked_of_looked : Looked → Asked
  asked_of_looked l = record {
    is_made = all_from (λ (it : Marked). list_any (with_film it.1 it.0) qs) (λ (it : Marked). nat_lt 0 (count (is_mark it.1) made)) all l.found (asked_made l);
    place =
        all_from (λ (it : Marked). list_any (with_film it.1 it.0) qs) (λ (it : Marked). count (same it) qs == 1) all l.found
        (λ it f. one_is _ (count_one it qs l.apart (found_mark it.1 it.0 qs f)));
    film =
        all_from (λ (it : Marked). list_any (with_film it.1 it.0) qs)
        (λ (it : Marked). list_all (λ (other : Marked). not (is_mark it.1 other.1) || other.0 == it.0) all) all l.found
        (λ it f.
        all_from (λ (other : Marked). list_any (with_film other.1 other.0) qs)
        (λ (other : Marked). not (is_mark it.1 other.1) || other.0 == it.0) all l.found (λ other g. asked_film l it other f g));
  }

  at_most : (n : ℕ) → (n == 1) ≡ true → nat_le n 1 ≡ true
  at_most n h = grind (arith, nat_tests)

  looked_found : Asked → (it : Marked) → ((count (same it) qs == 1) && list_all (λ (other : Marked). not (is_mark it.1 other.1) || other.0 == it.0) all) ≡ true
      → list_any (with_film it.1 it.0) qs ≡ true
  looked_found a it h =
      let parts = both (count (same it) qs == 1) (list_all (λ (other : Marked). not (is_mark it.1 other.1) || other.0 == it.0) all) h in
      both_found (same it) (λ (q : Marked). q.0 == it.0) qs (some_counted (same it) qs ∙ one_some (count (same it) qs) parts.0)
      (within (λ (other : Marked). not (is_mark it.1 other.1) || other.0 == it.0) parts.1)

  pub looked_of_asked : Asked → Looked
  looked_of_asked a = record {
    single =
        all_from (λ (q : Marked). nat_lt 0 (count (is_mark q.1) made)) (λ (q : Marked). list_any (is_mark q.1) made) qs
        (within _ a.is_made) (λ q e. some_counted (is_mark q.1) made ∙ e);
    apart =
        distinct_from qs
        (all_from (λ (q : Marked). count (same q) qs == 1) (λ (q : Marked). nat_le (count (same q) qs) 1) qs
        (within _ a.place) (λ q e. at_most (count (same q) qs) e));
    found = all_from _ (λ (it : Marked). list_any (with_film it.1 it.0) qs) all (all_both _ _ all a.place a.film) (looked_found a);
  }

-- ---- lists of marks of rows and lines

unfoldable pub made_of : List (Row BookCopy) → List Mark
made_of [] = []
made_of (row ∷ rows) = cond (is_origin row) (row.it.mark ∷ made_of rows) (made_of rows)

pub placed_of : List (Row BookCopy) → List Marked
placed_of [] = []
placed_of (row ∷ rows) = cond (is_copy_placed row.it.state) (marked_row row ∷ placed_of rows) (placed_of rows)

pub lines_of : List Line → List Marked
lines_of [] = []
lines_of (line ∷ lines) = cond (is_line_placed line.state) (marked_line line ∷ lines_of lines) (lines_of lines)

abbrev marked_key : Marked → Key
marked_key it = film_key it.0 it.1

made_are : (rows : List (Row BookCopy)) → made_keys rows ≡ map mark_key (made_of rows)
unfolding made_of
made_are [] = refl
made_are (row ∷ rows) = go (is_origin row) (made_are rows)
  where
    go : (t : Bool) → made_keys rows ≡ map mark_key (made_of rows)
        → cond t (mark_key row.it.mark ∷ made_keys rows) (made_keys rows) ≡ map mark_key (cond t (row.it.mark ∷ made_of rows) (made_of rows))
    go true more = ap (λ ks. mark_key row.it.mark ∷ ks) more
    go false more = more

placed_are : (rows : List (Row BookCopy)) → rows_placed rows ≡ map marked_key (placed_of rows)
unfolding placed_of
placed_are [] = refl
placed_are (row ∷ rows) = go (is_copy_placed row.it.state) (placed_are rows)
  where
    go : (t : Bool) → rows_placed rows ≡ map marked_key (placed_of rows)
        → cond t (film_key row.it.film row.it.mark ∷ rows_placed rows) (rows_placed rows)
        ≡ map marked_key (cond t (marked_row row ∷ placed_of rows) (placed_of rows))
    go true more = ap (λ ks. film_key row.it.film row.it.mark ∷ ks) more
    go false more = more

lines_are : (lines : List Line) → lines_placed lines ≡ map marked_key (lines_of lines)
unfolding lines_of
lines_are [] = refl
lines_are (line ∷ lines) = go (is_line_placed line.state) (lines_are lines)
  where
    go : (t : Bool) → lines_placed lines ≡ map marked_key (lines_of lines)
        → cond t (film_key line.film line.mark ∷ lines_placed lines) (lines_placed lines)
        ≡ map marked_key (cond t (marked_line line ∷ lines_of lines) (lines_of lines))
    go true more = ap (λ ks. film_key line.film line.mark ∷ ks) more
    go false more = more

module _ (test : Mark → Bool) where
  pub count_made : (rows : List (Row BookCopy)) → count test (made_of rows) ≡ rows_made test rows
  unfolding made_of
  count_made [] = refl
  count_made (row ∷ rows) = go (is_origin row) (count_made rows)
    where
      go : (b : Bool) → count test (made_of rows) ≡ rows_made test rows
          → count test (cond b (row.it.mark ∷ made_of rows) (made_of rows)) ≡ one (b && test row.it.mark) + rows_made test rows
      go true more = ap (λ n. one (test row.it.mark) + n) more
      go false more = omega (arith, more)

  abbrev of_mark : Marked → Bool
  of_mark it = test it.1

  count_placed : (rows : List (Row BookCopy)) → count of_mark (placed_of rows) ≡ rows_in Here test rows + rows_in Scrapped test rows
  unfolding placed_of
  count_placed [] = refl
  count_placed (row ∷ rows) = go row.it.state (count_placed rows)
    where
      go : (s : CopyState) → count of_mark (placed_of rows) ≡ rows_in Here test rows + rows_in Scrapped test rows
          → count of_mark (cond (is_copy_placed s) (marked_row row ∷ placed_of rows) (placed_of rows))
          ≡ (one (copy_is s Here && test row.it.mark) + rows_in Here test rows) + (one (copy_is s Scrapped && test row.it.mark) + rows_in Scrapped test rows)
      go Here more = omega (arith, more)
      go Sent more = omega (arith, more)
      go Scrapped more = omega (arith, more)

  count_lines : (lines : List Line) → count of_mark (lines_of lines) ≡ lines_in UnderWay test lines + lines_in Missing test lines
  unfolding lines_of
  count_lines [] = refl
  count_lines (line ∷ lines) = go line.state (count_lines lines)
    where
      go : (s : LineState) → count of_mark (lines_of lines) ≡ lines_in UnderWay test lines + lines_in Missing test lines
          → count of_mark (cond (is_line_placed s) (marked_line line ∷ lines_of lines) (lines_of lines))
          ≡ (one (line_is s UnderWay && test line.mark) + lines_in UnderWay test lines)
          + (one (line_is s Missing && test line.mark) + lines_in Missing test lines)
      go UnderWay more = omega (arith, more)
      go Arrived more = omega (arith, more)
      go Missing more = omega (arith, more)

  pub count_places : (rows : List (Row BookCopy)) (lines : List Line) → count of_mark (placed_of rows ++ lines_of lines) ≡ places_in test rows lines
  count_places rows lines =
      let a = count_append of_mark (placed_of rows) (lines_of lines) in
      let b = count_placed rows in
      let c = count_lines lines in
      omega (arith, a, b, c)

rows_within : (p : Marked → Bool) (rows : List (Row BookCopy)) → list_all p (map marked_row rows) ≡ true → list_all p (placed_of rows) ≡ true
unfolding placed_of
rows_within p [] h = refl
rows_within p (row ∷ rows) h = go (is_copy_placed row.it.state) (both (p (marked_row row)) (list_all p (map marked_row rows)) h) (rows_within p rows)
  where
    go : (t : Bool) → (p (marked_row row) ≡ true) × (list_all p (map marked_row rows) ≡ true)
        → (list_all p (map marked_row rows) ≡ true → list_all p (placed_of rows) ≡ true)
        → list_all p (cond t (marked_row row ∷ placed_of rows) (placed_of rows)) ≡ true
    go true h more = λ i. h.0 i && more h.1 i
    go false h more = more h.1

lines_within : (p : Marked → Bool) (lines : List Line) → list_all p (map marked_line lines) ≡ true → list_all p (lines_of lines) ≡ true
unfolding lines_of
lines_within p [] h = refl
lines_within p (line ∷ lines) h = go (is_line_placed line.state) (both (p (marked_line line)) (list_all p (map marked_line lines)) h) (lines_within p lines)
  where
    go : (t : Bool) → (p (marked_line line) ≡ true) × (list_all p (map marked_line lines) ≡ true)
        → (list_all p (map marked_line lines) ≡ true → list_all p (lines_of lines) ≡ true)
        → list_all p (cond t (marked_line line ∷ lines_of lines) (lines_of lines)) ≡ true
    go true h more = λ i. h.0 i && more h.1 i
    go false h more = more h.1

-- ---- keys

ordered_test : (b n : Bool) → (b && (n && true)) ≡ (b && n)
ordered_test true true = refl
ordered_test true false = refl
ordered_test false n = refl

pub mark_test : (m n : Mark) → bytes_eq (mark_key m) (mark_key n) ≡ is_mark m n
mark_test m n = ordered_test (m.branch == n.branch) (m.copy == n.copy) ∙ (λ i. nat_eq_equiv.symm m.branch n.branch i && nat_eq_equiv.symm m.copy n.copy i)

three : (b n f : Bool) → (b && (n && (f && true))) ≡ ((b && n) && f)
three true true true = refl
three true true false = refl
three true false f = refl
three false n f = refl

film_test : (film : ℕ) (m : Mark) (q : Marked) → bytes_eq (film_key film m) (marked_key q) ≡ with_film m film q
film_test film m q =
    three (m.branch == q.1.branch) (m.copy == q.1.copy) (film == q.0)
    ∙ (λ i. (nat_eq_equiv.symm m.branch q.1.branch i && nat_eq_equiv.symm m.copy q.1.copy i) && nat_eq_equiv.symm film q.0 i)

-- the mark of a film's key
pub cut : Key → Key
cut [] = []
cut (b ∷ []) = []
cut (b ∷ n ∷ more) = b ∷ n ∷ []

cut_marks : (qs : List Marked) → map cut (map marked_key qs) ≡ map (λ (q : Marked). mark_key q.1) qs
unfolding cut
cut_marks qs = map-map cut marked_key qs

pub cut_rows : {X : Type 0} (film : X → ℕ) (mark : X → Mark) (rows : List X) (ks : List Key)
    → map (λ row. film_key (film row) (mark row)) rows ≡ ks → map (λ row. mark_key (mark row)) rows ≡ map cut ks
unfolding cut
cut_rows film mark rows ks h = sym (map-map cut (λ row. film_key (film row) (mark row)) rows) ∙ ap (map cut) h

module _ (copies : List (Row BookCopy)) (lines : List Line) where
  abbrev places : List Marked
  places = placed_of copies ++ lines_of lines

  abbrev keys : List Key
  keys = rows_placed copies ++ lines_placed lines

  pub within_all : (p : Marked → Bool) → list_all p (marked copies lines) ≡ true → list_all p places ≡ true
  within_all p h =
      let parts =
      both (list_all p (map marked_row copies)) (list_all p (map marked_line lines))
      (sym (all_append p (map marked_row copies) (map marked_line lines)) ∙ h) in
      all_append p (placed_of copies) (lines_of lines) ∙ (λ i. rows_within p copies parts.0 i && lines_within p lines parts.1 i)

  map_append : (us vs : List Marked) → map marked_key (us ++ vs) ≡ map marked_key us ++ map marked_key vs
  map_append [] vs = refl
  map_append (u ∷ us) vs = ap (λ l. marked_key u ∷ l) (map_append us vs)

  keys_are : keys ≡ map marked_key places
  keys_are = (λ i. placed_are copies i ++ lines_are lines i) ∙ sym (map_append (placed_of copies) (lines_of lines))

  marks_are : map cut keys ≡ map (λ (q : Marked). mark_key q.1) places
  marks_are = ap (map cut) keys_are ∙ cut_marks places

  single_is : places_are_single (made_keys copies) (map cut keys)
      ≡ (list_all (λ (q : Marked). list_any (is_mark q.1) (made_of copies)) places && are_different same places)
  single_is =
      (λ i. places_are_single (made_are copies i) (marks_are i))
      ∙ (λ i. (all-map (λ (k : Key). list_any (bytes_eq k) (map mark_key (made_of copies))) (λ (q : Marked). mark_key q.1) places ∙ all_congr _ _ each places) i
      && (different-map bytes_eq (λ (q : Marked). mark_key q.1) places ∙ different_congr _ _ (λ x y. mark_test x.1 y.1) places) i)
    where
      each : (q : Marked) → list_any (bytes_eq (mark_key q.1)) (map mark_key (made_of copies)) ≡ list_any (is_mark q.1) (made_of copies)
      each q = any-map (bytes_eq (mark_key q.1)) mark_key (made_of copies) ∙ any_congr _ _ (mark_test q.1) (made_of copies)

  found_is : (film : ℕ) (m : Mark) → list_any (bytes_eq (film_key film m)) keys ≡ list_any (with_film m film) places
  found_is film m =
      ap (list_any (bytes_eq (film_key film m))) keys_are ∙ any-map (bytes_eq (film_key film m)) marked_key places ∙ any_congr _ _ (film_test film m) places

  abbrev pub rows_found : Bool
  rows_found = list_all (λ (row : Row BookCopy). list_any (bytes_eq (film_key row.it.film row.it.mark)) keys) copies

  abbrev pub lines_found : Bool
  lines_found = list_all (λ (line : Line). list_any (bytes_eq (film_key line.film line.mark)) keys) lines

  all_found : list_all (λ (it : Marked). list_any (with_film it.1 it.0) places) (marked copies lines) ≡ (rows_found && lines_found)
  all_found =
      all_append _ (map marked_row copies) (map marked_line lines)
      ∙ (λ i.
      (all-map (λ (it : Marked). list_any (with_film it.1 it.0) places) marked_row copies
      ∙ all_congr _ _ (λ (row : Row BookCopy). sym (found_is row.it.film row.it.mark)) copies)
      i
      && (all-map (λ (it : Marked). list_any (with_film it.1 it.0) places) marked_line lines
      ∙ all_congr _ _ (λ (line : Line). sym (found_is line.film line.mark)) lines)
      i)

  asked_is : Asked (made_of copies) places (marked copies lines) within_all → AreInCustody copies lines
  asked_is a = record {
    is_made = all_congr _ _ (λ it. ap (nat_lt 0) (sym (count_made (is_mark it.1) copies))) (marked copies lines) ∙ a.is_made;
    place = all_congr _ _ (λ it. ap (λ n. n == 1) (sym (count_places (is_mark it.1) copies lines))) (marked copies lines) ∙ a.place;
    film = a.film;
  }

  pub is_asked : AreInCustody copies lines → Asked (made_of copies) places (marked copies lines) within_all
  is_asked a = record {
    is_made = all_congr _ _ (λ it. ap (nat_lt 0) (count_made (is_mark it.1) copies)) (marked copies lines) ∙ a.is_made;
    place = all_congr _ _ (λ it. ap (λ n. n == 1) (count_places (is_mark it.1) copies lines)) (marked copies lines) ∙ a.place;
    film = a.film;
  }

  pub from_checks : places_are_single (made_keys copies) (map cut keys) ≡ true → (rows_found && lines_found) ≡ true → AreInCustody copies lines
  from_checks s f =
      let parts = both (list_all (λ (q : Marked). list_any (is_mark q.1) (made_of copies)) places) (are_different same places) (sym single_is ∙ s) in
      asked_is (asked_of_looked (made_of copies) places (marked copies lines) within_all (record { single = parts.0; apart = parts.1; found = all_found ∙ f }))

  pub to_checks : AreInCustody copies lines → (places_are_single (made_keys copies) (map cut keys) ≡ true) × ((rows_found && lines_found) ≡ true)
  to_checks a =
      let l = looked_of_asked (made_of copies) places (marked copies lines) within_all (is_asked a) in
      (single_is ∙ (λ i. l.single i && l.apart i), sym all_found ∙ l.found)

-- ---- rows that have the keys, in another order

module _ {X : Type 0} (key : X → Key) where
  pub any_sorted : (rows sorted : List X) (ks : List Key) → map key rows ≡ ks → IsPermutation rows sorted
      → (k : Key) → list_any (bytes_eq k) (map key sorted) ≡ list_any (bytes_eq k) ks
  any_sorted rows sorted ks e p k = sym (list_any-IsPermutation (bytes_eq k) _ _ (IsPermutation-map key rows sorted p)) ∙ ap (list_any (bytes_eq k)) e

  pub all_made : (marks made sorted : List X) (ks ms : List Key) → map key made ≡ ks → IsPermutation made sorted → map key marks ≡ ms
      → list_all (λ row. list_any (bytes_eq (key row)) (map key sorted)) marks ≡ list_all (λ (k : Key). list_any (bytes_eq k) ks) ms
  all_made marks made sorted ks ms e p f =
      all_congr _ _ (λ row. any_sorted made sorted ks e p (key row)) marks
      ∙ sym (all-map (λ (k : Key). list_any (bytes_eq k) ks) key marks) ∙ ap (list_all (λ (k : Key). list_any (bytes_eq k) ks)) f

  pub all_apart : (marks : List X) (ms : List Key) → map key marks ≡ ms → are_different (λ a b. bytes_eq (key a) (key b)) marks ≡ are_different bytes_eq ms
  all_apart marks ms f = sym (different-map bytes_eq key marks) ∙ ap (are_different bytes_eq) f
