-- The tests of one branch's rows mean what the definitions say.
use Rattle.std.proofs.Common.{is_none}
use Rattle.shop_types.proofs.Common.{◌<◌, ◌≡◌, ◌&&◌, ◌||◌, ◌+◌, ◌-◌, ◌≤◌, ◌==◌, ℕ, suc, List, [], ◌∷◌, map, filter, length, not, Bool, true, false, cond, refl}
use Rattle.shop_types.proofs.Common.{sym, ap, subst, ◌∙◌, arith, true≢false, nat_le, get_or, bytes_eq, list_any, list_all, AllByRecursion, nat_tests}
use Rattle.shop_types.proofs.Common.{bytes_eq-Decides, nat_eq_equiv, Moment, IsMoment, moment_text, same_moment, at, is_empty, Rental, Copy, is_here, keeps_out}
use Rattle.shop_types.proofs.Common.{in_stock, rises, are_apart, same_rental, has_row, are_different, one, same_if, same_test}
use Rattle.shop_model.specs.Calendar.{seconds_of}
use Rattle.audit_rows.specs.Lists.{Key, rises_from, count}
use Rattle.audit_rows.specs.Shops.{is_among, rental_key, open_keys, is_held_here}
use Rattle.audit_rows.proofs.Keys.{both, same_bytes}
use Rattle.audit_rows.proofs.Maps.{map-twice, all-map}

-- ---- moments that rise

abbrev rising : List ℕ → Bool
rising [] = true
rising (n ∷ ns) = list_all (nat_le n) ns && rising ns

further : (low n : ℕ) (ns : List ℕ) → nat_le low n ≡ true → list_all (nat_le n) ns ≡ true → list_all (nat_le low) ns ≡ true
further low n [] h all = refl
further low n (k ∷ ns) h all =
    let parts = both (nat_le n k) (list_all (nat_le n) ns) all in
    let here : nat_le low k ≡ true = grind (arith, nat_tests) in
    let rest = further low n ns h parts.1 in
    (λ i. here i && rest i)

rises_decides : (low : ℕ) (ns : List ℕ) → rises_from low ns ≡ (list_all (nat_le low) ns && rising ns)
rises_decides low [] = refl
rises_decides low (n ∷ ns) = go (rises_decides n ns) (nat_le low n) refl
  where
    stays : nat_le low n ≡ true → (a b c : Bool) → list_all (nat_le n) ns ≡ a → rising ns ≡ b → list_all (nat_le low) ns ≡ c → (a && b) ≡ (c && (a && b))
    stays h true b true p q r = refl
    stays h true b false p q r = absurd (true≢false (sym (further low n ns h p) ∙ r))
    stays h false b true p q r = refl
    stays h false b false p q r = refl

    go : rises_from n ns ≡ (list_all (nat_le n) ns && rising ns) → (t : Bool) → nat_le low n ≡ t
        → (t && rises_from n ns) ≡ ((t && list_all (nat_le low) ns) && (list_all (nat_le n) ns && rising ns))
    go more true h = more ∙ stays h _ _ _ refl refl refl
    go more false h = refl

rises_is_rising : (ms : List Moment) → rises ms ≡ rising (map seconds_of ms)
rises_is_rising [] = refl
rises_is_rising (m ∷ ms) = λ i. sym (all-map (nat_le (seconds_of m)) seconds_of ms) i && rises_is_rising ms i

none_below : (ns : List ℕ) → list_all (nat_le 0) ns ≡ true
none_below [] = refl
none_below (n ∷ ns) = let first : nat_le 0 n ≡ true = grind (arith, nat_tests) in let rest = none_below ns in (λ i. first i && rest i)

-- moments that rise from one to the next are in order
pub rises_is : (ms : List Moment) → rises_from 0 (map seconds_of ms) ≡ rises ms
rises_is ms = rises_decides 0 (map seconds_of ms) ∙ ap (λ b. b && rising (map seconds_of ms)) (none_below (map seconds_of ms)) ∙ sym (rises_is_rising ms)

-- ---- numbers of rows

one_less : (n k : ℕ) → (n == 1) ≡ false → is_among k (n - 1) ≡ is_among (suc k) n
one_less n k h = grind (arith, nat_tests)

is_one : (n k : ℕ) → (n == 1) ≡ true → is_among (suc k) n ≡ true
is_one n k h = grind (arith, nat_tests)

nothing : (n : ℕ) → is_among 0 n ≡ false
nothing n = grind (arith, nat_tests)

-- a list has the row of a number exactly if the number is from 1 to the list's length
pub has_row_is : {A : Type 0} (xs : List A) (n : ℕ) → has_row xs n ≡ is_among (length xs) n
has_row_is [] n = sym (nothing n)
has_row_is (x ∷ xs) n = go (n == 1) refl (has_row_is xs (n - 1))
  where
    go : (b : Bool) → (n == 1) ≡ b → has_row xs (n - 1) ≡ is_among (length xs) (n - 1)
        → not (is_empty (cond b (x ∷ []) (at (n - 1) xs))) ≡ is_among (suc (length xs)) n
    go true h more = sym (is_one n (length xs) h)
    go false h more = more ∙ one_less n (length xs) h

-- ---- keys that occur once each

any_counts : (k : Key) (ks : List Key) → list_any (bytes_eq k) ks ≡ true → 1 ≤ count (bytes_eq k) ks
any_counts k [] h = absurd (true≢false (sym h))
any_counts k (j ∷ ks) h = go (bytes_eq k j) h (any_counts k ks)
  where
    go : (b : Bool) → (b || list_any (bytes_eq k) ks) ≡ true → (list_any (bytes_eq k) ks ≡ true → 1 ≤ count (bytes_eq k) ks) → 1 ≤ one b + count (bytes_eq k) ks
    go true t more = omega arith
    go false t more = let m = more t in omega (arith, m)

none_counts : (k : Key) (ks : List Key) → list_any (bytes_eq k) ks ≡ false → count (bytes_eq k) ks ≡ 0
none_counts k [] h = refl
none_counts k (j ∷ ks) h = go (bytes_eq k j) h (none_counts k ks)
  where
    go : (b : Bool) → (b || list_any (bytes_eq k) ks) ≡ false
        → (list_any (bytes_eq k) ks ≡ false → count (bytes_eq k) ks ≡ 0) → one b + count (bytes_eq k) ks ≡ 0
    go true t more = absurd (true≢false t)
    go false t more = let m = more t in omega (arith, m)

pub once_from_different : (ks : List Key) → are_different bytes_eq ks ≡ true → (k : Key) → count (bytes_eq k) ks ≤ 1
once_from_different [] h k = omega arith
once_from_different (j ∷ ks) h k =
    let parts = both (not (list_any (bytes_eq j) ks)) (are_different bytes_eq ks) h in
    go (bytes_eq k j) refl parts.0 (once_from_different ks parts.1 k)
  where
    turn : (b : Bool) → not b ≡ true → b ≡ false
    turn true e = absurd (true≢false (sym e))
    turn false e = refl

    go : (b : Bool) → bytes_eq k j ≡ b → not (list_any (bytes_eq j) ks) ≡ true → count (bytes_eq k) ks ≤ 1 → one b + count (bytes_eq k) ks ≤ 1
    go true e none few =
        let same : k ≡ j = (bytes_eq-Decides k j).0 e in
        let zero : count (bytes_eq k) ks ≡ 0 = subst (λ (i : Key). count (bytes_eq i) ks ≡ 0) (sym same) (none_counts j ks (turn _ none)) in
        omega (arith, zero)
    go false e none few = omega (arith, few)

pub different_from_once : (ks : List Key) → ((k : Key) → count (bytes_eq k) ks ≤ 1) → are_different bytes_eq ks ≡ true
different_from_once [] h = refl
different_from_once (j ∷ ks) h = go (list_any (bytes_eq j) ks) refl (different_from_once ks (λ k. (let few = h k in omega (arith, few))))
  where
    go : (b : Bool) → list_any (bytes_eq j) ks ≡ b → are_different bytes_eq ks ≡ true → (not b && are_different bytes_eq ks) ≡ true
    go true e more =
        absurd (let few = h j in let here : one (bytes_eq j j) ≡ 1 = ap one (same_bytes j) in let again = any_counts j ks e in omega (arith, few, here, again))
    go false e more = more

-- ---- open rentals

length_open : (x : ℕ) (rentals : List Rental) → length (filter (keeps_out x) rentals) ≡ count (bytes_eq (x ∷ [])) (open_keys rentals)
length_open x [] = refl
length_open x (r ∷ rentals) = go (is_none r.returned) (length_open x rentals)
  where
    turned : (r.copy == x) ≡ (x == r.copy)
    turned = nat_eq_equiv.symm r.copy x

    now : (b : Bool) → length (filter (keeps_out x) rentals) ≡ count (bytes_eq (x ∷ [])) (open_keys rentals)
        → length (cond (b && true) (r ∷ filter (keeps_out x) rentals) (filter (keeps_out x) rentals))
        ≡ one (b && true) + count (bytes_eq (x ∷ [])) (open_keys rentals)
    now true more = omega (arith, more)
    now false more = omega (arith, more)

    go : (b : Bool) → length (filter (keeps_out x) rentals) ≡ count (bytes_eq (x ∷ [])) (open_keys rentals)
        → length (cond (r.copy == x && b) (r ∷ filter (keeps_out x) rentals) (filter (keeps_out x) rentals))
        ≡ count (bytes_eq (x ∷ []))
        (map (λ (s : Rental). s.copy ∷ [])
        (cond b (r ∷ filter (λ (s : Rental). is_none s.returned) rentals) (filter (λ (s : Rental). is_none s.returned) rentals)))
    go true more = ap (λ b. length (cond (b && true) (r ∷ filter (keeps_out x) rentals) (filter (keeps_out x) rentals))) turned ∙ now (x == r.copy) more
    go false more = shut (r.copy == x) more
      where
        shut : (b : Bool) → length (filter (keeps_out x) rentals) ≡ count (bytes_eq (x ∷ [])) (open_keys rentals)
            → length (cond (b && false) (r ∷ filter (keeps_out x) rentals) (filter (keeps_out x) rentals)) ≡ count (bytes_eq (x ∷ [])) (open_keys rentals)
        shut true m = m
        shut false m = m

other_length : (k : Key) → ((n : ℕ) → bytes_eq k (n ∷ []) ≡ false) → (rentals : List Rental)
    → count (bytes_eq k) (map (λ (r : Rental). r.copy ∷ []) rentals) ≡ 0
other_length k h [] = refl
other_length k h (r ∷ rentals) = let here = h r.copy in let more = other_length k h rentals in (λ i. one (here i) + more i)

opened : List Rental → List Rental
opened rentals = filter (λ (r : Rental). is_none r.returned) rentals

never : (x y : ℕ) (k : Key) (n : ℕ) → bytes_eq (x ∷ y ∷ k) (n ∷ []) ≡ false
never x y k n = go (x == n)
  where
    go : (b : Bool) → (b && false) ≡ false
    go true = refl
    go false = refl

module _ (rentals : List Rental) where
  -- no copy has two open rentals
  pub held_from_different : are_different bytes_eq (open_keys rentals) ≡ true → (x : ℕ) → length (filter (keeps_out x) rentals) ≤ 1
  held_from_different h x = let n = length_open x rentals in let m = once_from_different (open_keys rentals) h (x ∷ []) in omega (arith, n, m)

  pub different_from_held : ((x : ℕ) → length (filter (keeps_out x) rentals) ≤ 1) → are_different bytes_eq (open_keys rentals) ≡ true
  different_from_held h = different_from_once (open_keys rentals) each
    where
      each : (k : Key) → count (bytes_eq k) (open_keys rentals) ≤ 1
      each [] = let n = other_length [] (λ n. refl) (filter (λ (r : Rental). is_none r.returned) rentals) in omega (arith, n)
      each (x ∷ []) = let n = length_open x rentals in let m = h x in omega (arith, n, m)
      each (x ∷ y ∷ k) = let n = other_length (x ∷ y ∷ k) (never x y k) (filter (λ (r : Rental). is_none r.returned) rentals) in omega (arith, n)

-- ---- an open rental's copy is here

module _ (copies : List Copy) where
  here_of : (x : ℕ) (rentals : List Rental) → list_all (is_held_here copies) rentals ≡ true
      → list_any (keeps_out x) rentals ≡ true → list_any is_here (at x copies) ≡ true
  here_of x [] all some = absurd (true≢false (sym some))
  here_of x (r ∷ rentals) all some =
      let parts = both (is_held_here copies r) (list_all (is_held_here copies) rentals) all in
      go (r.copy == x) (is_none r.returned) refl parts.0 some (here_of x rentals parts.1)
    where
      go : (s t : Bool) → (r.copy == x) ≡ s → (not t || list_any is_here (at r.copy copies)) ≡ true → ((s && t) || list_any (keeps_out x) rentals) ≡ true
          → (list_any (keeps_out x) rentals ≡ true → list_any is_here (at x copies) ≡ true) → list_any is_here (at x copies) ≡ true
      go true true e h k more = let same : r.copy ≡ x = grind (arith, nat_tests) in subst (λ n. list_any is_here (at n copies) ≡ true) same h
      go true false e h k more = more k
      go false t e h k more = more k

  turned : (b : Bool) → not b ≡ false → b ≡ true
  turned true h = refl
  turned false h = absurd (true≢false h)

  pub here_from_all : (rentals : List Rental) → list_all (is_held_here copies) rentals ≡ true
      → (x : ℕ) → in_stock x rentals ≡ false → list_any is_here (at x copies) ≡ true
  here_from_all rentals all x out = here_of x rentals all (turned _ out)

  pub all_from_here : (rentals : List Rental) → ((x : ℕ) → in_stock x rentals ≡ false → list_any is_here (at x copies) ≡ true)
      → list_all (is_held_here copies) rentals ≡ true
  all_from_here [] h = refl
  all_from_here (r ∷ rentals) h = go (is_none r.returned) refl (all_from_here rentals (λ x out. h x (wider x out)))
    where
      or_true : (b : Bool) → (b || true) ≡ true
      or_true true = refl
      or_true false = refl

      wider : (x : ℕ) → in_stock x rentals ≡ false → in_stock x (r ∷ rentals) ≡ false
      wider x out = ap (λ b. not (keeps_out x r || b)) (turned _ out) ∙ ap not (or_true (keeps_out x r))

      same : (r.copy == r.copy) ≡ true
      same = grind (arith, nat_tests)

      go : (t : Bool) → is_none r.returned ≡ t → list_all (is_held_here copies) rentals ≡ true
          → ((not t || list_any is_here (at r.copy copies)) && list_all (is_held_here copies) rentals) ≡ true
      go false e more = more
      go true e more = (λ i. h r.copy (λ j. not ((same j && e j) || list_any (keeps_out r.copy) rentals)) i && more i)

-- ---- rentals that are apart

moment_same : (m : Moment) → same_moment m m ≡ true
moment_same m = λ i. same_test m.year i && same_test m.month i && same_test m.day i && same_test m.hour i && same_test m.minute i && same_test m.second i

moment_equal : (a b : Moment) → same_moment a b ≡ true → a ≡ b
moment_equal a b h =
    let second = both (a.year == b.year && a.month == b.month && a.day == b.day && a.hour == b.hour && a.minute == b.minute) (a.second == b.second) h in
    let minute = both (a.year == b.year && a.month == b.month && a.day == b.day && a.hour == b.hour) (a.minute == b.minute) second.0 in
    let hour = both (a.year == b.year && a.month == b.month && a.day == b.day) (a.hour == b.hour) minute.0 in
    let day = both (a.year == b.year && a.month == b.month) (a.day == b.day) hour.0 in
    let month = both (a.year == b.year) (a.month == b.month) day.0 in
    λ i. record {
      year = same_if a.year b.year month.0 i;
      month = same_if a.month b.month month.1 i;
      day = same_if a.day b.day day.1 i;
      hour = same_if a.hour b.hour hour.1 i;
      minute = same_if a.minute b.minute minute.1 i;
      second = same_if a.second b.second second.1 i;
    }

tails : (a b c d : ℕ) (k l : Key) → a ∷ b ∷ k ≡ c ∷ d ∷ l → (a ≡ c) × (b ≡ d) × (k ≡ l)
tails a b c d k l h = (cc, cc, cc)

opened_key : (r : Rental) → rental_key r ≡ r.copy ∷ r.customer ∷ moment_text r.rented
unfolding rental_key
opened_key r = refl

module _ (one_text : (a b : Moment) → IsMoment a → IsMoment b → moment_text a ≡ moment_text b → a ≡ b) where
  key_is : (r s : Rental) → IsMoment r.rented → IsMoment s.rented → rental_key r ≡ rental_key s → same_rental r s ≡ true
  key_is r s p q h =
      let parts = tails r.copy r.customer s.copy s.customer (moment_text r.rented) (moment_text s.rented) (sym (opened_key r) ∙ h ∙ opened_key s) in
      let rented = one_text r.rented s.rented p q parts.2 in
      (λ i. subst (λ (m : Moment). same_moment m r.rented ≡ true) rented (moment_same r.rented) i
      && subst (λ n. (n == r.copy) ≡ true) parts.0 (same_test r.copy) i && subst (λ n. (n == r.customer) ≡ true) parts.1 (same_test r.customer) i)

  is_key : (r s : Rental) → same_rental r s ≡ true → rental_key r ≡ rental_key s
  is_key r s h =
      let customer = both (same_moment s.rented r.rented && s.copy == r.copy) (s.customer == r.customer) h in
      let copy = both (same_moment s.rented r.rented) (s.copy == r.copy) customer.0 in
      opened_key r
      ∙ (λ i.
      sym (same_if s.copy r.copy copy.1) i ∷ sym (same_if s.customer r.customer customer.1) i
      ∷ moment_text (sym (moment_equal s.rented r.rented copy.0) i))
      ∙ sym (opened_key s)

  same_key : (r s : Rental) → IsMoment r.rented → IsMoment s.rented → bytes_eq (rental_key r) (rental_key s) ≡ same_rental r s
  same_key r s p q = go (bytes_eq (rental_key r) (rental_key s)) (same_rental r s) refl refl
    where
      go : (t u : Bool) → bytes_eq (rental_key r) (rental_key s) ≡ t → same_rental r s ≡ u → t ≡ u
      go true true e f = refl
      go false false e f = refl
      go true false e f = sym (key_is r s p q ((bytes_eq-Decides (rental_key r) (rental_key s)).0 e)) ∙ f
      go false true e f = sym e ∙ (bytes_eq-Decides (rental_key r) (rental_key s)).1 (is_key r s f)

  any_same : (r : Rental) (rentals : List Rental) → IsMoment r.rented → AllByRecursion (λ (s : Rental). IsMoment s.rented) rentals
      → list_any (bytes_eq (rental_key r)) (map rental_key rentals) ≡ list_any (same_rental r) rentals
  any_same r [] p all = refl
  any_same r (s ∷ rentals) p all = λ i. same_key r s p all.0 i || any_same r rentals p all.1 i

  -- rentals are apart exactly if their keys are different
  pub apart_is : (rentals : List Rental) → AllByRecursion (λ (r : Rental). IsMoment r.rented) rentals
      → are_different bytes_eq (map rental_key rentals) ≡ are_apart rentals
  apart_is [] all = refl
  apart_is (r ∷ rentals) all = λ i. not (any_same r rentals all.0 all.1 i) && apart_is rentals all.1 i

  unmapped : {X : Type 0} (f : X → Rental) (xs : List X) → AllByRecursion (λ x. IsMoment (f x).rented) xs
      → AllByRecursion (λ (r : Rental). IsMoment r.rented) (map f xs)
  unmapped f [] all = tt
  unmapped f (x ∷ xs) all = (all.0, unmapped f xs all.1)

  pub apart_of_rows : {X : Type 0} (f : X → Rental) (xs : List X) → AllByRecursion (λ x. IsMoment (f x).rented) xs
      → are_different bytes_eq (map (λ x. rental_key (f x)) xs) ≡ are_apart (map f xs)
  apart_of_rows f xs all = ap (are_different bytes_eq) (sym (map-twice rental_key f xs)) ∙ apart_is (map f xs) (unmapped f xs all)

-- ---- the row of a number is at its place

is_first : (n : ℕ) → (n == 1) ≡ true → n - 1 ≡ 0
is_first n h = grind (arith, nat_tests)

is_later : (n : ℕ) → (n == 1) ≡ false → 1 ≤ n → n - 1 ≡ suc (n - 1 - 1)
is_later n h low = grind (arith, nat_tests)

pub at_place : {A : Type 0} (n : ℕ) → 1 ≤ n → (xs : List A) (y : A) → n - 1 < length xs → y ≡ get_or xs (n - 1) y → at n xs ≡ y ∷ []
at_place n low [] y h e = absurd (omega (arith, h))
at_place {A} n low (x ∷ xs) y h e = go (n == 1) refl (λ p q r. at_place (n - 1) p xs y q r)
  where
    go : (b : Bool) → (n == 1) ≡ b → (1 ≤ n - 1 → n - 1 - 1 < length xs → y ≡ get_or xs (n - 1 - 1) y → at (n - 1) xs ≡ y ∷ [])
        → cond b (x ∷ []) (at (n - 1) xs) ≡ y ∷ []
    go true t more =
        let same : y ≡ x = e ∙ ap (λ k. get_or (x ∷ xs) k y) (is_first n t) in
        (λ i. sym same i ∷ [])
    go false t more = let k = is_later n t low in more (omega (arith, k)) (omega (arith, h, k)) (e ∙ ap (λ j. get_or (x ∷ xs) j y) k)

pub at_no_place : {A : Type 0} (n : ℕ) → 1 ≤ n → (xs : List A) → length xs ≤ n - 1 → at n xs ≡ []
at_no_place n low [] h = refl
at_no_place n low (x ∷ xs) h = go (n == 1) refl (λ p q. at_no_place (n - 1) p xs q)
  where
    go : (b : Bool) → (n == 1) ≡ b → (1 ≤ n - 1 → length xs ≤ n - 1 - 1 → at (n - 1) xs ≡ []) → cond b (x ∷ []) (at (n - 1) xs) ≡ []
    go true t more = let k = is_first n t in absurd (omega (arith, h, k))
    go false t more = let k = is_later n t low in more (omega (arith, h, k)) (omega (arith, h, k))

pub at-map : {A B : Type 0} (f : A → B) (n : ℕ) (xs : List A) → at n (map f xs) ≡ map f (at n xs)
at-map f n [] = refl
at-map f n (x ∷ xs) = go (n == 1) (at-map f (n - 1) xs)
  where
    go : (b : Bool) → at (n - 1) (map f xs) ≡ map f (at (n - 1) xs) → cond b (f x ∷ []) (at (n - 1) (map f xs)) ≡ map f (cond b (x ∷ []) (at (n - 1) xs))
    go true more = refl
    go false more = more

pub at_found : {A B : Type 0} (f : A → B) (n : ℕ) → 1 ≤ n → (xs : List A) (y : A) → n - 1 < length xs → y ≡ get_or xs (n - 1) y → at n (map f xs) ≡ f y ∷ []
at_found f n low xs y h e = at-map f n xs ∙ ap (map f) (at_place n low xs y h e)

pub at_missing : {A B : Type 0} (f : A → B) (n : ℕ) → 1 ≤ n → (xs : List A) → length xs ≤ n - 1 → at n (map f xs) ≡ []
at_missing f n low xs h = at-map f n xs ∙ ap (map f) (at_no_place n low xs h)

-- one test, or one of one
pub alone : (b : Bool) → b ≡ (b || false)
alone true = refl
alone false = refl
