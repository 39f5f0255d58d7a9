-- The copies of a film that are here are split into copies in stock and copies that are out. A copy that is out has one holder. An overdue copy is out with
-- the customer that its row names.
use Rattle.shop_model.proofs.Common.{◌≡◌, inl, inr, ℕ, ◌+◌, ◌-◌, ◌≤◌, List, [], ◌∷◌, ◌++◌, length, filter, map, Bool, true, false, not, refl, sym, ap, ◌∙◌}
use Rattle.shop_model.proofs.Common.{arith, append-nil, append_assoc, length-append, ◌==◌, ◌&&◌, ◌||◌, codes, flat_map, zip, is_none, AllByRecursion, list_any}
use Rattle.shop_model.proofs.Common.{list_all, cases_Bool, and_parts, or_parts, false≢true, true≢false, filter-append, at, has_double, is_empty, mem}
use Rattle.shop_model.proofs.Common.{numbered_from, Moment, Film, Customer, Copy, Rental, Terms, Catalogue, Shop, is_here, keeps_out, in_stock, film_of}
use Rattle.shop_model.proofs.Common.{is_overdue, shop_of, has_row, IsLinkedShop, HasOneHolder}
use Rattle.std.proofs.Math.Bool.{and-false, and-true}
use Rattle.std.proofs.lemmas.List.Folds.{list_all-append}
use Rattle.shop_model.specs.Stock.{film_in_stock, film_not_in_stock}
use Rattle.shop_model.specs.Figures.{is_copy_here, StockIsSplit, HoldersAreTold, TellsHolders, IsOutWithNamed, OverdueIsOut}
use Rattle.shop_model.proofs.RowLemmas.{same_if, same_test, equal_test, differ_if, differ_test, at_zero}
use Rattle.shop_model.proofs.LinkLemmas.{all_at, any_same}
use Rattle.shop_model.proofs.FoundLemmas.{at_one}

-- ---- numbers of rows that pass

pub not_first : (n k : ℕ) → (n ≡ k → ⊥) → n + 1 - k ≡ 1 → ⊥
not_first n k d e = d (omega (arith, e))

-- one of them is the number of a row that passes
pub mem_numbered : {A : Type 0} (p : ℕ × A → Bool) (x k : ℕ) (xs : List A)
    → mem x (map (λ (it : ℕ × A). it.0) (filter p (numbered_from k xs))) ≡ list_any (λ a. p (x, a)) (at (x + 1 - k) xs)
mem_numbered p x k [] = refl
mem_numbered {A = A} p x k (a ∷ xs) = elim (cases_Bool (x == k)) [
  | inl is ↦
      let e : x ≡ k = same_if x k is in
      let here : ((x + 1 - k) == 1) ≡ true = equal_test (x + 1 - k) 1 (omega (arith, e)) in
      let past : x + 1 - (k + 1) ≡ 0 = omega (arith, e) in
      let none : mem x (map (λ (it : ℕ × A). it.0) (filter p (numbered_from (k + 1) xs))) ≡ false = mem_numbered p x (k + 1) xs ∙ rw (past, at_zero xs) refl in
      let same : p (x, a) ≡ p (k, a) = ap (λ n. p (n, a)) e in
      elim (cases_Bool (p (k, a))) [
        | inl passes ↦ rw (passes, equal_test k x (sym e), here, same ∙ passes) refl
        | inr fails ↦ rw (fails, none, here, same ∙ fails) refl
      ]
  | inr isnt ↦
      let d = differ_if x k isnt in
      let there : ((x + 1 - k) == 1) ≡ false = differ_test (x + 1 - k) 1 (not_first x k d) in
      let further : x + 1 - (k + 1) ≡ x + 1 - k - 1 = omega arith in
      let more : mem x (map (λ (it : ℕ × A). it.0) (filter p (numbered_from (k + 1) xs))) ≡ list_any (λ a. p (x, a)) (at (x + 1 - k - 1) xs) =
      mem_numbered p x (k + 1) xs ∙ rw further refl in
      elim (cases_Bool (p (k, a))) [
        | inl passes ↦ rw (passes, differ_test k x (λ e. d (sym e)), there) more
        | inr fails ↦ rw (fails, there) more
      ]
]

-- they rise, so that none is twice
numbers_once : {A : Type 0} (p : ℕ × A → Bool) (k : ℕ) (xs : List A) → has_double (map (λ (it : ℕ × A). it.0) (filter p (numbered_from k xs))) ≡ false
numbers_once p k [] = refl
numbers_once {A = A} p k (a ∷ xs) = elim (cases_Bool (p (k, a))) [
  | inl passes ↦
      let past : k + 1 - (k + 1) ≡ 0 = omega arith in
      let none : mem k (map (λ (it : ℕ × A). it.0) (filter p (numbered_from (k + 1) xs))) ≡ false = mem_numbered p k (k + 1) xs ∙ rw (past, at_zero xs) refl in
      rw (passes, none) (numbers_once p (k + 1) xs)
  | inr fails ↦ rw fails (numbers_once p (k + 1) xs)
]

mem-append : (x : ℕ) (ms ns : List ℕ) → mem x (ms ++ ns) ≡ (mem x ms || mem x ns)
mem-append x [] ns = refl
mem-append x (m ∷ ms) ns = elim (cases_Bool (m == x)) [ inl is ↦ rw is | inr isnt ↦ rw isnt (mem-append x ms ns) ]

-- two lists without doubles that share no number give a list without doubles
once_append : (ms ns : List ℕ) → has_double ms ≡ false → has_double ns ≡ false → ((x : ℕ) → (mem x ms && mem x ns) ≡ false) → has_double (ms ++ ns) ≡ false
once_append [] ns first second apart = second
once_append (m ∷ ms) ns first second apart =
    let h = or_parts (mem m ms) (has_double ms) first in
    let other : mem m ns ≡ false = rw (same_test m) at (apart m) in
    rw (mem-append m ms ns, h.0, other) (once_append ms ns h.1 second (λ x. later x (m == x) (mem x ms) (mem x ns) (apart x)))
  where
    later : (x : ℕ) (here within without : Bool) → ((here || within) && without) ≡ false → (within && without) ≡ false
    later x true true without e = e
    later x false true without e = e
    later x here false without e = refl

-- ---- stock

any_never : {A : Type 0} (q : A → Bool) (xs : List A) → list_any (λ a. q a && false) xs ≡ false
any_never q [] = refl
any_never q (x ∷ xs) = rw (and-false (q x)) (any_never q xs)

any_and : {A : Type 0} (q : A → Bool) (r : Bool) (xs : List A) → list_any (λ a. q a && r) xs ≡ (list_any q xs && r)
any_and q true xs = any_same (λ a. q a && true) q xs (λ a. and-true (q a)) ∙ sym (and-true (list_any q xs))
any_and q false xs = any_never q xs ∙ sym (and-false (list_any q xs))

numbers_of : (test : ℕ → Bool) (film x : ℕ) (copies : List Copy)
    → mem x (map (λ (it : ℕ × Copy). it.0) (filter (λ (it : ℕ × Copy). it.1.film == film && is_here it.1 && test it.0) (numbered_from 1 copies)))
    ≡ (list_any (λ (copy : Copy). copy.film == film && is_here copy) (at x copies) && test x)
numbers_of test film x copies =
    let back : x + 1 - 1 ≡ x = omega arith in
    mem_numbered (λ (it : ℕ × Copy). it.1.film == film && is_here it.1 && test it.0) x 1 copies
    ∙ rw back (any_and (λ (copy : Copy). copy.film == film && is_here copy) (test x) (at x copies))

either : (a b : Bool) → ((a && b) || (a && not b)) ≡ a
either true true = refl
either true false = refl
either false b = refl

not_both : (a b : Bool) → ((a && b) && (a && not b)) ≡ false
not_both true true = refl
not_both true false = refl
not_both false b = refl

pub splits : StockIsSplit
splits film shop =
    let stocked = λ (x : ℕ). numbers_of (λ x. in_stock x shop.rentals) film x shop.copies in
    let rented = λ (x : ℕ). numbers_of (λ x. not (in_stock x shop.rentals)) film x shop.copies in
    record {
      stocked = stocked;
      rented = rented;
      together = λ x. rw (stocked x, rented x) (either (is_copy_here film shop x) (in_stock x shop.rentals));
      once = once_append (film_in_stock film shop) (film_not_in_stock film shop) (numbers_once _ 1 shop.copies) (numbers_once _ 1 shop.copies)
          (λ x. rw (stocked x, rented x) (not_both (is_copy_here film shop x) (in_stock x shop.rentals)));
    }

-- ---- holders

none_left : {A : Type 0} (p : A → Bool) (xs : List A) → is_empty (filter p xs) ≡ not (list_any p xs)
none_left p [] = refl
none_left p (x ∷ xs) = elim (cases_Bool (p x)) [ inl is ↦ rw is | inr isnt ↦ rw isnt (none_left p xs) ]

empty_map : {A B : Type 0} (f : A → B) (xs : List A) → is_empty (map f xs) ≡ is_empty xs
empty_map f [] = refl
empty_map f (x ∷ xs) = refl

one_left : {A : Type 0} (xs : List A) → length xs ≤ 1 → is_empty xs ≡ false → (x : A) × (xs ≡ x ∷ [])
one_left [] few some = absurd (true≢false some)
one_left (x ∷ []) few some = (x, refl)
one_left (x ∷ y ∷ ys) few some = absurd (omega (arith, few))

tells : (shop : Shop) → HasOneHolder shop → TellsHolders shop
tells shop holds = record {
  answers = λ x. empty_map (λ (rental : Rental). rental.customer) (filter (keeps_out x) shop.rentals) ∙ none_left (keeps_out x) shop.rentals;
  holder = λ x out.
      let one = one_left (filter (keeps_out x) shop.rentals) (holds.one x) (none_left (keeps_out x) shop.rentals ∙ out) in
      record { rental = one.0; only = one.1; named = ap (map (λ (rental : Rental). rental.customer)) one.1 };
}

pub holders_told : HoldersAreTold
holders_told rules books b sound = tells (shop_of b books) (sound.held b)

-- ---- what is overdue

no_length : {A : Type 0} (xs : List A) → length xs ≡ 0 → xs ≡ []
no_length [] e = refl
no_length (x ∷ xs) e = absurd (omega (arith, e))

-- where at most one passes, one that does is the only one
only_one : {A : Type 0} (p : A → Bool) (front : List A) (x : A) (back : List A) → p x ≡ true
    → length (filter p (front ++ x ∷ back)) ≤ 1 → filter p (front ++ x ∷ back) ≡ x ∷ []
only_one p front x back is few =
    let both : filter p (front ++ x ∷ back) ≡ filter p front ++ x ∷ filter p back = filter-append p front (x ∷ back) ∙ rw is in
    let n = length-append (filter p front) (x ∷ filter p back) in
    let l = ap length both in
    let first : length (filter p front) ≡ 0 = omega (arith, few, n, l) in
    let last : length (filter p back) ≡ 0 = omega (arith, few, n, l) in
    both ∙ rw (no_length (filter p front) first, no_length (filter p back) last) refl

pub row_there : {A : Type 0} (n : ℕ) (rows : List A) → has_row rows n ≡ true → (x : A) × (at n rows ≡ x ∷ [])
row_there n rows there = elim (at_one n rows) [
  | inl none ↦ let no : false ≡ true = rw none at there in absurd (false≢true no)
  | inr one ↦ one
]

-- what holds of all holds of one within
within : {A : Type 0} (p : A → Bool) (front : List A) (x : A) (back : List A) → list_all p (front ++ x ∷ back) ≡ true → p x ≡ true
within p front x back all =
    let h = and_parts (list_all p front) (list_all p (x ∷ back)) (sym (list_all-append p front (x ∷ back)) ∙ all) in
    (and_parts (p x) (list_all p back) h.1).0

each_overdue : (P : Rental → Type 0) (moment : Moment) (front rentals : List Rental) (terms : List Terms)
    → ((f : List Rental) (rental : Rental) (g : List Rental) → front ++ rentals ≡ f ++ rental ∷ g → is_none rental.returned ≡ true → P rental)
    → AllByRecursion P (map (λ (it : Rental × Terms). it.0) (filter (is_overdue moment) (zip rentals terms)))
each_overdue P moment front [] terms each = tt
each_overdue P moment front (rental ∷ rentals) [] each = tt
each_overdue P moment front (rental ∷ rentals) (its ∷ terms) each =
    let rest = each_overdue P moment (front ++ rental ∷ []) rentals terms (λ f it g e. each f it g (sym (append_assoc front (rental ∷ []) rentals) ∙ e)) in
    elim (cases_Bool (is_overdue moment (rental, its))) [
      | inl is ↦ rw is (each front rental rentals refl (and_parts (is_none rental.returned) _ is).0, rest)
      | inr isnt ↦ rw isnt rest
    ]

out_with : (b : ℕ) (catalogue : Catalogue) (shop : Shop) → HasOneHolder shop
    → IsLinkedShop b catalogue shop → (front : List Rental) (rental : Rental) (back : List Rental)
    → shop.rentals ≡ front ++ rental ∷ back → is_none rental.returned ≡ true → IsOutWithNamed catalogue shop rental
out_with b catalogue shop holds linked front rental back e lasts =
    let p = keeps_out rental.copy in
    let keeps : p rental ≡ true = rw (same_test rental.copy, lasts) refl in
    let only : filter p shop.rentals ≡ rental ∷ [] = ap (filter p) e ∙ only_one p front rental back keeps (rw e at (holds.one rental.copy)) in
    let out : in_stock rental.copy shop.rentals ≡ false = sym (none_left p shop.rentals) ∙ ap is_empty only in
    let customer =
    row_there rental.customer shop.customers
    (within (λ (it : Rental). has_row shop.customers it.customer) front rental back (rw e at linked.rental_customers)) in
    let copy = row_there rental.copy shop.copies (within (λ (it : Rental). has_row shop.copies it.copy) front rental back (rw e at linked.rental_copies)) in
    let its : list_all (λ (it : Copy). has_row catalogue.films it.film) (copy.0 ∷ []) ≡ true =
    rw copy.1 at (all_at (λ (it : Copy). has_row catalogue.films it.film) rental.copy shop.copies linked.copy_films) in
    let film = row_there copy.0.film catalogue.films (and_parts (has_row catalogue.films copy.0.film) true its).0 in
    let what : film_of catalogue shop rental ≡ film.0 ∷ [] =
    ap (flat_map (λ (it : Copy). at it.film catalogue.films)) copy.1 ∙ append-nil (at copy.0.film catalogue.films) ∙ film.1 in
    let name =
    ap (flat_map (λ (it : Customer). it.person.last ++ codes ", " ++ it.person.first)) customer.1
    ∙ append-nil (customer.0.person.last ++ codes ", " ++ customer.0.person.first) in
    let phone = ap (flat_map (λ (it : Customer). it.person.phone)) customer.1 ∙ append-nil customer.0.person.phone in
    let title = ap (flat_map (λ (it : Film). it.title)) what ∙ append-nil film.0.title in
    record {
      customer = customer.0;
      film = film.0;
      out = out;
      held = ap (map (λ (it : Rental). it.customer)) only;
      inside = holds.here rental.copy out;
      who = customer.1;
      what = what;
      row = λ i. record { customer = name i; phone = phone i; title = title i };
    }

pub overdue_out : OverdueIsOut
overdue_out rules books b moment sound =
    let shop = shop_of b books in
    each_overdue (IsOutWithNamed books.catalogue shop) moment [] shop.rentals shop.terms
    (λ front rental back e lasts. out_with b books.catalogue shop (sound.held b) (sound.links b) front rental back e lasts)
