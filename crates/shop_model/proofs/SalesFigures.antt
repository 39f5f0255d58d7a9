-- A branch's sales by category add up to its sales, and head office is shown the branches' own rows.
use Rattle.shop_model.proofs.Common.{◌≡◌, inl, inr, ℕ, ◌+◌, ◌-◌, List, [], ◌∷◌, ◌++◌, filter, map, Bool, true, false, not, refl, sym, ap, ◌∙◌, arith, add-zero}
use Rattle.shop_model.proofs.Common.{append-nil, map-append, ◌==◌, ◌||◌, flat_map, option_to_list, AllByRecursion, list_any, list_all, cases_Bool, and_parts}
use Rattle.shop_model.proofs.Common.{false≢true, at, is_empty, numbered, numbered_from, total, Text, Film, Copy, Rental, Payment, Branch, Rules, Catalogue}
use Rattle.shop_model.proofs.Common.{Shop, film_of, shop_of, has_row, IsLinkedShop, IsGoodCatalogue, not-false, if◌then◌else◌}
use Rattle.std.proofs.lemmas.List.Folds.{list_all-map}
use Rattle.shop_model.specs.Views.{insert_by, sorted_by, paid_rentals, takings, StoreRow, sales_by_store, listed_store, sales_of, sells_more, sales_by_category}
use Rattle.shop_model.specs.Machine.{Shows, RowsAre}
use Rattle.shop_model.specs.Figures.{SalesAddUp}
use Rattle.shop_model.proofs.RowLemmas.{same_if, differ_if, equal_test, differ_test, at_zero}
use Rattle.shop_model.proofs.LinkLemmas.{all_at, all_joined}
use Rattle.shop_model.proofs.CustodyLemmas.{total-map}
use Rattle.shop_model.proofs.StockFigures.{row_there, not_first}

-- ---- sums

insert_total : {A : Type 0} (w : A → ℕ) (before : A → A → Bool) (x : A) (ys : List A) → total w (insert_by before x ys) ≡ w x + total w ys
insert_total w before x [] = refl
insert_total w before x (y ∷ ys) = elim (cases_Bool (before x y)) [
  | inl is ↦ rw is refl
  | inr isnt ↦ let more = insert_total w before x ys in rw isnt (omega (arith, more))
]

sorted_total : {A : Type 0} (w : A → ℕ) (before : A → A → Bool) (xs : List A) → total w (sorted_by before xs) ≡ total w xs
sorted_total w before [] = refl
sorted_total w before (x ∷ xs) = insert_total w before x (sorted_by before xs) ∙ ap (λ (n : ℕ). w x + n) (sorted_total w before xs)

-- what counts nothing may be left out
filtered_total : {A : Type 0} (w : A → ℕ) (p : A → Bool) (xs : List A) → ((x : A) → p x ≡ false → w x ≡ 0) → total w (filter p xs) ≡ total w xs
filtered_total w p [] none = refl
filtered_total w p (x ∷ xs) none = elim (cases_Bool (p x)) [
  | inl is ↦ rw is (ap (λ (n : ℕ). w x + n) (filtered_total w p xs none))
  | inr isnt ↦ let empty = none x isnt in let more = filtered_total w p xs none in rw isnt (omega (arith, empty, more))
]

nothing : {A : Type 0} (xs : List A) → total (λ (_ : A). 0) xs ≡ 0
nothing [] = refl
nothing (x ∷ xs) = let more = nothing xs in omega (arith, more)

one_more_each : {A B : Type 0} (w : A → ℕ) (q : B → A → Bool) (x : A) (xs : List A) (cs : List B)
    → total (λ (c : B). total w (filter (q c) (x ∷ xs))) cs ≡ total (λ (c : B). if q c x then w x else 0) cs + total (λ (c : B). total w (filter (q c) xs)) cs
one_more_each w q x xs [] = refl
one_more_each w q x xs (c ∷ cs) =
    let more = one_more_each w q x xs cs in
    elim (cases_Bool (q c x)) [ inl is ↦ rw is (omega (arith, more)) | inr isnt ↦ rw isnt (omega (arith, more)) ]

-- where each item counts in one class, the sums of the classes add up
add_up : {A B : Type 0} (w : A → ℕ) (q : B → A → Bool) (cs : List B) (xs : List A)
    → AllByRecursion (λ (x : A). total (λ (c : B). if q c x then w x else 0) cs ≡ w x) xs
    → total (λ (c : B). total w (filter (q c) xs)) cs ≡ total w xs
add_up w q cs [] all = nothing cs
add_up w q cs (x ∷ xs) all =
    let split = one_more_each w q x xs cs in
    let this = all.0 in
    let more = add_up w q cs xs all.1 in
    omega (arith, split, this, more)

-- of numbered rows one has that number, where there is one
one_number : {A : Type 0} (m w k : ℕ) (xs : List A)
    → total (λ (c : ℕ × A). if m == c.0 || false then w else 0) (numbered_from k xs) ≡ (if is_empty (at (m + 1 - k) xs) then 0 else w)
one_number m w k [] = refl
one_number {A = A} m w k (x ∷ xs) = elim (cases_Bool (m == k)) [
  | inl is ↦
      let e : m ≡ k = same_if m k is in
      let here : ((m + 1 - k) == 1) ≡ true = equal_test (m + 1 - k) 1 (omega (arith, e)) in
      let past : m + 1 - (k + 1) ≡ 0 = omega (arith, e) in
      let none : total (λ (c : ℕ × A). if m == c.0 || false then w else 0) (numbered_from (k + 1) xs) ≡ 0 =
      one_number m w (k + 1) xs ∙ rw (past, at_zero xs) refl in
      rw (is, here) (omega (arith, none))
  | inr isnt ↦
      let there : ((m + 1 - k) == 1) ≡ false = differ_test (m + 1 - k) 1 (not_first m k (differ_if m k isnt)) in
      let further : m + 1 - (k + 1) ≡ m + 1 - k - 1 = omega arith in
      let more : total (λ (c : ℕ × A). if m == c.0 || false then w else 0) (numbered_from (k + 1) xs) ≡ (if is_empty (at (m + 1 - k - 1) xs) then 0 else w) =
      one_number m w (k + 1) xs ∙ rw further refl in
      rw (isnt, there) (omega (arith, more))
]

-- ---- paid rentals

all_true : {A : Type 0} (xs : List A) → list_all (λ (_ : A). true) xs ≡ true
all_true [] = refl
all_true (x ∷ xs) = all_true xs

each_of : {A : Type 0} (p : A → Bool) (P : A → Type 0) (xs : List A) → ((x : A) → p x ≡ true → P x) → list_all p xs ≡ true → AllByRecursion P xs
each_of p P [] gives all = tt
each_of p P (x ∷ xs) gives all = let h = and_parts (p x) (list_all p xs) all in (gives x h.0, each_of p P xs gives h.1)

rentals_paid : (p : Rental → Bool) (shop : Shop) → list_all p shop.rentals ≡ true → list_all (λ (it : Payment × Rental). p it.1) (paid_rentals shop) ≡ true
rentals_paid p shop all =
    all_joined (λ (it : Payment × Rental). p it.1) (λ _. true)
    (λ (payment : Payment). map (λ (r : Rental). (payment, r)) (flat_map (λ n. at n shop.rentals) (option_to_list payment.rental))) shop.payments
    (λ payment _.
    list_all-map (λ (it : Payment × Rental). p it.1) (λ (r : Rental). (payment, r)) (flat_map (λ n. at n shop.rentals) (option_to_list payment.rental))
    ∙ all_joined p (λ _. true) (λ n. at n shop.rentals) (option_to_list payment.rental)
    (λ n _. all_at p n shop.rentals all) (all_true (option_to_list payment.rental)))
    (all_true shop.payments)

-- each of them counts in one category
one_category : (rules : Rules) (b : ℕ) (catalogue : Catalogue) (shop : Shop) → IsGoodCatalogue rules catalogue
    → IsLinkedShop b catalogue shop → (it : Payment × Rental) → has_row shop.copies it.1.copy ≡ true
    → total (λ (c : ℕ × Text). if list_any (λ (f : Film). f.category == c.0) (film_of catalogue shop it.1) then it.0.amount else 0)
    (numbered catalogue.categories)
    ≡ it.0.amount
one_category rules b catalogue shop good linked it there =
    let copy = row_there it.1.copy shop.copies there in
    let its : list_all (λ (it : Copy). has_row catalogue.films it.film) (copy.0 ∷ []) ≡ true =
    rw copy.1 at (all_at (λ (it : Copy). has_row catalogue.films it.film) it.1.copy shop.copies linked.copy_films) in
    let film = row_there copy.0.film catalogue.films (and_parts (has_row catalogue.films copy.0.film) true its).0 in
    let in_category : list_all (λ (it : Film). has_row catalogue.categories it.category) (film.0 ∷ []) ≡ true =
    rw film.1 at (all_at (λ (it : Film). has_row catalogue.categories it.category) copy.0.film catalogue.films good.names.film_categories) in
    let category = row_there film.0.category catalogue.categories (and_parts (has_row catalogue.categories film.0.category) true in_category).0 in
    let what : film_of catalogue shop it.1 ≡ film.0 ∷ [] =
    ap (flat_map (λ (it : Copy). at it.film catalogue.films)) copy.1 ∙ append-nil (at copy.0.film catalogue.films) ∙ film.1 in
    let back : film.0.category + 1 - 1 ≡ film.0.category = omega arith in
    ap (λ (films : List Film).
    total (λ (c : ℕ × Text). if list_any (λ (f : Film). f.category == c.0) films then it.0.amount else 0) (numbered catalogue.categories))
    what
    ∙ one_number film.0.category it.0.amount 1 catalogue.categories ∙ rw (back, category.1) refl

-- ---- sales

no_takings : (pairs : List (Payment × Rental)) → is_empty pairs ≡ true → takings pairs ≡ 0
no_takings [] none = refl
no_takings (it ∷ pairs) none = absurd (false≢true none)

store_total : (b : ℕ) (catalogue : Catalogue) (shop : Shop) → has_row catalogue.branches b ≡ true
    → total (λ (row : StoreRow). row.total) (sales_by_store b catalogue shop) ≡ takings (paid_rentals shop)
store_total b catalogue shop there = elim (cases_Bool (is_empty (paid_rentals shop))) [
  | inl none ↦ rw none (sym (no_takings (paid_rentals shop) none))
  | inr some ↦
      let branch = row_there b catalogue.branches there in
      rw (some, branch.1) (add-zero (takings (paid_rentals shop)))
]

category_total : (rules : Rules) (b : ℕ) (catalogue : Catalogue) (shop : Shop) → IsGoodCatalogue rules catalogue → IsLinkedShop b catalogue shop
    → total (λ (row : Text × ℕ). row.1) (sales_by_category catalogue shop) ≡ takings (paid_rentals shop)
category_total rules b catalogue shop good linked =
    let categories = numbered catalogue.categories in
    let amount : Payment × Rental → ℕ = λ it. it.0.amount in
    let row : ℕ × Text → Text × ℕ = λ c. (c.1, takings (sales_of catalogue shop c.0)) in
    let shown : ℕ × Text → Bool = λ c. not (is_empty (sales_of catalogue shop c.0)) in
    let within : ℕ × Text → Payment × Rental → Bool = λ c it. list_any (λ (f : Film). f.category == c.0) (film_of catalogue shop it.1) in
    sorted_total (λ (it : Text × ℕ). it.1) sells_more (map row (filter shown categories))
    ∙ total-map (λ (it : Text × ℕ). it.1) row (filter shown categories)
    ∙ filtered_total (λ (c : ℕ × Text). takings (sales_of catalogue shop c.0)) shown categories
    (λ c none. no_takings (sales_of catalogue shop c.0) (not-false _ none))
    ∙ add_up amount within categories (paid_rentals shop)
    (each_of (λ (it : Payment × Rental). has_row shop.copies it.1.copy)
    (λ (it : Payment × Rental). total (λ (c : ℕ × Text). if within c it then amount it else 0) categories ≡ amount it) (paid_rentals shop)
    (λ it there. one_category rules b catalogue shop good linked it there)
    (rentals_paid (λ (it : Rental). has_row shop.copies it.copy) shop linked.rental_copies))

map_joined : {A B C : Type 0} (g : B → C) (f : A → List B) (xs : List A) → map g (flat_map f xs) ≡ flat_map (λ (x : A). map g (f x)) xs
map_joined g f [] = refl
map_joined {C = C} g f (x ∷ xs) = map-append g (f x) (flat_map f xs) ∙ ap (λ (rest : List C). map g (f x) ++ rest) (map_joined g f xs)

pub add_up_sales : SalesAddUp
add_up_sales rules books sound = record {
  sums = λ b there.
      store_total b books.catalogue (shop_of b books) there ∙ sym (category_total rules b books.catalogue (shop_of b books) sound.catalogue (sound.links b));
  rows =
      ap (λ (texts : List Text). Shows (RowsAre texts))
      (map_joined listed_store (λ (it : ℕ × Branch). sales_by_store it.0 books.catalogue (shop_of it.0 books)) (numbered books.catalogue.branches));
}
