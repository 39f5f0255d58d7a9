-- Sales that are added to the sums of their categories.
use Rattle.shop_schema.proofs.Common.{◌≡◌, suc, length, take, drop, get_or, set, add-one, drop-cons, ◌≤◌, ◌<◌, ◌==◌, ◌||◌, ◌+◌, ◌-◌, ℕ, List, [], ◌∷◌, ◌++◌}
use Rattle.shop_schema.proofs.Common.{map, filter, true, false, Bool, not, cond, Option, Some, None, refl, sym, ap, ◌∙◌, arith, append-nil, if◌then◌else◌}
use Rattle.shop_schema.proofs.Common.{unwrap_or, is_some, option_to_list, map-append, take-append-drop, take-set, drop-set, length-take-le, filter-append}
use Rattle.shop_schema.proofs.Common.{nat_tests, or_null, column, number_value, set_at, numbered_from, is_empty, Text, Rental, Payment, Shop, Books, shop_of}
use Rattle.shop_schema.proofs.Common.{takings, sales_of, sales_by_category, sells_more, sorted_by, equal_test, length-map, same_number}
use Rattle.sqlite_value.specs.Order as sql
use Rattle.view_texts.specs.Payments.{PaidLine, shown_line, Sale, sale, sale_in, is_sale_of}
use Rattle.view_texts.specs.Sales.{sum_of}
use Rattle.view_texts.specs.declared.categories.CategorySum.{CategorySum}
use Rattle.view_texts.specs.CategorySums.{seen_sum, sum_in, summed, with_amount, sold, sales_of_branch}
use Rattle.view_texts.proofs.PaymentLines.{sales_are, takings_are}
use Rattle.view_texts.proofs.SalesLines.{sum_more}

module _ (sales : List Sale) (it : Sale) where
  -- the sale is none of the category
  other : (c : ℕ × Text) → is_sale_of c.0 it ≡ false → sum_in sales c ≡ sum_in (sales ++ it ∷ []) c
  other c fails =
      ap (λ l. (c.1, sum_of l))
      (sym (filter-append (is_sale_of c.0) sales (it ∷ []) ∙ ap (λ t. filter (is_sale_of c.0) sales ++ cond t (it ∷ []) []) fails
      ∙ append-nil (filter (is_sale_of c.0) sales)))

  its_own : (c : ℕ × Text) → is_sale_of c.0 it ≡ true → with_amount it.amount (sum_in sales c) ≡ sum_in (sales ++ it ∷ []) c
  its_own c passes =
      ap (λ o. (c.1, o))
      (sum_more (sum_of (filter (is_sale_of c.0) sales)) (filter (is_sale_of c.0) sales) it refl
      ∙ ap sum_of (sym (filter-append (is_sale_of c.0) sales (it ∷ []) ∙ ap (λ t. filter (is_sale_of c.0) sales ++ cond t (it ∷ []) []) passes)))

  others : (k : ℕ) (names : List Text) → ((n : ℕ) → k ≤ n → is_sale_of n it ≡ false)
      → map (sum_in sales) (numbered_from k names) ≡ map (sum_in (sales ++ it ∷ [])) (numbered_from k names)
  others k [] fails = refl
  others k (name ∷ names) fails = (λ i. other (k, name) (fails k (omega arith)) i ∷ others (k + 1) names (λ n low. fails n (omega (arith, low))) i)

is_own : (c n : ℕ) (t : Bool) → (c == n) ≡ t → (c == n || false) ≡ t
is_own c n true is = ap (λ b. b || false) is
is_own c n false is = ap (λ b. b || false) is

not_same : (c n : ℕ) → c < n → (c == n) ≡ false
not_same c n h = grind (arith, nat_tests)

not_one : (c n : ℕ) → n < c → (c == n) ≡ false
not_one c n h = grind (arith, nat_tests)

added_from : (sales : List Sale) (amount c k n : ℕ) (names : List Text) → 1 ≤ n → c + 1 ≡ k + n
    → set_at n (with_amount amount) (map (sum_in sales) (numbered_from k names))
    ≡ map (sum_in (sales ++ record { amount = amount; category = Some c } ∷ [])) (numbered_from k names)
added_from sales amount c k n [] low is = refl
added_from sales amount c k n (name ∷ names) low is = go (n == 1) refl (λ low is. added_from sales amount c (k + 1) (n - 1) names low is)
  where
    it : Sale
    it = record { amount = amount; category = Some c }

    one : (n == 1) ≡ true → n ≡ 1
    one passes = grind (arith, nat_tests)

    more : (n == 1) ≡ false → 2 ≤ n
    more fails = grind (arith, nat_tests)

    go : (t : Bool) → (n == 1) ≡ t
        → (1 ≤ n - 1 → c + 1 ≡ (k + 1) + (n - 1)
        → set_at (n - 1) (with_amount amount) (map (sum_in sales) (numbered_from (k + 1) names))
        ≡ map (sum_in (sales ++ record { amount = amount; category = Some c } ∷ [])) (numbered_from (k + 1) names))
        → (if t then with_amount amount (sum_in sales (k, name)) ∷ map (sum_in sales) (numbered_from (k + 1) names)
        else sum_in sales (k, name) ∷ set_at (n - 1) (with_amount amount) (map (sum_in sales) (numbered_from (k + 1) names)))
        ≡ sum_in (sales ++ record { amount = amount; category = Some c } ∷ []) (k, name)
        ∷ map (sum_in (sales ++ record { amount = amount; category = Some c } ∷ [])) (numbered_from (k + 1) names)
    go true passes rest =
        let first : n ≡ 1 = one passes in
        (λ i. its_own sales (record { amount = amount; category = Some c }) (k, name) (is_own c k true (equal_test c k (omega (arith, is, first)))) i
        ∷ others sales (record { amount = amount; category = Some c }) (k + 1) names (λ m h. is_own c m false (not_same c m (omega (arith, is, first, h)))) i)
    go false fails rest =
        let later : 2 ≤ n = more fails in
        (λ i.
        other sales (record { amount = amount; category = Some c }) (k, name) (is_own c k false (not_one c k (omega (arith, is, later)))) i
        ∷ rest (omega (arith, later)) (omega (arith, is, later)) i)

-- ---- the row of a payment

module _ (row : sql.Row) (line : PaidLine) (is : row ≡ shown_line line) (names : List Text) (sales : List Sale) where
  abbrev next : Option ℕ → Option ℕ → List Sale
  next rental category = sales ++ map (λ (_ : ℕ). record { amount = line.amount; category = category }) (option_to_list rental)

  -- a sale
  pub sale_added : (found : Option ℕ) (c amount place : ℕ) → column row 1 ≡ or_null number_value found
      → is_some found ≡ true → column row 2 ≡ or_null number_value (Some c)
      → column row 0 ≡ number_value amount → place + 1 ≡ c → set_at (place + 1) (with_amount amount) (summed names sales) ≡ summed names (sales ++ sale_in line)
  sale_added None c amount place at1 there at2 at0 at_place = absurd cc
  sale_added (Some n) c amount place at1 there at2 at0 at_place =
      go line.rental line.category (sym at1 ∙ ap (λ r. column r 1) is) (sym at2 ∙ ap (λ r. column r 2) is)
    where
      amounts : amount ≡ line.amount
      amounts = same_number _ _ (sym at0 ∙ ap (λ r. column r 0) is)

      go : (rental category : Option ℕ) → or_null number_value (Some n) ≡ or_null number_value rental
          → or_null number_value (Some c) ≡ or_null number_value category
          → set_at (place + 1) (with_amount amount) (summed names sales) ≡ summed names (next rental category)
      go None category e1 e2 = absurd cc
      go (Some m) None e1 e2 = absurd cc
      go (Some m) (Some d) e1 e2 =
          let same : c ≡ d = same_number _ _ e2 in
          ap (λ a. set_at (place + 1) (with_amount a) (summed names sales)) amounts
          ∙ added_from sales line.amount d 1 (place + 1) names (omega arith) (omega (arith, same, at_place))

-- ---- all of them

module _ (b : ℕ) (books : Books) where
  abbrev shop : Shop
  shop = shop_of b books

  abbrev brings : ℕ × Text → List (Payment × Rental)
  brings c = sales_of books.catalogue shop c.0

  abbrev is_shown : ℕ × Text → Bool
  is_shown c = not (is_empty (brings c))

  abbrev row_of : ℕ × Text → Text × ℕ
  row_of c = (c.1, takings (brings c))

  each_sold : (cs : List (ℕ × Text)) → sold (map (sum_in (sales_of_branch b books)) cs) ≡ map row_of (filter is_shown cs)
  each_sold [] = refl
  each_sold (c ∷ cs) =
      ap (λ l. map (λ n. (c.1, n)) (option_to_list (sum_of l)) ++ sold (map (sum_in (sales_of_branch b books)) cs)) (sym (sales_are books.catalogue shop c.0))
      ∙ go (brings c) refl (each_sold cs)
    where
      go : (l : List (Payment × Rental)) → brings c ≡ l → sold (map (sum_in (sales_of_branch b books)) cs) ≡ map row_of (filter is_shown cs)
          → map (λ n. (c.1, n)) (option_to_list (sum_of (map (sale books.catalogue shop) l))) ++ sold (map (sum_in (sales_of_branch b books)) cs)
          ≡ map row_of (cond (not (is_empty l)) (c ∷ filter is_shown cs) (filter is_shown cs))
      go [] e more = more
      go (x ∷ l) e more = (λ i. (c.1, (sym (takings_are books.catalogue shop (x ∷ l)) ∙ ap takings (sym e)) i) ∷ more i)

  pub all_sold : sorted_by sells_more (sold (summed books.catalogue.categories (sales_of_branch b books))) ≡ sales_by_category books.catalogue shop
  all_sold = ap (sorted_by sells_more) (each_sold (numbered_from 1 books.catalogue.categories))

-- ---- one sum

module _ (amount : ℕ) where
  seen_set : (before after : List (Text × Option ℕ)) (it : Text × Option ℕ)
      → set_at (length before + 1) (with_amount amount) (before ++ it ∷ after) ≡ before ++ with_amount amount it ∷ after
  seen_set [] after it = refl
  seen_set (x ∷ before) after it =
      ap (λ t. if t then with_amount amount x ∷ before ++ it ∷ after else x ∷ set_at (length (x ∷ before) + 1 - 1) (with_amount amount) (before ++ it ∷ after))
      (beyond (length before))
      ∙ ap (λ n. x ∷ set_at n (with_amount amount) (before ++ it ∷ after)) (omega arith) ∙ ap (λ l. x ∷ l) (seen_set before after it)
    where
      beyond : (n : ℕ) → (suc n + 1 == 1) ≡ false
      beyond n = grind (arith, nat_tests)

  module _ (xs : List CategorySum) (i : ℕ) (it : CategorySum) (inside : i < length xs) where
    abbrev before : List (Text × Option ℕ)
    before = map seen_sum (take i xs)

    abbrev after : List (Text × Option ℕ)
    after = map seen_sum (drop (i + 1) xs)

    set_parts : (y : CategorySum) → map seen_sum (set xs i y) ≡ before ++ seen_sum y ∷ after
    set_parts y =
        ap (map seen_sum) (sym (take-append-drop i (set xs i y)) ∙ (λ k. take-set xs i y k ++ drop-set xs i y inside k))
        ∙ map-append seen_sum (take i xs) (y ∷ drop (i + 1) xs)

    parts : it ≡ get_or xs i it → map seen_sum xs ≡ before ++ seen_sum it ∷ after
    parts is =
        ap (map seen_sum) (sym (take-append-drop i xs) ∙ ap (λ l. take i xs ++ l) (drop-cons xs i it inside ∙ (λ k. sym is k ∷ drop (sym (add-one i) k) xs)))
        ∙ map-append seen_sum (take i xs) (it ∷ drop (i + 1) xs)

    -- the sum in this place with the amount more
    pub amount_set : (sum : ℕ) → it ≡ get_or xs i it → sum ≡ unwrap_or it.sum 0 + amount
        → map seen_sum (set xs i (record { name = it.name; sum = Some sum })) ≡ set_at (i + 1) (with_amount amount) (map seen_sum xs)
    amount_set sum is added =
        set_parts (record { name = it.name; sum = Some sum }) ∙ ap (λ n. before ++ (it.name, Some n) ∷ after) added
        ∙ sym (seen_set before after (it.name, it.sum))
        ∙ ap (λ n. set_at (n + 1) (with_amount amount) (before ++ seen_sum it ∷ after))
        (length-map seen_sum (take i xs) ∙ length-take-le i xs (omega (arith, inside)))
        ∙ ap (set_at (i + 1) (with_amount amount)) (sym (parts is))
