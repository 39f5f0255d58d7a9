-- The lines of the payments' join, and the sales that they are, by one branch's shop.
use Rattle.shop_schema.proofs.Common.{◌≡◌, ◌==◌, ◌&&◌, ℕ, List, [], ◌∷◌, ◌++◌, ◌+◌, map, filter, true, false, Bool, cond, Option, Some, None, refl, sym, ap}
use Rattle.shop_schema.proofs.Common.{subst, ◌∙◌, append-nil, inl, ◌⊎◌, option_to_list, flat_map, list_any, map-id, or_null, State, map-map, map-flat_map}
use Rattle.shop_schema.proofs.Common.{flat_map-map, flat_map_same_on, filter-map, filter_same, number_value, Row, at, is_of, is_row, of, total, IsCounted, Film}
use Rattle.shop_schema.proofs.Common.{Copy, Rental, Payment, Catalogue, Shop, Books, BookCopy, head, unmarked, shop_of, film_of, HasNumbers, paid_rentals}
use Rattle.shop_schema.proofs.Common.{takings, sales_of, same_if, row_at, at_one, IsShop, StandsFor, CopyRows, Rentals}
use Rattle.sqlite.specs.State.{Shown}
use Rattle.view_texts.specs.Payments.{PaidLine, shown_line, rentals_of, category_in, paid_line, paid_lines, Sale, sale, sale_in, is_sale_of}
use Rattle.view_texts.proofs.CopyFilms.{copy_films}
use Rattle.view_texts.proofs.PaymentJoin.{rental_rows, rental_films, shown_payment, shows_payments}
use Rattle.view_texts.proofs.Lefts.{one_at_most}
use Rattle.view_texts.specs.declared.stores.TheConstants.{SELECT_PAYMENTS}
use Rattle.sqlite_value.specs.Order as sql

-- ---- a branch's rows

pub rows_at : {A : Type 0} (b n : ℕ) (rows : List (Row A)) → IsCounted 1 (map (λ row. row.number) (filter (is_of b) rows))
    → map (λ row. row.it) (filter (is_row b n) rows) ≡ at n (of b rows)
rows_at b n rows counted = row_at (λ it. it) b n rows counted ∙ ap (at n) (map-id (of b rows))

-- the rows of a number have that number
numbers_of : {A : Type 0} (b n : ℕ) (rows : List (Row A))
    → map (λ row. row.number) (filter (is_row b n) rows) ≡ map (λ (_ : A). n) (map (λ row. row.it) (filter (is_row b n) rows))
numbers_of b n [] = refl
numbers_of {A} b n (row ∷ rows) = go (row.branch == b) (row.number == n) refl (numbers_of b n rows)
  where
    P : Bool → Type 0
    P t =
        map (λ (it : Row A). it.number) (cond t (row ∷ filter (is_row b n) rows) (filter (is_row b n) rows))
        ≡ map (λ (_ : A). n) (map (λ (it : Row A). it.it) (cond t (row ∷ filter (is_row b n) rows) (filter (is_row b n) rows)))

    go : (s t : Bool) → (row.number == n) ≡ t → P false → P (s && t)
    go true true is more = (λ i. same_if row.number n is i ∷ more i)
    go true false is more = more
    go false t is more = more

each_of : {A Z : Type 0} (b : ℕ) (f : Row A → Z) (g : A → Z) → ((x : Row A) → x.branch ≡ b → f x ≡ g x.it)
    → (xs : List (Row A)) → map f (filter (is_of b) xs) ≡ map g (of b xs)
each_of b f g same [] = refl
each_of {A} {Z} b f g same (x ∷ xs) = go (x.branch == b) refl (each_of b f g same xs)
  where
    P : Bool → Type 0
    P t =
        map f (cond t (x ∷ filter (is_of b) xs) (filter (is_of b) xs))
        ≡ map g (map (λ (row : Row A). row.it) (cond t (x ∷ filter (is_of b) xs) (filter (is_of b) xs)))

    go : (t : Bool) → (x.branch == b) ≡ t → P false → P t
    go true is more = (λ i. same x (same_if x.branch b is) i ∷ more i)
    go false is more = more

-- ---- one payment

module _ (books : Books) (held : HasNumbers books) (b : ℕ) where
  abbrev shop : Shop
  shop = shop_of b books

  pub films_are : (rental : Rental) → copy_films books (filter (is_row b rental.copy) books.copies) ≡ film_of books.catalogue shop rental
  films_are rental =
      sym (flat_map-map (λ (copy : Copy). at copy.film books.catalogue.films)
      (λ (row : Row BookCopy). unmarked row.it) (filter (is_row b rental.copy) books.copies))
      ∙ ap (flat_map (λ (copy : Copy). at copy.film books.catalogue.films)) (row_at unmarked b rental.copy books.copies (held.rows CopyRows b))

  all_films : (rentals : List (Row Rental)) → rental_films books b rentals ≡ flat_map (film_of books.catalogue shop) (map (λ row. row.it) rentals)
  all_films rentals =
      flat_map_same_on _ (λ (row : Row Rental). film_of books.catalogue shop row.it) (λ row. films_are row.it) rentals
      ∙ sym (flat_map-map (film_of books.catalogue shop) (λ (row : Row Rental). row.it) rentals)

  abbrev found : Option ℕ → List (Row Rental)
  found o = flat_map (λ n. filter (is_row b n) books.rentals) (option_to_list o)

  rentals_are : (o : Option ℕ) → map (λ row. row.it) (found o) ≡ flat_map (λ n. at n shop.rentals) (option_to_list o)
  rentals_are o =
      map-flat_map (λ (row : Row Rental). row.it) (λ n. filter (is_row b n) books.rentals) (option_to_list o)
      ∙ flat_map_same_on _ (λ n. at n shop.rentals) (λ n. rows_at b n books.rentals (held.rows Rentals b)) (option_to_list o)

  numbers_are : (o : Option ℕ) → map (λ row. row.number) (found o) ≡ flat_map (λ n. map (λ (_ : Rental). n) (at n shop.rentals)) (option_to_list o)
  numbers_are o =
      map-flat_map (λ (row : Row Rental). row.number) (λ n. filter (is_row b n) books.rentals) (option_to_list o)
      ∙ flat_map_same_on _ (λ n. map (λ (_ : Rental). n) (at n shop.rentals))
      (λ n. numbers_of b n books.rentals ∙ ap (map (λ (_ : Rental). n)) (rows_at b n books.rentals (held.rows Rentals b))) (option_to_list o)

  line_is : (x : Row Payment) → x.branch ≡ b → shown_payment books x ≡ shown_line (paid_line books.catalogue shop x.it)
  line_is x mine =
      let numbers : map (λ (row : Row Rental). row.number) (rental_rows books x)
      ≡ flat_map (λ n. map (λ (_ : Rental). n) (at n shop.rentals)) (option_to_list x.it.rental) =
      ap (λ c. map (λ (row : Row Rental). row.number) (flat_map (λ n. filter (is_row c n) books.rentals) (option_to_list x.it.rental))) mine
      ∙ numbers_are x.it.rental in
      let films : rental_films books x.branch (rental_rows books x) ≡ flat_map (film_of books.catalogue shop) (rentals_of shop x.it) =
      ap (λ c. rental_films books c (flat_map (λ n. filter (is_row c n) books.rentals) (option_to_list x.it.rental))) mine
      ∙ all_films (found x.it.rental) ∙ ap (flat_map (film_of books.catalogue shop)) (rentals_are x.it.rental) in
      (λ i. number_value x.it.amount ∷ or_null number_value (head (numbers i)) ∷ or_null number_value (category_in (films i)) ∷ [])

-- the branch's payments, each with what its rental has to say, in the order of their numbers
pub shows_lines : (old new : State) (b : ℕ) (rows : List sql.Row) (books : Books) → IsShop old
    → Shown SELECT_PAYMENTS.now (number_value b ∷ []) old new rows → StandsFor old.now.trees books → HasNumbers books
    → rows ≡ map shown_line (paid_lines b books)
shows_lines old new b rows books shop h s held =
    let line : Payment → PaidLine = paid_line books.catalogue (shop_of b books) in
    shows_payments old new b rows books shop h s held
    ∙ each_of b (shown_payment books) (λ payment. shown_line (line payment)) (line_is books held b) books.payments
    ∙ sym (map-map shown_line line (of b books.payments))

-- ---- sales

module _ (catalogue : Catalogue) (shop : Shop) where
  sale_is : (payment : Payment)
      → map (sale catalogue shop) (map (λ rental. (payment, rental)) (rentals_of shop payment)) ≡ sale_in (paid_line catalogue shop payment)
  sale_is payment = go payment.rental
    where
      P : ℕ → List Rental → Type 0
      P n l = map (sale catalogue shop) (map (λ rental. (payment, rental)) (l ++ []))
          ≡ map (λ (_ : ℕ). record { amount = payment.amount; category = category_in (flat_map (film_of catalogue shop) (l ++ [])) })
          (option_to_list (head (map (λ (_ : Rental). n) l ++ [])))

      go : (o : Option ℕ) → map (sale catalogue shop) (map (λ rental. (payment, rental)) (flat_map (λ n. at n shop.rentals) (option_to_list o)))
          ≡ map (λ (_ : ℕ).
          record {
            amount = payment.amount;
            category = category_in (flat_map (film_of catalogue shop) (flat_map (λ n. at n shop.rentals) (option_to_list o)));
          })
          (option_to_list (head (flat_map (λ n. map (λ (_ : Rental). n) (at n shop.rentals)) (option_to_list o))))
      go None = refl
      go (Some n) =
          one_at_most (P n) refl
          (λ rental. ap (λ films. record { amount = payment.amount; category = category_in films } ∷ []) (sym (append-nil (film_of catalogue shop rental))))
          (at n shop.rentals)
          (at_one n shop.rentals)

  -- the payments that have a rental are the sales, in their order
  pub paid_are : map (sale catalogue shop) (paid_rentals shop) ≡ flat_map sale_in (map (paid_line catalogue shop) shop.payments)
  paid_are =
      map-flat_map (sale catalogue shop) (λ (payment : Payment). map (λ rental. (payment, rental)) (rentals_of shop payment)) shop.payments
      ∙ flat_map_same_on _ (λ payment. sale_in (paid_line catalogue shop payment)) sale_is shop.payments
      ∙ sym (flat_map-map sale_in (paid_line catalogue shop) shop.payments)

  pub one_film : (rental : Rental) → (film_of catalogue shop rental ≡ []) ⊎ ((film : Film) × (film_of catalogue shop rental ≡ film ∷ []))
  one_film rental =
      one_at_most (λ l. Q (films l)) (inl refl) (λ copy. subst Q (sym (append-nil (at copy.film catalogue.films))) (at_one copy.film catalogue.films))
      (at rental.copy shop.copies) (at_one rental.copy shop.copies)
    where
      films : List Copy → List Film
      films l = flat_map (λ (copy : Copy). at copy.film catalogue.films) l

      Q : List Film → Type 0
      Q l = (l ≡ []) ⊎ ((film : Film) × (l ≡ film ∷ []))

  is_sale : (category : ℕ) (it : Payment × Rental)
      → list_any (λ (film : Film). film.category == category) (film_of catalogue shop it.1) ≡ is_sale_of category (sale catalogue shop it)
  is_sale category it =
      one_at_most (λ l. list_any (λ (film : Film). film.category == category) l ≡ list_any (λ c. c == category) (option_to_list (category_in l))) refl
      (λ film. refl)
      (film_of catalogue shop it.1) (one_film it.1)

  -- the sales whose film is of a category are the category's sales
  pub sales_are : (category : ℕ)
      → map (sale catalogue shop) (sales_of catalogue shop category)
      ≡ filter (is_sale_of category) (flat_map sale_in (map (paid_line catalogue shop) shop.payments))
  sales_are category =
      ap (map (sale catalogue shop)) (filter_same _ (λ it. is_sale_of category (sale catalogue shop it)) (is_sale category) (paid_rentals shop))
      ∙ sym (filter-map (is_sale_of category) (sale catalogue shop) (paid_rentals shop))
      ∙ ap (filter (is_sale_of category)) paid_are

  -- what pairs brought is what their sales brought
  pub takings_are : (pairs : List (Payment × Rental)) → takings pairs ≡ total (λ (it : Sale). it.amount) (map (sale catalogue shop) pairs)
  takings_are [] = refl
  takings_are (it ∷ pairs) = ap (λ n. it.0.amount + n) (takings_are pairs)
