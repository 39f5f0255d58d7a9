-- The payments' join: what its text means, and what it shows of the books. It shows each payment of the branch, with its rental's number and the category of
-- the rental's film.
use Rattle.shop_schema.proofs.Common.{◌≡◌, ◌==◌, ◌&&◌, ℕ, List, [], ◌∷◌, map, filter, true, cond, refl, sym, ap, ◌∙◌, append-nil, option_to_list, flat_map}
use Rattle.shop_schema.proofs.Common.{Value, Null, or_null, column, Trees, col, Output, overlay, State, columns_of, number_value, answers, shown_of, equals}
use Rattle.shop_schema.proofs.Common.{Row, is_of, is_row, Film, Rental, Payment, Books, head, HasNumbers, shop_schema, rental_columns, payment_columns, IsShop}
use Rattle.shop_schema.proofs.Common.{StandsFor, CopyRows, Payments, Rentals, ascending, Key, Binary, Term, Query, Join, inner, left, end, IsQuery, Selects}
use Rattle.shop_schema.proofs.Common.{is_query, joined_query, are_equal}
use Rattle.sqlite.specs.State.{Shown}
use Rattle.shop_schema.proofs.Lists.{picks_row}
use Rattle.view_texts.specs.Payments.{category_in}
use Rattle.view_texts.proofs.Lefts.{by_pair_option}
use Rattle.view_texts.proofs.CopyFilms.{copy_films, of_copy, of_no_copy}
use Rattle.view_texts.proofs.Orders.{counted_rise, kept_if, shows_kept}
use Rattle.view_texts.specs.declared.stores.TheConstants.{SELECT_PAYMENTS}
use Rattle.sqlite_value.specs.Order as sql
use Rattle.sqlite_tied.specs.Compute.{everything}
use Rattle.sqlite.specs.Listing.{understood}
use Rattle.shop_schema.specs.Trees.{category_tree, copy_tree, film_tree, rental_tree}

-- ---- what its text means

-- what is joined to a copy, to a rental, and to a payment
abbrev pub with_film : Join
with_film = left film_tree (are_equal (col 4 1) (col 3 3) ∷ []) end

abbrev pub with_copy : Join
with_copy = left copy_tree (are_equal (col 3 1) (col 1 1) ∷ are_equal (col 3 2) (col 2 4) ∷ []) with_film

abbrev pub with_rental : Join
with_rental = left rental_tree (are_equal (col 2 1) (col 1 1) ∷ are_equal (col 2 2) (col 1 5) ∷ []) with_copy

abbrev pub payment_tests : List Term
payment_tests = are_equal (col 1 1) (col 0 0) ∷ []

abbrev pub payment_shows : List Term
payment_shows = col 1 6 ∷ col 2 2 ∷ col 4 5 ∷ []

abbrev pub payment_order : List (Term × Key)
payment_order = (col 1 2, ascending Binary) ∷ []

abbrev pub payments_query : Query
payments_query = joined_query (inner 30 with_rental) payment_tests payment_shows payment_order

pub payments_mean : Selects shop_schema SELECT_PAYMENTS.now payments_query
unfolding understood everything
payments_mean = record { names = _; is = refl; plain = (refl, refl); unlisted = refl }

pub payments_ask : IsQuery SELECT_PAYMENTS.now
unfolding everything
payments_ask = is_query SELECT_PAYMENTS.now (record { parsed = _; is = refl; selects = refl; untimed = refl })

-- by the rows of the payment's branch: its rental, and the films of some rentals
abbrev pub rental_rows : Books → Row Payment → List (Row Rental)
rental_rows books row = flat_map (λ n. filter (is_row row.branch n) books.rentals) (option_to_list row.it.rental)

abbrev pub rental_films : Books → ℕ → List (Row Rental) → List Film
rental_films books b rentals = flat_map (λ (rental : Row Rental). copy_films books (filter (is_row b rental.it.copy) books.copies)) rentals

abbrev pub shown_payment : Books → Row Payment → sql.Row
shown_payment books row =
    number_value row.it.amount ∷ or_null number_value (head (map (λ (rental : Row Rental). rental.number) (rental_rows books row)))
    ∷ or_null number_value (category_in (rental_films books row.branch (rental_rows books row))) ∷ []

-- ---- one payment

module _ (b : ℕ) (books : Books) (db : Trees) (s : StandsFor db books) (held : HasNumbers books) (x : Row Payment) where
  abbrev params : sql.Row
  params = number_value b ∷ []

  abbrev its : sql.Row
  its = Null ∷ payment_columns x

  abbrev gives : sql.Row → sql.Row → List Output
  gives c2 r4 =
      cond (equals (number_value x.branch) (number_value b) && true)
      ((number_value x.number ∷ [], number_value x.it.amount ∷ column c2 1 ∷ column r4 5 ∷ []) ∷ []) []

  abbrev out : Value → Value → List Output
  out rental category = cond (x.branch == b) ((number_value x.number ∷ [], number_value x.it.amount ∷ rental ∷ category ∷ []) ∷ []) []

  abbrev category_of : List Film → Value
  category_of films = or_null number_value (category_in films)

  abbrev after_rental : sql.Row → List Output
  after_rental r2 = shown_of payments_query (overlay db []) with_copy (params ∷ its ∷ r2 ∷ [])

  rental_there : (rental : Row Rental)
      → after_rental (Null ∷ rental_columns rental)
      ≡ out (number_value rental.number) (category_of (copy_films books (filter (is_row x.branch rental.it.copy) books.copies)))
  rental_there rental =
      of_copy books db s 4 category_of refl (λ n film. refl) (gives (rental_columns rental))
      (out (number_value rental.number)) (λ c. kept_if x.branch b _ _) (λ r. refl) x.branch
      (picks_row x.branch books.copies (held.rows CopyRows x.branch)) rental.it.copy

  no_rental : after_rental (Null ∷ columns_of 7 []) ≡ out Null Null
  no_rental = of_no_copy books db s 4 category_of refl (λ n film. refl) (gives (columns_of 7 [])) (out Null) (λ c. kept_if x.branch b _ _) (λ r. refl) x.branch

  abbrev out_of : List (Row Rental) → List Output
  out_of rentals = out (or_null number_value (head (map (λ (rental : Row Rental). rental.number) rentals))) (category_of (rental_films books x.branch rentals))

  pub payment_brings : shown_of payments_query (overlay db []) with_rental (params ∷ its ∷ []) ≡ out_of (rental_rows books x)
  payment_brings =
      by_pair_option 7 rental_columns (db 27) books.rentals s.rentals after_rental (λ r. refl) (λ it. refl)
      (λ it. refl) (λ r. refl) (λ r. refl) x.branch (picks_row x.branch books.rentals (held.rows Rentals x.branch))
      out_of no_rental
      (λ rental.
      rental_there rental
      ∙ ap (λ films. out (number_value rental.number) (category_of films))
      (sym (append-nil (copy_films books (filter (is_row x.branch rental.it.copy) books.copies)))))
      x.it.rental

-- ---- the branch's payments, in the order of their numbers

pub shows_payments : (old new : State) (b : ℕ) (rows : List sql.Row) (books : Books) → IsShop old
    → Shown SELECT_PAYMENTS.now (number_value b ∷ []) old new rows → StandsFor old.now.trees books → HasNumbers books
    → rows ≡ map (shown_payment books) (filter (is_of b) books.payments)
shows_payments old new b rows books shop h s held =
    shows_kept (λ x. x.number) (shown_payment books) 30 with_rental payment_tests payment_shows (col 1 2)
    (number_value b ∷ []) old.now.trees category_tree payment_columns books.payments s.payments refl (λ r. refl)
    (is_of b) (payment_brings b books old.now.trees s held) (counted_rise (λ x. x.number) 1 _ (held.rows Payments b))
    rows (answers shop_schema SELECT_PAYMENTS.now payments_query (number_value b ∷ []) old new shop payments_mean rows h)
