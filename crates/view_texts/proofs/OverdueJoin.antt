-- The join of the copies that are out: what its text means, and what it shows of the books. It shows each open rental of the branch, with its terms, its
-- customer and the title of its film.
use Rattle.shop_schema.proofs.Common.{◌≡◌, ◌≤◌, ◌==◌, ◌&&◌, ℕ, List, [], ◌∷◌, ◌++◌, map, filter, length, true, cond, refl, sym, ap, subst, ◌∙◌, arith}
use Rattle.shop_schema.proofs.Common.{append-nil, append_assoc, is_none, AllByRecursion, flat_map, filter-append, IsPermutation-refl, Value, Null, or_null}
use Rattle.shop_schema.proofs.Common.{column, Trees, col, inner, Output, overlay, State, map-map, all-filter, IsPermutation-same, HasRows, PicksOne, columns_of}
use Rattle.shop_schema.proofs.Common.{number_value, answers, kept_as_map, or_blank, shown_of, equals, left_pair, joined_rows, Row, is_of, is_row, Customer}
use Rattle.shop_schema.proofs.Common.{Film, Rental, Terms, Books, head, same_test, filter_filter, shop_schema, moment_value, customer_table, customer_columns}
use Rattle.shop_schema.proofs.Common.{rental_columns, terms_columns, out_columns, is_open, out_of, IsHeld, StandsFor, Holds, CopyRows, Customers, Rentals}
use Rattle.shop_schema.proofs.Common.{TermRows, ascending, Key, Binary, Term, Query, Join, left, end, IsQuery, Selects, is_query, joined_query, are_equal}
use Rattle.std.specs.Prelude.{Bool}
use Rattle.std.proofs.lemmas.List.{length-append}
use Rattle.sqlite.specs.declared.types.Value.TheVariants.{Text}
use Rattle.sqlite.specs.State.{Shown}
use Rattle.shop_schema.proofs.Lists.{picks_row}
use Rattle.shop_ledger.proofs.Rising.{of_which, which_rise}
use Rattle.shop_store.proofs.WithTerms.{rentals_climb}
use Rattle.view_texts.proofs.Lefts.{by_pair}
use Rattle.view_texts.proofs.CopyFilms.{copy_films, of_copy}
use Rattle.view_texts.proofs.Orders.{kept_if}
use Rattle.view_texts.specs.declared.overdue.TheConstants.{SELECT_OUTS}
use Rattle.sqlite_value.specs.Order as sql
use Rattle.sqlite_tied.specs.Compute.{everything}
use Rattle.sqlite.specs.Listing.{understood}
use Rattle.shop_schema.specs.Trees.{copy_tree, customer_tree, film_tree, rental_terms_tree, rental_tree}

-- ---- what its text means

-- what is joined to a copy, to a customer, to terms, to a rental, and to a copy that is out
abbrev pub with_film : Join
with_film = left film_tree (are_equal (col 6 1) (col 5 3) ∷ []) end

abbrev pub with_copy : Join
with_copy = left copy_tree (are_equal (col 5 1) (col 1 1) ∷ are_equal (col 5 2) (col 1 2) ∷ []) with_film

abbrev pub with_customer : Join
with_customer = left customer_tree (are_equal (col 4 1) (col 1 1) ∷ are_equal (col 4 2) (col 2 5) ∷ []) with_copy

abbrev pub with_terms : Join
with_terms = left rental_terms_tree (are_equal (col 3 1) (col 1 1) ∷ are_equal (col 3 2) (col 1 3) ∷ []) with_customer

abbrev pub with_rental : Join
with_rental = left rental_tree (are_equal (col 2 1) (col 1 1) ∷ are_equal (col 2 2) (col 1 3) ∷ []) with_terms

abbrev pub out_tests : List Term
out_tests = are_equal (col 1 1) (col 0 0) ∷ []

abbrev pub out_shows : List Term
out_shows = col 2 3 ∷ col 3 4 ∷ col 4 3 ∷ col 4 4 ∷ col 4 7 ∷ col 6 2 ∷ []

abbrev pub out_order : List (Term × Key)
out_order = (col 1 3, ascending Binary) ∷ []

abbrev pub outs_query : Query
outs_query = joined_query (inner 43 with_rental) out_tests out_shows out_order

pub outs_mean : Selects shop_schema SELECT_OUTS.now outs_query
unfolding understood everything
outs_mean = record { names = _; is = refl; plain = (refl, refl); unlisted = refl }

pub outs_ask : IsQuery SELECT_OUTS.now
unfolding everything
outs_ask = is_query SELECT_OUTS.now (record { parsed = _; is = refl; selects = refl; untimed = refl })

-- ---- a row is alone under its branch and number

one_of : {X : Type 0} (before after : List X) (x : X) → length (before ++ x ∷ after) ≤ 1 → before ++ x ∷ after ≡ x ∷ []
one_of [] [] x few = refl
one_of [] (y ∷ after) x few = absurd (omega (arith, few))
one_of (y ∷ before) after x few = absurd (omega (arith, few, length-append before (x ∷ after)))

module _ {A : Type 0} (all : List (Row A)) (once : (b n : ℕ) → PicksOne (is_row b n) all) where
  abbrev IsAlone : Row A → Type 0
  IsAlone x = filter (is_row x.branch x.number) all ≡ x ∷ []

  own : (x : Row A) → is_row x.branch x.number x ≡ true
  own x = (λ i. same_test x.branch i && same_test x.number i)

  alone_from : (before rows : List (Row A)) → all ≡ before ++ rows → AllByRecursion IsAlone rows
  alone_from before [] is = tt
  alone_from before (x ∷ rows) is =
      let test : Row A → Bool = is_row x.branch x.number in
      let parts : filter test all ≡ filter test before ++ x ∷ filter test rows =
      ap (filter test) is ∙ filter-append test before (x ∷ rows) ∙ ap (λ t. filter test before ++ cond t (x ∷ filter test rows) (filter test rows)) (own x) in (
        parts ∙ one_of (filter test before) (filter test rows) x (subst (λ (l : List (Row A)). length l ≤ 1) parts (once x.branch x.number)),
        alone_from (before ++ x ∷ []) rows (is ∙ sym (append_assoc before (x ∷ []) rows)),
      )

each_alike : {X Y : Type 0} (P : X → Type 0) (f g : X → List Y) → ((x : X) → P x → f x ≡ g x)
    → (xs : List X) → AllByRecursion P xs → flat_map f xs ≡ flat_map g xs
each_alike P f g alike [] all = refl
each_alike P f g alike (x ∷ xs) all = (λ i. alike x all.0 i ++ each_alike P f g alike xs all.1 i)

-- ---- one copy that is out

abbrev pub title_of : List Film → Value
title_of films = or_null (λ (film : Film). Text film.title) (head films)

abbrev pub terms_there : Books → Row Rental → List Terms
terms_there books x = map (λ row. row.it) (filter (is_row x.branch x.number) books.terms)

abbrev pub renters : Books → Row Rental → List Customer
renters books x = map (λ row. row.it) (filter (is_row x.branch x.it.customer) books.customers)

abbrev pub rental_title : Books → Row Rental → Value
rental_title books x = title_of (copy_films books (filter (is_row x.branch x.it.copy) books.copies))

-- what is shown of an open rental, with its period, its customer and the title
abbrev pub shown_with : Row Rental → Value → List Customer → Value → sql.Row
shown_with x period customers title =
    moment_value x.it.rented ∷ period ∷ or_null (λ (c : Customer). Text c.person.first) (head customers)
    ∷ or_null (λ (c : Customer). Text c.person.last) (head customers)
    ∷ or_null (λ (c : Customer). Text c.person.phone) (head customers) ∷ title ∷ []

abbrev pub period_of : List Terms → Value
period_of terms = or_null (λ (it : Terms). number_value it.period) (head terms)

-- by the rows of its branch
abbrev pub shown_open : Books → Row Rental → sql.Row
shown_open books x = shown_with x (period_of (terms_there books x)) (renters books x) (rental_title books x)

module _ (b : ℕ) (books : Books) (held : IsHeld books) (db : Trees) (s : StandsFor db books) (x : Row Rental) where
  abbrev params : sql.Row
  params = number_value b ∷ []

  abbrev out : sql.Row
  out = Null ∷ out_columns (out_of x)

  abbrev rental : sql.Row
  rental = Null ∷ rental_columns x

  abbrev if_mine : sql.Row → List Output
  if_mine shown = cond (x.branch == b) ((number_value x.number ∷ [], shown) ∷ []) []

  -- ---- its copy, and the film of that

  abbrev shown_by : sql.Row → sql.Row → Value → sql.Row
  shown_by c3 c4 title = moment_value x.it.rented ∷ column c3 3 ∷ column c4 2 ∷ column c4 3 ∷ column c4 6 ∷ title ∷ []

  copy_brings : (c3 c4 : sql.Row)
      → shown_of outs_query (overlay db []) with_copy (params ∷ out ∷ rental ∷ (Null ∷ c3) ∷ (Null ∷ c4) ∷ []) ≡ if_mine (shown_by c3 c4 (rental_title books x))
  copy_brings c3 c4 =
      of_copy books db s 1 title_of refl (λ n film. refl)
      (λ r6. cond (equals (number_value x.branch) (number_value b) && true) ((number_value x.number ∷ [], shown_by c3 c4 (column r6 2)) ∷ []) [])
      (λ title. if_mine (shown_by c3 c4 title)) (λ c. kept_if x.branch b _ _) (λ r. refl) x.branch
      (picks_row x.branch books.copies (held.numbers.rows CopyRows x.branch)) x.it.copy

  -- ---- its customer, its terms, and the rental

  customer_brings : (c3 : sql.Row)
      → shown_of outs_query (overlay db []) with_customer (params ∷ out ∷ rental ∷ (Null ∷ c3) ∷ [])
      ≡ if_mine (shown_with x (column c3 3) (renters books x) (rental_title books x))
  customer_brings c3 =
      by_pair (length customer_table.columns) customer_columns (db 23) books.customers s.customers
      (λ r4. shown_of outs_query (overlay db []) with_copy (params ∷ out ∷ rental ∷ (Null ∷ c3) ∷ r4 ∷ [])) (λ r. refl)
      (λ row. refl) (λ row. refl) (λ r. refl) (λ r. refl) x.branch (picks_row x.branch books.customers (held.numbers.rows Customers x.branch))
      (λ rows. if_mine (shown_with x (column c3 3) (map (λ (row : Row Customer). row.it) rows) (rental_title books x)))
      (copy_brings c3 (columns_of (length customer_table.columns) []))
      (λ row. copy_brings c3 (customer_columns row)) x.it.customer

  terms_bring : shown_of outs_query (overlay db []) with_terms (params ∷ out ∷ rental ∷ []) ≡ if_mine (shown_open books x)
  terms_bring =
      by_pair 5 terms_columns (db 57) books.terms s.more.rows.0
      (λ r3. shown_of outs_query (overlay db []) with_customer (params ∷ out ∷ rental ∷ r3 ∷ [])) (λ r. refl) (λ row. refl) (λ row. refl) (λ r. refl)
      (λ r. refl) x.branch (picks_row x.branch books.terms (held.numbers.rows TermRows x.branch))
      (λ rows. if_mine (shown_with x (period_of (map (λ (row : Row Terms). row.it) rows)) (renters books x) (rental_title books x)))
      (customer_brings (columns_of 5 [])) (λ row. customer_brings (terms_columns row)) x.number

  abbrev brought : List Output
  brought = shown_of outs_query (overlay db []) with_rental (params ∷ out ∷ [])

  -- a rental of the books is its own row
  rental_brings : filter (is_row x.branch x.number) books.rentals ≡ x ∷ [] → brought ≡ if_mine (shown_open books x)
  rental_brings alone =
      left_pair 7 rental_columns (db 27) books.rentals s.rentals after (λ r. refl) (λ it. it.branch)
      (λ it. it.number) (λ it. refl) (λ it. refl) (λ r. refl) (λ r. refl) x.branch x.number
      (picks_row x.branch books.rentals (held.numbers.rows Rentals x.branch) x.number)
      ∙ ap (λ (l : List (Row Rental)). flat_map (λ c2. after (Null ∷ c2)) (or_blank 7 (map rental_columns l))) alone
      ∙ append-nil _ ∙ terms_bring
    where
      after : sql.Row → List Output
      after r2 = shown_of outs_query (overlay db []) with_terms (params ∷ out ∷ r2 ∷ [])

-- ---- the branch's open rentals, in the order of their numbers

abbrev pub opens_of : ℕ → Books → List (Row Rental)
opens_of b books = filter (of_which (λ (it : Rental). is_none it.returned) b) books.rentals

abbrev open_output : Books → Row Rental → Output
open_output books x = (number_value x.number ∷ [], shown_open books x)

pub shows_opens : (old new : State) (b : ℕ) (rows : List sql.Row) (books : Books)
    → Holds old books → IsHeld books → Shown SELECT_OUTS.now (number_value b ∷ []) old new rows
    → rows ≡ map (shown_open books) (opens_of b books)
shows_opens old new b rows books holds held h =
    let db = old.now.trees in
    let opened = filter is_open books.rentals in
    let once : (c n : ℕ) → PicksOne (is_row c n) books.rentals = λ c n. picks_row c books.rentals (held.numbers.rows Rentals c) n in
    let each =
    all-filter (λ (x : Row Rental). filter (is_row x.branch x.number) books.rentals ≡ x ∷ []) is_open books.rentals
    (alone_from books.rentals once [] books.rentals refl) in
    joined_rows 43 with_rental out_tests out_shows out_order (number_value b ∷ []) db 3 (λ row. out_columns (out_of row)) opened
    (subst (HasRows 3 (db 43)) (map-map out_columns out_of opened) holds.stands.outs) refl (λ r. refl)
    (λ x. brought b books held db holds.stands x) (λ x. IsPermutation-refl _)
    rows (answers shop_schema SELECT_OUTS.now outs_query (number_value b ∷ []) old new holds.schema_is outs_mean rows h)
    (map (open_output books) (opens_of b books))
    (IsPermutation-same _ _
    (each_alike (λ (x : Row Rental). filter (is_row x.branch x.number) books.rentals ≡ x ∷ [])
    (brought b books held db holds.stands) (λ x. cond (x.branch == b) (open_output books x ∷ []) [])
    (rental_brings b books held db holds.stands) opened each
    ∙ kept_as_map (is_of b) (open_output books) opened ∙ ap (map (open_output books)) (filter_filter (is_of b) is_open books.rentals)))
    (rentals_climb (inner 43 with_rental) out_tests out_shows (col 1 3) (shown_open books) (opens_of b books)
    (which_rise (λ (it : Rental). is_none it.returned) b books.rentals (held.numbers.rows Rentals b)))
    ∙ map-map (λ (o : Output). o.1) (open_output books) (opens_of b books)
