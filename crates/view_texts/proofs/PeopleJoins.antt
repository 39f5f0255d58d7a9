-- The joins of the lists of people: what their texts mean, and what they show of the books.
use Rattle.shop_schema.proofs.Common.{◌≡◌, ◌==◌, ℕ, List, [], ◌∷◌, map, filter, length, cond, refl, Value, Null, Trees, col, end, Output, overlay, State}
use Rattle.shop_schema.proofs.Common.{HasRows, number_value, flag_value, answers, shown_of, Row, is_of, numbered, IsCounted, Customer, Staff, Catalogue, Books}
use Rattle.shop_schema.proofs.Common.{shop_schema, customer_table, named_columns, city_columns, customer_columns, staff_columns, IsShop, StandsFor, ascending}
use Rattle.shop_schema.proofs.Common.{Key, Binary, Term, Query, Join, inner, IsQuery, Selects, is_query, joined_query, are_equal}
use Rattle.sqlite.specs.declared.types.Value.TheVariants.{Text}
use Rattle.sqlite_value.specs.Order as sql
use Rattle.sqlite.specs.State.{Shown}
use Rattle.view_texts.specs.Shown.{shown_customer, shown_staff}
use Rattle.view_texts.proofs.PersonJoin.{city_then, person_brings}
use Rattle.view_texts.proofs.Orders.{counted_rise, numbered_up, kept_if, shows_kept}
use Rattle.view_texts.specs.declared.staff.TheConstants.{SELECT_STAFF}
use Rattle.view_texts.specs.declared.customers.TheConstants.{SELECT_CUSTOMERS}
use Rattle.sqlite_tied.specs.Compute.{everything}
use Rattle.sqlite.specs.Listing.{understood}

-- what is joined to a person; the city is in the same column of both tables
abbrev pub with_city : Join
with_city = city_then 8 end

-- ---- customers

abbrev pub customer_tests : List Term
customer_tests = are_equal (col 1 1) (col 0 0) ∷ []

abbrev pub customer_shows : List Term
customer_shows = col 1 2 ∷ col 1 3 ∷ col 1 4 ∷ col 1 5 ∷ col 1 6 ∷ col 1 7 ∷ col 2 2 ∷ col 3 2 ∷ col 1 9 ∷ []

abbrev pub customer_order : List (Term × Key)
customer_order = (col 1 2, ascending Binary) ∷ []

abbrev pub customers_query : Query
customers_query = joined_query (inner 23 with_city) customer_tests customer_shows customer_order

pub customers_mean : Selects shop_schema SELECT_CUSTOMERS.now customers_query
unfolding understood everything
customers_mean = record { names = _; is = refl; plain = (refl, refl); unlisted = refl }

pub customers_ask : IsQuery SELECT_CUSTOMERS.now
unfolding everything
customers_ask = is_query SELECT_CUSTOMERS.now (record { parsed = _; is = refl; selects = refl; untimed = refl })

module _ (b : ℕ) (catalogue : Catalogue) (db : Trees) (cities : HasRows 3 (db 10) (map city_columns (numbered catalogue.cities)))
    (countries : HasRows 2 (db 1) (map named_columns (numbered catalogue.countries))) (x : Row Customer) where
  abbrev customer_out : Value → Value → List Output
  customer_out city country =
      cond (x.branch == b)
      ((
        number_value x.number ∷ [],
        number_value x.number ∷ Text x.it.person.first ∷ Text x.it.person.last ∷ Text x.it.person.address
            ∷ Text x.it.person.postal ∷ Text x.it.person.phone ∷ city ∷ country ∷ flag_value x.it.active ∷ [],
      ) ∷ []) []

  customer_brings : shown_of customers_query (overlay db []) with_city ((number_value b ∷ []) ∷ (Null ∷ customer_columns x) ∷ [])
      ≡ cond (x.branch == b) ((number_value x.number ∷ [], shown_customer catalogue x) ∷ []) []
  customer_brings =
      person_brings 8 end customers_query catalogue db cities countries (number_value b ∷ []) (Null ∷ customer_columns x) x.it.person.city refl customer_out
      (λ r2 r3. kept_if x.branch b (number_value x.number ∷ []) _)

-- the branch's customers, in the order of their numbers
pub shows_customers : (old new : State) (b : ℕ) (rows : List sql.Row) (books : Books) → IsShop old
    → Shown SELECT_CUSTOMERS.now (number_value b ∷ []) old new rows → StandsFor old.now.trees books
    → IsCounted 1 (map (λ row. row.number) (filter (is_of b) books.customers)) → rows ≡ map (shown_customer books.catalogue) (filter (is_of b) books.customers)
shows_customers old new b rows books shop h s counted =
    shows_kept (λ x. x.number) (shown_customer books.catalogue) 23 with_city customer_tests customer_shows (col 1 2)
    (number_value b ∷ []) old.now.trees (length customer_table.columns) customer_columns books.customers s.customers refl (λ r. refl)
    (is_of b) (customer_brings b books.catalogue old.now.trees s.cities s.countries) (counted_rise (λ x. x.number) 1 _ counted)
    rows (answers shop_schema SELECT_CUSTOMERS.now customers_query (number_value b ∷ []) old new shop customers_mean rows h)

-- ---- staff

abbrev pub staff_tests : List Term
staff_tests = are_equal (col 1 2) (col 0 0) ∷ []

abbrev pub staff_shows : List Term
staff_shows = col 1 1 ∷ col 1 3 ∷ col 1 4 ∷ col 1 5 ∷ col 1 6 ∷ col 1 7 ∷ col 2 2 ∷ col 3 2 ∷ []

abbrev pub staff_order : List (Term × Key)
staff_order = (col 1 1, ascending Binary) ∷ []

abbrev pub staff_query : Query
staff_query = joined_query (inner 21 with_city) staff_tests staff_shows staff_order

pub staff_mean : Selects shop_schema SELECT_STAFF.now staff_query
unfolding understood everything
staff_mean = record { names = _; is = refl; plain = (refl, refl); unlisted = refl }

pub staff_ask : IsQuery SELECT_STAFF.now
unfolding everything
staff_ask = is_query SELECT_STAFF.now (record { parsed = _; is = refl; selects = refl; untimed = refl })

module _ (b : ℕ) (catalogue : Catalogue) (db : Trees) (cities : HasRows 3 (db 10) (map city_columns (numbered catalogue.cities)))
    (countries : HasRows 2 (db 1) (map named_columns (numbered catalogue.countries))) (x : ℕ × Staff) where
  abbrev staff_out : Value → Value → List Output
  staff_out city country =
      cond (x.1.branch == b)
      ((
        number_value x.0 ∷ [],
        number_value x.0 ∷ Text x.1.person.first ∷ Text x.1.person.last ∷ Text x.1.person.address
            ∷ Text x.1.person.postal ∷ Text x.1.person.phone ∷ city ∷ country ∷ [],
      ) ∷ []) []

  staff_brings : shown_of staff_query (overlay db []) with_city ((number_value b ∷ []) ∷ (Null ∷ staff_columns x) ∷ [])
      ≡ cond (x.1.branch == b) ((number_value x.0 ∷ [], shown_staff catalogue x) ∷ []) []
  staff_brings =
      person_brings 8 end staff_query catalogue db cities countries (number_value b ∷ [])
      (Null ∷ staff_columns x) x.1.person.city refl staff_out (λ r2 r3. kept_if x.1.branch b (number_value x.0 ∷ []) _)

-- the branch's staff, in the order of their numbers
pub shows_staff : (old new : State) (b : ℕ) (rows : List sql.Row) (books : Books) → IsShop old
    → Shown SELECT_STAFF.now (number_value b ∷ []) old new rows → StandsFor old.now.trees books
    → rows ≡ map (shown_staff books.catalogue) (filter (λ (it : ℕ × Staff). it.1.branch == b) (numbered books.catalogue.staff))
shows_staff old new b rows books shop h s =
    shows_kept (λ it. it.0) (shown_staff books.catalogue) 21 with_city staff_tests staff_shows (col 1 1)
    (number_value b ∷ []) old.now.trees 9 staff_columns (numbered books.catalogue.staff) s.staff refl (λ r. refl)
    (λ it. it.1.branch == b) (staff_brings b books.catalogue old.now.trees s.cities s.countries) (numbered_up (λ it. it.1.branch == b) books.catalogue.staff)
    rows (answers shop_schema SELECT_STAFF.now staff_query (number_value b ∷ []) old new shop staff_mean rows h)
