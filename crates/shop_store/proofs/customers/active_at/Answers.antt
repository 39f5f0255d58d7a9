use Rattle.shop_schema.proofs.Common.{map, filter, Some, None, sym, ap, ◌∙◌, rules, slice_get, State, Selects, plain_query, same_flag, projects_one}
use Rattle.shop_schema.proofs.Common.{still_holds, at, is_row, of, Customer, Books, head, map_at, row_at, shop_schema, customer_columns, IsHeld, StandsFor}
use Rattle.shop_schema.proofs.Common.{Holds, Customers, subst, AllByRecursion, all_map, all_of, StoreFault, Failed}
use Rattle.sql_rows.specs.Causes.{IsReadyInside, MetFaults, FailsToRead}
use Rattle.sql_rows.proofs.QueryFaults.{IsFine, fine_plain, first_met, err_then}
use Rattle.shop_schema.specs.Asked.{HoldsBooks, ShowsFlag}
use Rattle.sqlite_value.specs.Order as sql
use Rattle.shop_schema.proofs.FirstRows.{first_none, first_some}
use Rattle.shop_schema.proofs.Lists.{picks_row}
use Rattle.shop_store.specs.declared.customers.TheConstants.{SELECT_ACTIVE}
use Rattle.shop_store.proofs.Common.{◌≡◌, ◌&&◌, ℕ, List, [], ◌∷◌, Bool, true, refl, everything, understood, Shown, col, column, number_value, flag_value}
use Rattle.shop_store.proofs.Common.{number_test, number_tested, two_tested, Row, Reads, does_first, of_two, customers, wide}
use Rattle.shop_store.proofs.customers.active_at.Goals as goal
use Rattle.shop_schema.specs.Trees.{customer_tree}

active_means : Selects shop_schema SELECT_ACTIVE.now (plain_query customer_tree of_two (col 1 9 ∷ []) [])
unfolding understood everything
active_means = record { names = _; is = refl; plain = (refl, refl); unlisted = refl }

abbrev active_of : Customer → Bool
active_of it = it.active

module _ (old new : State) (b n : ℕ) (rows slice : List sql.Row)
    (h : Shown SELECT_ACTIVE.now (number_value b ∷ number_value n ∷ []) old new rows) (same : slice ≡ rows) where
  abbrev found_in : Books → List (Row Customer)
  found_in books = filter (is_row b n) books.customers

  abbrev shown : Row Customer → sql.Row
  shown c = flag_value c.it.active ∷ []

  still : (books : Books) → Holds old books → Holds new books
  still = still_holds shop_schema StandsFor SELECT_ACTIVE.now _ old new active_means.plain rows h

  shows_active : (books : Books) → Holds old books → IsHeld books → rows ≡ map shown (found_in books)
  shows_active books holds held =
      projects_one shop_schema SELECT_ACTIVE.now 23 (wide customers) of_two
      (col 1 9 ∷ []) active_means _ old new rows holds.schema_is h customer_columns books.customers holds.stands.customers refl
      (λ vs. number_test 0 b vs && (number_test 1 n vs && true)) (λ vs. column vs 8 ∷ []) (is_row b n)
      (λ c. two_tested _ _ (number_tested c.branch b) (number_tested c.number n)) (λ r. refl) (picks_row b books.customers (held.numbers.rows Customers b) n)

  of_number : (books : Books) → IsHeld books
      → head (map (λ (c : Row Customer). c.it.active) (found_in books)) ≡ head (map active_of (at n (of b books.customers)))
  of_number books held = ap head (row_at active_of b n books.customers (held.numbers.rows Customers b) ∙ sym (map_at active_of n (of b books.customers)))

  -- what the first row says of the books
  reads : (None ≡ slice_get slice 0 → Reads old new (λ books. None ≡ head (map active_of (at n (of b books.customers)))))
      × ((row : sql.Row) (v : Bool) → Some row ≡ slice_get slice 0 → column row 0 ≡ flag_value v
      → Reads old new (λ books. Some v ≡ head (map active_of (at n (of b books.customers)))))
  reads = (
    λ none books holds held. (
      still books holds,
      first_none shown (λ c. c.it.active) (found_in books) rows slice (shows_active books holds held) same none ∙ of_number books held,
    ),
    λ row v some fits books holds held. (
      still books holds,
      first_some shown (λ c. c.it.active) (found_in books) rows slice (shows_active books holds held) same row v some
          (λ c is. same_flag v c.it.active (sym fits ∙ ap (λ (r : sql.Row). column r 0) (sym is)))
          ∙ of_number books held,
    ),
  )

active_fine : (b n : ℕ) → IsFine shop_schema SELECT_ACTIVE.now (plain_query customer_tree of_two (col 1 9 ∷ []) []) (number_value b ∷ number_value n ∷ [])
unfolding understood everything
active_fine b n = fine_plain customer_tree of_two (col 1 9 ∷ []) [] active_means (refl, refl, refl) refl

met : {Fails : sql.Row → StoreFault → Type 0} (old new : State) (b n : ℕ)
    → ((row : sql.Row) (fault : StoreFault) → Fails row fault → fault ≡ Failed → ¬ ShowsFlag row) → IsReadyInside old → HoldsBooks old
    → (fault : StoreFault) → FailsToRead Fails SELECT_ACTIVE.now (number_value b ∷ number_value n ∷ []) old new fault → fault ≡ Failed → MetFaults old new
met old new b n refuses ready it =
    first_met ShowsFlag shop_schema SELECT_ACTIVE.now _ (number_value b ∷ number_value n ∷ []) (active_fine b n) old new it.1.schema_is refuses
    (λ rows h.
    let found = filter (is_row b n) it.0.customers in
    let shows : Row Customer → sql.Row = λ c. flag_value c.it.active ∷ [] in
    subst (AllByRecursion ShowsFlag) (sym (shows_active old new b n rows rows h refl it.0 it.1 it.2))
    (all_map ShowsFlag shows found (all_of (λ c. ShowsFlag (shows c)) (λ c. (c.it.active, refl)) found)))
    ready

pub returns-clause-does : goal.returns-clause-does
returns-clause-does g c =
    does_first _ _ c.query_first.ensures.inside
    (rw (c.to_sql.ensures, c.get.ensures.value, c.to_sql-2.ensures, c.get-2.ensures.value) at c.query_first.ensures.shown)
    (λ rows these.
    let read = reads _ _ c.args.branch c.args.number rows rows these refl in
    (read.0, λ row it some says. read.1 row it some (search rules)))

pub returns-clause-fails : goal.returns-clause-fails
returns-clause-fails g c clean ready holds =
    err_then c.query_first.result _ _
    (rw (c.to_sql.ensures, c.get.ensures.value, c.to_sql-2.ensures, c.get-2.ensures.value) at (c.query_first.ensures.told clean))
    (met _ _ c.args.branch c.args.number (λ row fault says failed. search rules) ready holds)
