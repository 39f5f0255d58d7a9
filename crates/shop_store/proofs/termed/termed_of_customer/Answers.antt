use Rattle.shop_schema.proofs.Common.{◌≡◌, ◌≤◌, ◌==◌, ℕ, List, [], ◌∷◌, ◌++◌, map, filter, length, Bool, cond, refl, ap, ◌∙◌, arith, append-nil, flat_map}
use Rattle.shop_schema.proofs.Common.{AllByRecursion, map-id, Null, column, ascending, Key, Binary, Trees, Term, col, Query, Join, inner, left, end, Output}
use Rattle.shop_schema.proofs.Common.{overlay, State, map-map, IsPermutation-same, columns_of, number_value, number_tested, two_tested, joined_query, are_equal}
use Rattle.shop_schema.proofs.Common.{or_blank, shown_of, left_pair, joined_rows, still_holds, Selects, answers, kept_as_map, Row, at, is_row, of, Rental}
use Rattle.shop_schema.proofs.Common.{Terms, Books, shop_of, termed, row_at, shop_schema, rental_columns, terms_columns, IsHeld, StandsFor, Holds, Reads}
use Rattle.shop_schema.proofs.Common.{Rentals, TermRows, all-filter, StoreFault, Failed}
use Rattle.sql_rows.specs.Causes.{IsReadyInside, MetFaults, FailsToReadAll}
use Rattle.sql_rows.proofs.QueryFaults.{IsFine, err_then}
use Rattle.shop_schema.specs.Asked.{HoldsBooks}
use Rattle.shop_ledger.proofs.LeftFaults.{fine_left}
use Rattle.shop_store.specs.Asked.{IsNoneOf}
use Rattle.shop_store.proofs.FindFaults.{all_fit}
use Rattle.sqlite_tied.specs.Compute.{everything}
use Rattle.sqlite.specs.Listing.{understood}
use Rattle.sqlite.specs.State.{Shown}
use Rattle.shop_schema.proofs.Lists.{picks_row}
use Rattle.shop_ledger.proofs.Equals.{equals}
use Rattle.shop_ledger.proofs.Rising.{of_which, which_rise}
use Rattle.shop_store.specs.declared.termed.TheConstants.{SELECT_TERMED}
use Rattle.shop_store.specs.declared.termed.TermedRental.{TermedRental}
use Rattle.shop_store.specs.Seen.{seen_termed, termed_columns, IsTermed}
use Rattle.shop_store.proofs.WithTerms.{termed_fit, rental_shown, shown_first, rentals_climb, termed_rows, termed_told}
use Rattle.sqlite_value.specs.Order as sql
use Rattle.shop_ledger.proofs.Doing.{does_so}
use Rattle.shop_store.proofs.termed.termed_of_customer.Goals as goal
use Rattle.shop_schema.specs.Trees.{category_tree, rental_terms_tree}

abbrev with_terms : Join
with_terms = left rental_terms_tree (are_equal (col 2 1) (col 1 1) ∷ are_equal (col 2 2) (col 1 2) ∷ []) end

abbrev termed_tests : List Term
termed_tests = equals 0 (1 ∷ 5 ∷ [])

abbrev termed_shows : List Term
termed_shows = col 1 3 ∷ col 1 4 ∷ col 1 5 ∷ col 1 6 ∷ col 1 7 ∷ col 2 3 ∷ col 2 4 ∷ col 2 5 ∷ []

abbrev termed_order : List (Term × Key)
termed_order = (col 1 2, ascending Binary) ∷ []

abbrev termed_query : Query
termed_query = joined_query (inner 27 with_terms) termed_tests termed_shows termed_order

termed_means : Selects shop_schema SELECT_TERMED.now termed_query
unfolding understood everything
termed_means = record { names = _; is = refl; plain = (refl, refl); unlisted = refl }

-- what is shown of a rental among terms
abbrev shown_of_row : List (Row Terms) → Row Rental → sql.Row
shown_of_row terms x = shown_first (x.it ∷ []) (at x.number (of x.branch terms))

abbrev termed_output : List (Row Terms) → Row Rental → Output
termed_output terms x = (number_value x.number ∷ [], shown_of_row terms x)

-- ---- one rental

module _ (b n : ℕ) (books : Books) (held : IsHeld books) (db : Trees) (s : StandsFor db books) (x : Row Rental) where
  abbrev params : sql.Row
  params = number_value b ∷ number_value n ∷ []

  abbrev passes : Bool
  passes = of_which (λ (it : Rental). it.customer == n) b x

  abbrev gives : sql.Row → List Output
  gives r2 = shown_of termed_query (overlay db []) end (params ∷ (Null ∷ rental_columns x) ∷ r2 ∷ [])

  abbrev given : sql.Row → Output
  given r2 = (number_value x.number ∷ [], rental_shown (x.it ∷ []) ++ column r2 3 ∷ column r2 4 ∷ column r2 5 ∷ [])

  ends_are : (r2 : sql.Row) → gives r2 ≡ cond passes (given r2 ∷ []) []
  ends_are r2 = ap (λ t. cond t (given r2 ∷ []) []) (two_tested _ _ (number_tested x.branch b) (number_tested x.it.customer n))

  abbrev out_with : List Terms → List Output
  out_with ts = cond passes ((number_value x.number ∷ [], shown_first (x.it ∷ []) ts) ∷ []) []

  one_brings : (l : List (Row Terms)) → length l ≤ 1
      → flat_map (λ vs. gives (Null ∷ vs)) (or_blank 5 (map terms_columns l)) ≡ out_with (map (λ (t : Row Terms). t.it) l)
  one_brings [] few = append-nil _ ∙ ends_are (Null ∷ columns_of 5 [])
  one_brings (t ∷ []) few = append-nil _ ∙ ends_are (Null ∷ terms_columns t)
  one_brings (t ∷ u ∷ l) few = absurd (omega (arith, few))

  termed_brings : shown_of termed_query (overlay db []) with_terms (params ∷ (Null ∷ rental_columns x) ∷ []) ≡ cond passes (termed_output books.terms x ∷ []) []
  termed_brings =
      let counted = held.numbers.rows TermRows x.branch in
      let few = picks_row x.branch books.terms counted x.number in
      left_pair 5 terms_columns (db 57) books.terms s.more.rows.0 gives (λ r. refl) (λ t. t.branch)
      (λ t. t.number) (λ t. refl) (λ t. refl) (λ r. refl) (λ r. refl) x.branch x.number few
      ∙ one_brings (filter (is_row x.branch x.number) books.terms) few
      ∙ ap out_with (row_at (λ (t : Terms). t) x.branch x.number books.terms counted ∙ ap (at x.number) (map-id (of x.branch books.terms)))

-- ---- the customer's rentals

shows_termed : (old new : State) (b n : ℕ) (rows : List sql.Row) (books : Books) → Holds old books
    → IsHeld books → Shown SELECT_TERMED.now (number_value b ∷ number_value n ∷ []) old new rows
    → rows ≡ map (shown_of_row books.terms) (filter (of_which (λ (it : Rental). it.customer == n) b) books.rentals)
shows_termed old new b n rows books holds held h =
    let which : Row Rental → Bool = of_which (λ (it : Rental). it.customer == n) b in
    let mine = filter which books.rentals in
    let out : Row Rental → Output = termed_output books.terms in
    joined_rows 27 with_terms termed_tests termed_shows termed_order
    (number_value b ∷ number_value n ∷ []) old.now.trees category_tree rental_columns books.rentals holds.stands.rentals refl (λ r. refl)
    (λ x. cond (which x) (out x ∷ []) []) (λ x. IsPermutation-same _ _ (termed_brings b n books held old.now.trees holds.stands x))
    rows (answers shop_schema SELECT_TERMED.now termed_query _ old new holds.schema_is termed_means rows h)
    (map out mine) (IsPermutation-same _ _ (kept_as_map which out books.rentals))
    (rentals_climb (inner 27 with_terms) termed_tests termed_shows (col 1 2) (shown_of_row books.terms) mine
    (which_rise (λ (it : Rental). it.customer == n) b books.rentals (held.numbers.rows Rentals b)))
    ∙ map-map (λ (o : Output). o.1) out mine

-- ---- each with the terms under its number

termed_alike : (b : ℕ) (terms : List (Row Terms)) (x : Row Rental) (t : Terms) → x.branch ≡ b
    → at x.number (of b terms) ≡ t ∷ [] → shown_of_row terms x ≡ termed_columns (x.it, t)
termed_alike b terms x t own found = (λ i. shown_first (x.it ∷ []) (at x.number (of (own i) terms))) ∙ ap (shown_first (x.it ∷ [])) found

-- ---- what is read of the rows

-- the customer's rentals, each with its terms
reads : (old new : State) (b n : ℕ) (rows : List sql.Row) (all : List TermedRental)
    → Shown SELECT_TERMED.now (number_value b ∷ number_value n ∷ []) old new rows
    → map (λ x. termed_columns (seen_termed x)) all ≡ rows → AllByRecursion (λ x. IsTermed (seen_termed x)) all
    → Reads old new (λ books. map seen_termed all ≡ filter (λ (it : Rental × Terms). it.0.customer == n) (termed (shop_of b books)))
reads old new b n rows all h read kinds = λ books holds held. (
  still_holds shop_schema StandsFor SELECT_TERMED.now _ old new termed_means.plain rows h books holds,
  termed_told b (λ (it : Rental × Terms). it.0.customer == n) books held all kinds
      (read ∙ shows_termed old new b n rows books holds held h
      ∙ termed_rows b (λ (it : Rental). it.customer == n) books.terms (shown_of_row books.terms) termed_columns
      (termed_alike b books.terms) books.rentals [] (of b books.terms) refl
      (held.numbers.rows Rentals b) (held.termed b)),
)

termed_fine : (b n : ℕ) → IsFine shop_schema SELECT_TERMED.now termed_query (number_value b ∷ number_value n ∷ [])
unfolding understood everything
termed_fine b n = fine_left _ _ _ _ _ _ termed_means (refl, refl, refl) refl

met : (old new : State) (b n : ℕ) → IsReadyInside old → HoldsBooks old → (fault : StoreFault)
    → FailsToReadAll (IsNoneOf IsTermed termed_columns) SELECT_TERMED.now (number_value b ∷ number_value n ∷ []) old new fault
    → fault ≡ Failed → MetFaults old new
met old new b n ready it =
    let books = it.0 in
    let his : Rental × Terms → Bool = λ pair. pair.0.customer == n in
    all_fit IsTermed termed_columns SELECT_TERMED.now termed_query (number_value b ∷ number_value n ∷ []) (termed_fine b n) old new it
    (λ rows h. (
      filter his (termed (shop_of b books)),
      all-filter IsTermed his (termed (shop_of b books)) (termed_fit b books it.2),
      shows_termed old new b n rows books it.1 it.2 h
          ∙ termed_rows b (λ (it : Rental). it.customer == n) books.terms (shown_of_row books.terms) termed_columns
          (termed_alike b books.terms) books.rentals [] (of b books.terms) refl (it.2.numbers.rows Rentals b) (it.2.termed b),
    )) ready

pub returns-clause-does : goal.returns-clause-does
returns-clause-does g c =
    does_so c.query_all.ensures.inside (rw (c.to_sql.ensures, c.get.ensures.value, c.to_sql-2.ensures, c.get-2.ensures.value) at c.query_all.ensures.shown)
    (λ all it. reads _ _ c.args.branch c.args.customer it.0 all.items it.1 it.2 it.3)

pub returns-clause-fails : goal.returns-clause-fails
returns-clause-fails g c clean ready holds =
    err_then c.query_all.result _ _ (rw (c.to_sql.ensures, c.get.ensures.value, c.to_sql-2.ensures, c.get-2.ensures.value) at (c.query_all.ensures.told clean))
    (met _ _ c.args.branch c.args.customer ready holds)
