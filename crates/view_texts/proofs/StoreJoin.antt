-- The join of a branch's row: what its text means, and what it shows of the books.
use Rattle.shop_schema.proofs.Common.{◌≡◌, ◌==◌, ℕ, List, [], ◌∷◌, map, cond, refl, ap, ◌∙◌, Value, Null, or_null, column, Trees, col, end, Output, overlay}
use Rattle.shop_schema.proofs.Common.{State, columns_of, number_value, answers, shown_of, at, numbered, Branch, Staff, Books, head, shop_schema, branch_columns}
use Rattle.shop_schema.proofs.Common.{staff_columns, IsShop, StandsFor, ascending, Key, Binary, Term, Query, Join, inner, left, IsQuery, Selects, is_query}
use Rattle.shop_schema.proofs.Common.{joined_query, are_equal}
use Rattle.sqlite.specs.declared.types.Value.TheVariants.{Text}
use Rattle.sqlite_value.specs.Order as sql
use Rattle.sqlite.specs.State.{Shown}
use Rattle.view_texts.specs.Sales.{manager_of, shown_store}
use Rattle.shop_schema.proofs.Numbers.{numbered_at}
use Rattle.view_texts.proofs.Lefts.{by_option}
use Rattle.view_texts.proofs.Orders.{numbered_up, kept_if, shows_kept}
use Rattle.view_texts.proofs.PersonJoin.{city_then, person_brings}
use Rattle.view_texts.specs.declared.stores.TheConstants.{SELECT_STORE}
use Rattle.sqlite_tied.specs.Compute.{everything}
use Rattle.sqlite.specs.Listing.{understood}
use Rattle.shop_schema.specs.Trees.{staff_tree}

-- ---- what its text means

-- what is joined after the country, and to a branch
abbrev pub with_manager : Join
with_manager = left staff_tree (are_equal (col 4 1) (col 1 7) ∷ []) end

abbrev pub with_names : Join
with_names = city_then 6 with_manager

abbrev pub store_tests : List Term
store_tests = are_equal (col 1 1) (col 0 0) ∷ []

abbrev pub store_shows : List Term
store_shows = col 1 1 ∷ col 2 2 ∷ col 3 2 ∷ col 4 3 ∷ col 4 4 ∷ []

abbrev pub store_order : List (Term × Key)
store_order = (col 1 1, ascending Binary) ∷ []

abbrev pub store_query : Query
store_query = joined_query (inner 18 with_names) store_tests store_shows store_order

pub store_means : Selects shop_schema SELECT_STORE.now store_query
unfolding understood everything
store_means = record { names = _; is = refl; plain = (refl, refl); unlisted = refl }

pub store_asks : IsQuery SELECT_STORE.now
unfolding everything
store_asks = is_query SELECT_STORE.now (record { parsed = _; is = refl; selects = refl; untimed = refl })

-- ---- one branch

module _ (b : ℕ) (books : Books) (db : Trees) (s : StandsFor db books) (x : ℕ × Branch) where
  abbrev params : sql.Row
  params = number_value b ∷ []

  abbrev its : sql.Row
  its = Null ∷ branch_columns books.lasts x

  abbrev row_with : Value → Value → Value → Value → List Output
  row_with city country first last = cond (x.0 == b) ((number_value x.0 ∷ [], number_value x.0 ∷ city ∷ country ∷ first ∷ last ∷ []) ∷ []) []

  abbrev out : Value → Value → List Output
  out city country =
      row_with city country (or_null (λ (staff : Staff). Text staff.person.first) (manager_of books.catalogue x.1))
      (or_null (λ (staff : Staff). Text staff.person.last) (manager_of books.catalogue x.1))

  module _ (r2 r3 : sql.Row) where
    abbrev last : sql.Row → List Output
    last r4 = shown_of store_query (overlay db []) end (params ∷ its ∷ r2 ∷ r3 ∷ r4 ∷ [])

    ends_are : (c4 : sql.Row) → last (Null ∷ c4) ≡ row_with (column r2 2) (column r3 2) (column c4 2) (column c4 3)
    ends_are c4 = kept_if x.0 b (number_value x.0 ∷ []) _

    abbrev out_of : List Staff → List Output
    out_of l =
        row_with (column r2 2) (column r3 2) (or_null (λ (staff : Staff). Text staff.person.first) (head l))
        (or_null (λ (staff : Staff). Text staff.person.last) (head l))

    manager_brings : shown_of store_query (overlay db []) with_manager (params ∷ its ∷ r2 ∷ r3 ∷ []) ≡ out (column r2 2) (column r3 2)
    manager_brings =
        by_option 9 staff_columns (db 21) books.catalogue.staff s.staff (λ it. refl) (λ r. refl) last
        (λ r. refl) x.1.manager out_of (ends_are (columns_of 9 [])) (λ n staff. ends_are (staff_columns (n, staff)))

  store_brings : shown_of store_query (overlay db []) with_names (params ∷ its ∷ [])
      ≡ cond (x.0 == b) ((number_value x.0 ∷ [], shown_store books.catalogue x) ∷ []) []
  store_brings = person_brings 6 with_manager store_query books.catalogue db s.cities s.countries params its x.1.city refl out manager_brings

-- ---- the branch of the number

pub shows_store : (old new : State) (b : ℕ) (rows : List sql.Row) (books : Books) → IsShop old
    → Shown SELECT_STORE.now (number_value b ∷ []) old new rows → StandsFor old.now.trees books
    → rows ≡ map (shown_store books.catalogue) (map (λ branch. (b, branch)) (at b books.catalogue.branches))
shows_store old new b rows books shop h s =
    shows_kept (λ it. it.0) (shown_store books.catalogue) 18 with_names store_tests store_shows (col 1 1)
    (number_value b ∷ []) old.now.trees 8 (branch_columns books.lasts) (numbered books.catalogue.branches) s.branches refl (λ r. refl)
    (λ it. it.0 == b) (store_brings b books old.now.trees s) (numbered_up (λ it. it.0 == b) books.catalogue.branches)
    rows (answers shop_schema SELECT_STORE.now store_query (number_value b ∷ []) old new shop store_means rows h)
    ∙ ap (map (shown_store books.catalogue)) (numbered_at b books.catalogue.branches)
