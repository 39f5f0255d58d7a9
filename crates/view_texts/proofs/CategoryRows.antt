-- The rows of the categories: what their text means, and what it shows of the books.
use Rattle.shop_schema.proofs.Common.{◌≡◌, ℕ, List, [], ◌∷◌, map, refl, ◌∙◌, col, inner, end, Output, State, map-map, IsPermutation-same, answers, joined_rows}
use Rattle.shop_schema.proofs.Common.{numbered, Text, Books, shop_schema, named_columns, IsShop, StandsFor, ascending, Key, Binary, Term, Query, IsQuery}
use Rattle.shop_schema.proofs.Common.{Selects, is_query, joined_query}
use Rattle.std.proofs.lemmas.List.Concat.{flat_map_single}
use Rattle.sqlite_value.specs.Order as sql
use Rattle.sqlite.specs.State.{Shown}
use Rattle.shop_schema.proofs.Lasts.{numbered_counted}
use Rattle.view_texts.specs.CategorySums.{shown_category}
use Rattle.view_texts.proofs.Orders.{counted_rise, numbered_output, climb_up}
use Rattle.view_texts.specs.declared.categories.TheConstants.{SELECT_CATEGORIES}
use Rattle.sqlite_tied.specs.Compute.{everything}
use Rattle.sqlite.specs.Listing.{understood}

-- ---- what its text means

abbrev pub category_shows : List Term
category_shows = col 1 1 ∷ col 1 2 ∷ []

abbrev pub category_order : List (Term × Key)
category_order = (col 1 1, ascending Binary) ∷ []

abbrev pub categories_query : Query
categories_query = joined_query (inner 7 end) [] category_shows category_order

pub categories_mean : Selects shop_schema SELECT_CATEGORIES.now categories_query
unfolding understood everything
categories_mean = record { names = _; is = refl; plain = (refl, refl); unlisted = refl }

pub categories_ask : IsQuery SELECT_CATEGORIES.now
unfolding everything
categories_ask = is_query SELECT_CATEGORIES.now (record { parsed = _; is = refl; selects = refl; untimed = refl })

-- all categories, in the order of their numbers
pub shows_categories : (old new : State) (rows : List sql.Row) (books : Books) → IsShop old
    → Shown SELECT_CATEGORIES.now [] old new rows → StandsFor old.now.trees books
    → rows ≡ map shown_category (numbered books.catalogue.categories)
shows_categories old new rows books shop h s =
    let all = numbered books.catalogue.categories in
    let output = numbered_output (λ (it : ℕ × Text). it.0) shown_category in
    joined_rows 7 end [] category_shows category_order [] old.now.trees 2 named_columns all s.categories refl (λ r. refl)
    (λ x. output x ∷ []) (λ x. IsPermutation-same _ _ refl)
    rows (answers shop_schema SELECT_CATEGORIES.now categories_query [] old new shop categories_mean rows h)
    (map output all) (IsPermutation-same _ _ (flat_map_single output all))
    (climb_up (λ (it : ℕ × Text). it.0) shown_category (inner 7 end) [] category_shows (col 1 1) all
    (counted_rise (λ (it : ℕ × Text). it.0) 1 all (numbered_counted 1 books.catalogue.categories)))
    ∙ map-map (λ (o : Output). o.1) output all
