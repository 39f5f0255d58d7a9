-- The texts of a branch's two lists of consignments, and what they show of the books.
use Rattle.shop_schema.proofs.Common.{number_total, ascending_weaker, shown_of, overlay, end, consignment_columns, is_true, true, ◌&&◌, Compare, Eq, Trees}
use Rattle.shop_schema.proofs.Common.{Null, ◌≡◌, ◌==◌, ◌<◌, ℕ, List, [], ◌∷◌, map, filter, Bool, cond, refl, ap, ◌∙◌, Equal, nat_cmp, ordering_then}
use Rattle.shop_schema.proofs.Common.{IsPermutation-refl, Value, column, value_cmp, ascending, Key, Binary, Term, col, Output, output_cmp, State}
use Rattle.shop_schema.proofs.Common.{ascending-filter, number_value, IsQuery, is_query, Selects, number_cmp, one_tested, number_tested, are_equal, Books}
use Rattle.shop_schema.proofs.Common.{Consignment, shop_schema, IsHeld, IsShop, StandsFor}
use Rattle.sqlite_value.specs.Order as sql
use Rattle.sqlite_sql.specs.Ops.{binary}
use Rattle.sqlite_tied.specs.Compute.{everything}
use Rattle.sqlite.specs.Listing.{understood}
use Rattle.sqlite.specs.State.{Shown}
use Rattle.consign_store.specs.Listed.{ListLine, shown_line, list_lines}
use Rattle.consign_store.proofs.Texts.{places_rise}
use Rattle.consign_store.proofs.ListJoin.{list_query, list_output, shown_by, line_key, less, Ends, ReadsColumns, shows_list}
use Rattle.consign_store.specs.declared.lists.TheConstants.{SELECT_ARRIVALS, SELECT_SENT}

abbrev place_order : List (Term × Key)
place_order = (col 1 4, ascending Binary) ∷ (col 2 4, ascending Binary) ∷ []

abbrev place_keys : Consignment → Value → sql.Row
place_keys it line = number_value it.place ∷ line ∷ []

-- ---- in the order of places, then of lines

module _ (tests : List Term) (params : sql.Row) (p : Consignment → Bool) where
  abbrev out : ListLine → Output
  out = list_output tests place_order params p place_keys

  compares : (a b : ListLine) → output_cmp (list_query tests place_order) (out a) (out b)
      ≡ ordering_then (nat_cmp a.0.place b.0.place) (ordering_then (value_cmp (line_key a) (line_key b)) Equal)
  compares a b = ap (λ o. ordering_then o (ordering_then (value_cmp (line_key a) (line_key b)) Equal)) (number_cmp a.0.place b.0.place)

  shows_by_place : (text : List ℕ) → Selects shop_schema text (list_query tests place_order)
      → Ends tests place_order params p place_keys → ReadsColumns tests place_order params p place_keys
      → (old new : State) (rows : List sql.Row) (books : Books) → IsShop old → Shown text params old new rows → StandsFor old.now.trees books → IsHeld books
      → rows ≡ map shown_line (list_lines (filter p books.consignments))
  shows_by_place text means ends columns old new rows books shop h s held =
      shows_list tests place_order params p place_keys (λ x y. nat_cmp x.place y.place)
      (number_total (λ (it : Consignment). it.place)) compares text means ends columns
      old new rows books shop h s held.numbers.consignments (filter p books.consignments) (IsPermutation-refl _)
      (ascending_weaker (λ (x y : Consignment). x.place < y.place) _ (λ x y h. less x.place y.place h) (filter p books.consignments)
      (ascending-filter (λ (x y : Consignment). x.place < y.place) p books.consignments (places_rise books.consignments held.places)))

-- ---- the consignments that have the branch in one column, which is `of` of a consignment; the premises are `refl`

abbrev pub of_branch : ℕ → List Term
of_branch at = are_equal (col 1 at) (col 0 0) ∷ []

module _ (at : ℕ) (of : Consignment → ℕ) (b : ℕ) where
  abbrev pub own : Consignment → Bool
  own it = of it == b

  pub shows_own : (text : List ℕ) → Selects shop_schema text (list_query (of_branch at) place_order)
      → ((db : Trees) (it : Consignment) (r2 : sql.Row)
      → shown_of (list_query (of_branch at) place_order) (overlay db []) end ((number_value b ∷ []) ∷ (Null ∷ consignment_columns it) ∷ r2 ∷ [])
      ≡ cond (is_true (binary (Compare Eq Binary) (number_value (of it)) (number_value b)) && true)
      ((place_keys it (column r2 4), shown_by it (column r2 4) (column r2 5)) ∷ []) [])
      → ReadsColumns (of_branch at) place_order (number_value b ∷ []) own place_keys
      → (old new : State) (rows : List sql.Row) (books : Books) → IsShop old
      → Shown text (number_value b ∷ []) old new rows → StandsFor old.now.trees books → IsHeld books
      → rows ≡ map shown_line (list_lines (filter own books.consignments))
  shows_own text means given =
      shows_by_place (of_branch at) (number_value b ∷ []) own text means
      (λ db it r2.
      given db it r2
      ∙ ap (λ t. cond t ((place_keys it (column r2 4), shown_by it (column r2 4) (column r2 5)) ∷ []) []) (one_tested _ (number_tested (of it) b)))

pub arrivals_ask : IsQuery SELECT_ARRIVALS.now
unfolding everything
arrivals_ask = is_query SELECT_ARRIVALS.now (record { parsed = _; is = refl; selects = refl; untimed = refl })

pub arrivals_mean : Selects shop_schema SELECT_ARRIVALS.now (list_query (of_branch 2) place_order)
unfolding understood everything
arrivals_mean = record { names = _; is = refl; plain = (refl, refl); unlisted = refl }

pub shows_arrivals : (old new : State) (b : ℕ) (rows : List sql.Row) (books : Books) → IsShop old
    → Shown SELECT_ARRIVALS.now (number_value b ∷ []) old new rows → StandsFor old.now.trees books → IsHeld books
    → rows ≡ map shown_line (list_lines (filter (λ (it : Consignment). it.addressee == b) books.consignments))
unfolding understood everything
shows_arrivals old new b =
    shows_own 2 (λ it. it.addressee) b SELECT_ARRIVALS.now arrivals_mean (λ db it r2. refl) (λ db r. refl) old new

pub sent_asks : IsQuery SELECT_SENT.now
unfolding everything
sent_asks = is_query SELECT_SENT.now (record { parsed = _; is = refl; selects = refl; untimed = refl })

pub sent_mean : Selects shop_schema SELECT_SENT.now (list_query (of_branch 1) place_order)
unfolding understood everything
sent_mean = record { names = _; is = refl; plain = (refl, refl); unlisted = refl }

pub shows_sent : (old new : State) (b : ℕ) (rows : List sql.Row) (books : Books) → IsShop old
    → Shown SELECT_SENT.now (number_value b ∷ []) old new rows → StandsFor old.now.trees books → IsHeld books
    → rows ≡ map shown_line (list_lines (filter (λ (it : Consignment). it.source == b) books.consignments))
unfolding understood everything
shows_sent old new b =
    shows_own 1 (λ it. it.source) b SELECT_SENT.now sent_mean (λ db it r2. refl) (λ db r. refl) old new
