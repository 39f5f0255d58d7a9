-- The text of the list of all consignments that are under way, and what it shows of the books.
use Rattle.shop_schema.proofs.Common.{Ordering, Less, Greater, ◌≡◌, pos, List, [], ◌∷◌, map, filter, not, true, false, Bool, cond, refl, ap, ◌∙◌, Equal}
use Rattle.shop_schema.proofs.Common.{nat_cmp, ordering_then, Value, Int, column, value_cmp, ascending, Key, Binary, Compare, Eq, is_true, Term, col, lit}
use Rattle.shop_schema.proofs.Common.{Output, output_cmp, State, ascending-filter, number_value, flag_value, IsQuery, is_query, Selects, number_cmp, one_tested}
use Rattle.shop_schema.proofs.Common.{number_tested, are_equal, sorted_by, Books, Consignment, goes_before, transit_text, shop_schema, IsHeld, IsShop}
use Rattle.shop_schema.proofs.Common.{StandsFor}
use Rattle.sqlite_value.specs.Order as sql
use Rattle.sqlite_sql.specs.Ops.{binary}
use Rattle.sqlite_tied.specs.Compute.{everything}
use Rattle.sqlite.specs.Listing.{understood}
use Rattle.sqlite.specs.State.{Shown}
use Rattle.shop_views.specs.Consignments as bodies
use Rattle.consign_store.specs.Listed.{ListLine, shown_line, list_lines, listed}
use Rattle.consign_store.proofs.ListJoin.{list_query, list_output, line_key, Ends, shows_list}
use Rattle.consign_store.specs.declared.lists.TheConstants.{SELECT_TRANSIT}
use Rattle.consign_store.proofs.TransitOrder.{key_cmp, key_total, Apart, sorted_bag, sorted_up, keys_apart}

abbrev transit_tests : List Term
transit_tests = are_equal (col 1 5) (lit (Int (pos 0))) ∷ []

abbrev key_order : List (Term × Key)
key_order = (col 1 1, ascending Binary) ∷ (col 1 2, ascending Binary) ∷ (col 1 3, ascending Binary) ∷ (col 2 4, ascending Binary) ∷ []

abbrev keys : Consignment → Value → sql.Row
keys it line = number_value it.source ∷ number_value it.addressee ∷ number_value it.number ∷ line ∷ []

abbrev pub is_open : Consignment → Bool
is_open it = not it.received

pub transit_means : Selects shop_schema SELECT_TRANSIT.now (list_query transit_tests key_order)
unfolding understood everything
transit_means = record { names = _; is = refl; plain = (refl, refl); unlisted = refl }

pub transit_asks : IsQuery SELECT_TRANSIT.now
unfolding everything
transit_asks = is_query SELECT_TRANSIT.now (record { parsed = _; is = refl; selects = refl; untimed = refl })

open_tested : (b : Bool) → is_true (binary (Compare Eq Binary) (flag_value b) (Int (pos 0))) ≡ not b
open_tested true = number_tested 1 0
open_tested false = number_tested 0 0

transit_ends : Ends transit_tests key_order [] is_open keys
transit_ends db it r2 =
    ap (λ t.
    cond t
    ((
      keys it (column r2 4),
      number_value it.source ∷ number_value it.addressee ∷ number_value it.number ∷ flag_value it.received ∷ column r2 4 ∷ column r2 5 ∷ [],
    )
    ∷ [])
    [])
    (one_tested _ (open_tested it.received))

abbrev out : ListLine → Output
out = list_output transit_tests key_order [] is_open keys

then_assoc : (p q r : Ordering) → ordering_then p (ordering_then q r) ≡ ordering_then (ordering_then p q) r
then_assoc Less q r = refl
then_assoc Equal q r = refl
then_assoc Greater q r = refl

compares : (a b : ListLine)
    → output_cmp (list_query transit_tests key_order) (out a) (out b)
    ≡ ordering_then (key_cmp a.0 b.0) (ordering_then (value_cmp (line_key a) (line_key b)) Equal)
compares a b =
    let rest : Ordering = ordering_then (value_cmp (line_key a) (line_key b)) Equal in
    (λ i.
    ordering_then (number_cmp a.0.source b.0.source i)
    (ordering_then (number_cmp a.0.addressee b.0.addressee i) (ordering_then (number_cmp a.0.number b.0.number i) rest)))
    ∙ ap (ordering_then (nat_cmp a.0.source b.0.source)) (then_assoc (nat_cmp a.0.addressee b.0.addressee) (nat_cmp a.0.number b.0.number) rest)
    ∙ then_assoc (nat_cmp a.0.source b.0.source) (ordering_then (nat_cmp a.0.addressee b.0.addressee) (nat_cmp a.0.number b.0.number)) rest

pub shows_transit : (old new : State) (rows : List sql.Row) (books : Books) → IsShop old
    → Shown SELECT_TRANSIT.now [] old new rows → StandsFor old.now.trees books → IsHeld books
    → rows ≡ map shown_line (list_lines (sorted_by goes_before (filter is_open books.consignments)))
shows_transit old new rows books shop h s held =
    let open_ones = filter is_open books.consignments in
    shows_list transit_tests key_order [] is_open keys key_cmp key_total compares SELECT_TRANSIT.now transit_means transit_ends (λ db r. refl)
    old new rows books shop h s held.numbers.consignments (sorted_by goes_before open_ones) (sorted_bag goes_before open_ones)
    (sorted_up open_ones (ascending-filter Apart is_open books.consignments (keys_apart books.consignments held.numbers.consignments)))

-- both definitions of a consignment's text give the same text
pub transit_are : (cs : List Consignment)
    → map bodies.transit_text (map listed cs)
    ≡ map transit_text (map (λ (it : Consignment). (it.source, it.addressee, it.number, map (λ line. line.film) it.lines)) cs)
transit_are [] = refl
transit_are (it ∷ cs) = ap (λ rest. bodies.transit_text (listed it) ∷ rest) (transit_are cs)
