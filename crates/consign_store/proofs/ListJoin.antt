-- What the joins of the lists of consignments show of the books.
use Rattle.shop_schema.proofs.Common.{IsTotalOrder, tied_itself, ordering_reverse, ordering_then, Ordering, Less, Equal, Greater, nat_cmp, number_cmp}
use Rattle.shop_schema.proofs.Common.{value_cmp, nat_tests, ◌≡◌, ◌==◌, ◌&&◌, ◌<◌, ℕ, List, [], ◌∷◌, ◌++◌, map, filter, true, false, Bool, cond, Option, Some}
use Rattle.shop_schema.proofs.Common.{None, refl, sym, ap, subst, ◌∙◌, arith, is_eq, is_lt, append-nil, inl, inr, IsPermutation, flat_map, AllByRecursion}
use Rattle.shop_schema.proofs.Common.{IsPermutation-trans, IsPermutation-map, Value, Null, or_null, column, Key, Trees, IsAscending, Term, col, Query, Join}
use Rattle.shop_schema.proofs.Common.{inner, left, end, Output, output_cmp, overlay, State, map-map, IsPermutation-same, IsPermutation-flat_map, ascending-map}
use Rattle.shop_schema.proofs.Common.{ascending_weaker, ascending-append, all-map, all-flat_map, all_weaker, HasRows, columns_of, number_value, flag_value}
use Rattle.shop_schema.proofs.Common.{Selects, answers, passing, three_tested, number_tested, joined_query, are_equal, or_blank, shown_of, equals, left_bag}
use Rattle.shop_schema.proofs.Common.{joined_rows, Climbs, numbered, AreNumbered, Books, Line, Consignment, is_consignment, same_test, shop_schema}
use Rattle.shop_schema.proofs.Common.{consignment_columns, IsShop, StandsFor}
use Rattle.shop_store.proofs.LastNumbers.{numbered_rise}
use Rattle.sqlite_value.specs.Order as sql
use Rattle.sqlite_rules.specs.Lists.{Has}
use Rattle.sqlite.specs.State.{Shown}
use Rattle.consign_store.specs.Parts.{Placed, placed_at, placed_in, all_placed, placed_columns, is_within}
use Rattle.consign_store.specs.Listed.{ListLine, shown_line, lines_of, list_lines}
use Rattle.consign_store.proofs.Parts.{lines_are, lines_pass}
use Rattle.consign_store.proofs.PairCounts.{picks_consignment}
use Rattle.shop_schema.specs.Trees.{consignment_line_tree}

abbrev pub with_lines : Join
with_lines = left consignment_line_tree (are_equal (col 2 1) (col 1 1) ∷ are_equal (col 2 2) (col 1 2) ∷ are_equal (col 2 3) (col 1 3) ∷ []) end

abbrev pub list_shows : List Term
list_shows = col 1 1 ∷ col 1 2 ∷ col 1 3 ∷ col 1 5 ∷ col 2 4 ∷ col 2 5 ∷ []

abbrev pub list_query : List Term → List (Term × Key) → Query
list_query tests order = joined_query (inner 34 with_lines) tests list_shows order

-- ---- the lines of one consignment

abbrev pair_of : Placed → ℕ × Line
pair_of row = (row.line, row.it)

abbrev found : List Consignment → Consignment → List (ℕ × Line)
found cs it = map pair_of (all_placed (filter (is_consignment it.source it.addressee it.number) cs))

all_from : {X : Type 0} {P : X → Type 0} (xs : List X) → ((x : X) → Has xs x → P x) → AllByRecursion P xs
all_from [] h = tt
all_from (x ∷ xs) h = (h x (inl refl), all_from xs (λ y later. h y (inr later)))

own_lines : (it : Consignment) (ls : List (ℕ × Line)) → map pair_of (map (placed_at it) ls) ≡ ls
own_lines it [] = refl
own_lines it (l ∷ ls) = ap (λ rest. l ∷ rest) (own_lines it ls)

-- if each key occurs once, the lines of a consignment's key are its own lines
found_own : (cs : List Consignment) → ((s a : ℕ) → AreNumbered (λ (it : Consignment). it.source == s && it.addressee == a) (λ it. it.number) cs)
    → AllByRecursion (λ (it : Consignment). found cs it ≡ numbered it.lines) cs
found_own cs counted = all_from {P = λ it. found cs it ≡ numbered it.lines} cs (λ it here. one it here)
  where
    own_key : (it : Consignment) → is_consignment it.source it.addressee it.number it ≡ true
    own_key it = rw (same_test it.source, same_test it.addressee, same_test it.number) refl

    one : (it : Consignment) → Has cs it → found cs it ≡ numbered it.lines
    one it here =
        let alone : filter (is_consignment it.source it.addressee it.number) cs ≡ it ∷ [] =
        passing (is_consignment it.source it.addressee it.number) cs it here (own_key it)
        (picks_consignment it.source it.addressee it.number cs (counted it.source it.addressee)) in
        ap (λ (l : List Consignment). map pair_of (all_placed l)) alone ∙ ap (map pair_of) (append-nil (placed_in it)) ∙ own_lines it (numbered it.lines)

-- ---- a list by its test and its order

abbrev pub shown_by : Consignment → Value → Value → sql.Row
shown_by it line film = number_value it.source ∷ number_value it.addressee ∷ number_value it.number ∷ flag_value it.received ∷ line ∷ film ∷ []

abbrev pub line_key : ListLine → Value
line_key line = or_null (λ (l : ℕ × Line). number_value l.0) line.1

pub less : (m n : ℕ) → m < n → nat_cmp m n ≡ Less
less m n h = grind (arith, nat_tests)

greater : (m n : ℕ) → m < n → nat_cmp n m ≡ Greater
greater m n h = grind (arith, nat_tests)

module _ (tests : List Term) (order : List (Term × Key)) (params : sql.Row) (p : Consignment → Bool) (keys : Consignment → Value → sql.Row) where
  abbrev q : Query
  q = list_query tests order

  abbrev pub list_output : ListLine → Output
  list_output line = (keys line.0 (line_key line), shown_line line)

  abbrev pub Ends : Type 0
  Ends =
      (db : Trees) (it : Consignment) (r2 : sql.Row)
      → shown_of q (overlay db []) end (params ∷ (Null ∷ consignment_columns it) ∷ r2 ∷ [])
      ≡ cond (p it) ((keys it (column r2 4), shown_by it (column r2 4) (column r2 5)) ∷ []) []

  -- the hidden number of a consignment's row is not read
  abbrev pub ReadsColumns : Type 0
  ReadsColumns =
      (db : Trees) (r : sql.Row)
      → shown_of q (overlay db []) with_lines (params ∷ r ∷ []) ≡ shown_of q (overlay db []) with_lines (params ∷ (Null ∷ columns_of 5 r) ∷ [])

  module _ (ends : Ends) (db : Trees) (cs : List Consignment) (lines : HasRows 8 (db 37) (map placed_columns (all_placed cs))) where
    abbrev outs : Consignment → List Output
    outs it = cond (p it) (map list_output (lines_of it (found cs it))) []

    module _ (it : Consignment) where
      abbrev gives : sql.Row → List Output
      gives r2 = shown_of q (overlay db []) end (params ∷ (Null ∷ consignment_columns it) ∷ r2 ∷ [])

      each_out : (row : Placed) → gives (Null ∷ placed_columns row) ≡ cond (p it) (list_output (it, Some (pair_of row)) ∷ []) []
      each_out row = ends db it (Null ∷ placed_columns row)

      all_out : (rows : List Placed)
          → flat_map (λ c. gives (Null ∷ c)) (map placed_columns rows) ≡ cond (p it) (map (λ (row : Placed). list_output (it, Some (pair_of row))) rows) []
      all_out [] = either (p it)
        where
          either : (b : Bool) → [] ≡ cond {A = List Output} b [] []
          either true = refl
          either false = refl
      all_out (row ∷ rows) = (λ i. each_out row i ++ all_out rows i) ∙ either (p it)
        where
          either : (b : Bool)
              → cond b (list_output (it, Some (pair_of row)) ∷ []) [] ++ cond b (map (λ (row : Placed). list_output (it, Some (pair_of row))) rows) []
              ≡ cond b (list_output (it, Some (pair_of row)) ∷ map (λ (row : Placed). list_output (it, Some (pair_of row))) rows) []
          either true = refl
          either false = refl

      or_none : (rows : List Placed)
          → flat_map (λ c. gives (Null ∷ c)) (or_blank 8 (map placed_columns rows)) ≡ cond (p it) (map list_output (lines_of it (map pair_of rows))) []
      or_none [] = append-nil _ ∙ ends db it (Null ∷ columns_of 8 [])
      or_none (row ∷ rows) = all_out (row ∷ rows) ∙ ap (λ (l : List Output). cond (p it) l []) (sym (same_rows (row ∷ rows)))
        where
          same_rows : (rows : List Placed)
              → map list_output (map (λ (l : ℕ × Line). (it, Some l)) (map pair_of rows)) ≡ map (λ (row : Placed). list_output (it, Some (pair_of row))) rows
          same_rows [] = refl
          same_rows (row ∷ rows) = ap (λ (l : List Output). list_output (it, Some (pair_of row)) ∷ l) (same_rows rows)

      pub line_brings : IsPermutation (shown_of q (overlay db []) with_lines (params ∷ (Null ∷ consignment_columns it) ∷ [])) (outs it)
      line_brings =
          let is : is_within it.source it.addressee it.number ≡ is_within it.source it.addressee it.number = refl in
          IsPermutation-trans _ _ _
          (left_bag 8 placed_columns (db 37) (all_placed cs) lines
          (λ r.
          equals (column r 1) (number_value it.source)
          && (equals (column r 2) (number_value it.addressee) && (equals (column r 3) (number_value it.number) && true)))
          (λ vs.
          equals (column vs 0) (number_value it.source)
          && (equals (column vs 1) (number_value it.addressee) && (equals (column vs 2) (number_value it.number) && true)))
          (is_within it.source it.addressee it.number) (λ r. refl)
          (λ row. three_tested _ _ _ (number_tested row.source it.source) (number_tested row.addressee it.addressee) (number_tested row.number it.number))
          gives (λ r. ends db it r ∙ sym (ends db it (Null ∷ columns_of 8 r))))
          (IsPermutation-same _ _
          (ap (λ (l : List Placed). flat_map (λ c. gives (Null ∷ c)) (or_blank 8 (map placed_columns l))) (lines_pass it.source it.addressee it.number cs)
          ∙ or_none (all_placed (filter (is_consignment it.source it.addressee it.number) cs))))

    -- of all consignments
    outs_are : (ds : List Consignment) → AllByRecursion (λ (it : Consignment). found cs it ≡ numbered it.lines) ds
        → flat_map outs ds ≡ map list_output (list_lines (filter p ds))
    outs_are [] all = refl
    outs_are (it ∷ ds) all =
        (λ i. cond (p it) (map list_output (lines_of it (all.0 i))) [] ++ outs_are ds all.1 i) ∙ either (p it)
      where
        pushed : (a b : List ListLine) → map list_output a ++ map list_output b ≡ map list_output (a ++ b)
        pushed [] b = refl
        pushed (l ∷ a) b = ap (λ (rest : List Output). list_output l ∷ rest) (pushed a b)

        either : (b : Bool)
            → cond b (map list_output (lines_of it (numbered it.lines))) [] ++ map list_output (list_lines (filter p ds))
            ≡ map list_output (list_lines (cond b (it ∷ filter p ds) (filter p ds)))
        either true = pushed (lines_of it (numbered it.lines)) (list_lines (filter p ds))
        either false = refl

  -- ---- the order: by the order of consignments, then by line

  abbrev Climb : Output → Output → Type 0
  Climb a b = (is_eq (output_cmp q a b) ≡ false) × (is_lt (output_cmp q b a) ≡ false)

  module _ (cmp : Consignment → Consignment → Ordering) (total : IsTotalOrder cmp)
      (compares : (a b : ListLine)
      → output_cmp q (list_output a) (list_output b) ≡ ordering_then (cmp a.0 b.0) (ordering_then (value_cmp (line_key a) (line_key b)) Equal)) where
    abbrev Before : Consignment → Consignment → Type 0
    Before a b = cmp a b ≡ Less

    abbrev Up : ListLine → ListLine → Type 0
    Up a b = Climb (list_output a) (list_output b)

    line_climbs : (it : Consignment) (x y : ℕ × Line) → x.0 < y.0 → Up (it, Some x) (it, Some y)
    line_climbs it x y h = (
      ap is_eq
          (compares (it, Some x) (it, Some y) ∙ (λ i. ordering_then (tied_itself total it i) (ordering_then ((number_cmp x.0 y.0 ∙ less x.0 y.0 h) i) Equal))),
      ap is_lt
          (compares (it, Some y) (it, Some x)
          ∙ (λ i. ordering_then (tied_itself total it i) (ordering_then ((number_cmp y.0 x.0 ∙ greater x.0 y.0 h) i) Equal))),
    )

    later_climbs : (a b : ListLine) → Before a.0 b.0 → Up a b
    later_climbs a b h = (
      ap is_eq (compares a b ∙ ap (λ o. ordering_then o (ordering_then (value_cmp (line_key a) (line_key b)) Equal)) h),
      ap is_lt
          (compares b a
          ∙ ap (λ o. ordering_then o (ordering_then (value_cmp (line_key b) (line_key a)) Equal)) (total.antisymm b.0 a.0 ∙ ap ordering_reverse h)),
    )

    lines_up : (it : Consignment) (ls : List (ℕ × Line)) → IsAscending (λ (x y : ℕ × Line). x.0 < y.0) ls → IsAscending Up (lines_of it ls)
    lines_up it [] up = (tt, tt)
    lines_up it (l ∷ ls) up =
        ascending-map Up (λ (line : ℕ × Line). (it, Some line)) (l ∷ ls)
        (ascending_weaker (λ (x y : ℕ × Line). x.0 < y.0) _ (λ x y h. line_climbs it x y h) (l ∷ ls) up)

    of_one : (it : Consignment) (ls : List (ℕ × Line)) (P : ListLine → Type 0) → ((line : Option (ℕ × Line)) → P (it, line)) → AllByRecursion P (lines_of it ls)
    of_one it [] P h = (h None, tt)
    of_one it (l ∷ ls) P h = all-map P (λ (line : ℕ × Line). (it, Some line)) (λ line. h (Some line)) (l ∷ ls)

    pub all_up : (ds : List Consignment) → IsAscending Before ds → IsAscending Up (list_lines ds)
    all_up [] up = tt
    all_up (it ∷ ds) up =
        ascending-append Up (lines_of it (numbered it.lines)) (list_lines ds) (lines_up it (numbered it.lines) (numbered_rise 1 it.lines)) (all_up ds up.1)
        (of_one it (numbered it.lines) _ (λ line. all-flat_map (λ other. Up (it, line) other) (λ (next : Consignment). lines_of next (numbered next.lines)) ds
        (all_weaker (λ (next : Consignment). Before it next) _
        (λ next h. of_one next (numbered next.lines) _ (λ other. later_climbs (it, line) (next, other) h)) ds up.0)))

    pub shows_list : (text : List ℕ) → Selects shop_schema text q → Ends → ReadsColumns
        → (old new : State) (rows : List sql.Row) (books : Books) → IsShop old → Shown text params old new rows → StandsFor old.now.trees books
        → ((s a : ℕ) → AreNumbered (λ (it : Consignment). it.source == s && it.addressee == a) (λ it. it.number) books.consignments)
        → (targets : List Consignment) → IsPermutation (filter p books.consignments) targets
        → IsAscending Before targets → rows ≡ map shown_line (list_lines targets)
    shows_list text means ends only old new rows books shop h s counted targets same up =
        let cs = books.consignments in
        let db = old.now.trees in
        let lines : HasRows 8 (db 37) (map placed_columns (all_placed cs)) = subst (HasRows 8 (db 37)) (lines_are cs) s.lines in
        let climbs : Climbs q (map list_output (list_lines targets)) = ascending-map Climb list_output (list_lines targets) (all_up targets up) in
        let bag : IsPermutation (flat_map (outs ends db cs lines) cs) (map list_output (list_lines targets)) =
        subst (λ (l : List Output). IsPermutation l (map list_output (list_lines targets))) (sym (outs_are ends db cs lines cs (found_own cs counted)))
        (IsPermutation-map list_output _ _ (IsPermutation-flat_map (λ (it : Consignment). lines_of it (numbered it.lines)) _ _ same)) in
        joined_rows 34 with_lines tests list_shows order params db 5 consignment_columns cs s.consignments refl
        (only db) (outs ends db cs lines) (line_brings ends db cs lines)
        rows (answers shop_schema text q params old new shop means rows h) (map list_output (list_lines targets)) bag climbs
        ∙ map-map (λ (o : Output). o.1) list_output (list_lines targets)
