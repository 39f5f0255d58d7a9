-- What the texts on consignments and their lines say and make of the books.
use Rattle.shop_schema.proofs.Common.{◌≡◌, ◌≤◌, ◌<◌, ◌&&◌, ℕ, pos, List, [], ◌∷◌, ◌++◌, append-nil, subst₂, IsPermutation-same, map, filter, length, Bool, true}
use Rattle.shop_schema.proofs.Common.{false, Ok, Err, Result, refl, sym, ap, subst, ◌∙◌, IsPermutation, ⊤, IfOk, option_to_list, flat_map, map_push}
use Rattle.shop_schema.proofs.Common.{IsPermutation-map, Int, column, ascending, Binary, Term, lit, col, Update, State, ExecutesInside, IsAscending, sort_by}
use Rattle.shop_schema.proofs.Common.{update_where, map-map, AllByRecursion, all_map, all_of, all-filter, Means, HasRows, PicksOne, by, number_value}
use Rattle.shop_schema.proofs.Common.{flag_value, StoreFault, are_kept, length-map, Selects, plain_query, unmapped, number_test, number_tested, test_of}
use Rattle.shop_schema.proofs.Common.{two_tested, three_tested, still_holds, writes_by, selects_bag, selects_one, selects_sorted, sets_row, Row, IsCounted}
use Rattle.shop_schema.proofs.Common.{Books, BookCopy, Mark, LineState, UnderWay, Arrived, Missing, Consignment, is_consignment, is_mark, shop_schema}
use Rattle.shop_schema.proofs.Common.{consignment_table, consignment_line_table, consignment_columns, copy_columns, line_value, line_rows, IsHeld, IsRow}
use Rattle.shop_schema.proofs.Common.{IsCopy, CopyRows, StandsFor, StandsWith, Reads, Writes, cols, values}
use Rattle.std.specs.Prelude.{Option, take, option_map}
use Rattle.sqlite_value.specs.Order as sql
use Rattle.sqlite_tied.specs.Compute.{everything}
use Rattle.sqlite.specs.Listing.{understood}
use Rattle.sqlite.specs.State.{Shown}
use Rattle.sql_rows.proofs.OfKind.{same_bag}
use Rattle.shop_schema.proofs.Lists.{flat_map_push}
use Rattle.shop_schema.proofs.Listed.{own_rows}
use Rattle.shop_schema.proofs.OneRow.{same_row}
use Rattle.shop_schema.proofs.ShopTables as table
use Rattle.shop_ledger.proofs.Equals.{equals, of_three}
use Rattle.shop_ledger.proofs.Rising.{counted_rise, rise_differ, rise_sorted}
use Rattle.shop_ledger.proofs.Puts.{puts_row}
use Rattle.shop_store.proofs.BranchRows.{replaced, take_few, option_list}
use Rattle.shop_store.specs.SharedSeen.{IsFirstNumber}
use Rattle.shop_store.proofs.LastNumbers.{reads_greatest}
use Rattle.consign_store.specs.declared.headers.TheConstants.{SELECT_PLACE, SELECT_HEADER, INSERT_HEADER, UPDATE_RECEIVED}
use Rattle.consign_store.specs.declared.lines.TheConstants.{SELECT_LINES, INSERT_LINE, UPDATE_LINE}
use Rattle.consign_store.specs.declared.marks.TheConstants.{SELECT_COPIES, SELECT_MARKED}
use Rattle.consign_store.specs.Parts.{Header, header_of, header_columns, opened, Placed, placed_in, all_placed, placed_columns, is_header, is_within, is_placed}
use Rattle.consign_store.specs.Parts.{receive, put_state, push_line, set_state, with_received, with_line, with_state, IsOnce, IsNextLine}
use Rattle.consign_store.proofs.ListLemmas.{map_stays, lists_stay}
use Rattle.consign_store.proofs.Parts.{headers_are, lines_are, same_header, same_placed, headers_pass, picks_header, lines_pass, lines_rise, picks_placed}
use Rattle.consign_store.proofs.Parts.{receive_header, headers_set, set_placed, lines_set, lines_put}
use Rattle.consign_store.proofs.PairCounts.{picks_consignment}
use Rattle.consign_store.proofs.Tables.{with_headers, with_its_lines, headers_changed, lines_changed}
use Rattle.shop_schema.specs.Trees.{consignment_line_tree, consignment_tree, copy_tree}

abbrev pub key_params : ℕ → ℕ → ℕ → sql.Row
key_params s a n = number_value s ∷ number_value a ∷ number_value n ∷ []

abbrev has_key : ℕ → ℕ → ℕ → sql.Row → Bool
has_key s a n vs = number_test 0 s vs && (number_test 1 a vs && (number_test 2 n vs && true))

header_tested : (s a n : ℕ) (it : Header) → has_key s a n (header_columns it) ≡ is_header s a n it
header_tested s a n it = three_tested _ _ _ (number_tested it.source s) (number_tested it.addressee a) (number_tested it.number n)

placed_tested : (s a n : ℕ) (it : Placed) → has_key s a n (placed_columns it) ≡ is_within s a n it
placed_tested s a n it = three_tested _ _ _ (number_tested it.source s) (number_tested it.addressee a) (number_tested it.number n)

-- the two tables, as lists of the books
headers_stand : (old : State) (books : Books) → StandsFor old.now.trees books
    → HasRows 5 (old.now.trees consignment_tree) (map header_columns (map header_of books.consignments))
headers_stand old books s = subst (HasRows 5 (old.now.trees consignment_tree)) (headers_are books.consignments) s.consignments

lines_stand : (old : State) (books : Books) → StandsFor old.now.trees books
    → HasRows 8 (old.now.trees consignment_line_tree) (map placed_columns (all_placed books.consignments))
lines_stand old books s = subst (HasRows 8 (old.now.trees consignment_line_tree)) (lines_are books.consignments) s.lines

-- ---- reads of headers

select_header_means : Selects shop_schema SELECT_HEADER.now (plain_query consignment_tree of_three (cols 1 1 5) [])
unfolding understood everything
select_header_means = record { names = _; is = refl; plain = (refl, refl); unlisted = refl }

-- a key comes once
once_held : (s a n : ℕ) (books : Books) → IsHeld books → PicksOne (is_consignment s a n) books.consignments
once_held s a n books held = picks_consignment s a n books.consignments (held.numbers.consignments s a)

pub read_header : {R : Type 0} (seen : R → Header) (old new : State) (s a n : ℕ) (rows : List sql.Row) (o : Option R)
    → Shown SELECT_HEADER.now (key_params s a n) old new rows
    → map (λ x. header_columns (seen x)) (option_to_list o) ≡ take 1 rows
    → Reads old new (λ books. option_to_list (option_map seen o) ≡ map header_of (filter (is_consignment s a n) books.consignments))
read_header seen old new s a n rows o h read = λ books holds held.
    let cs = books.consignments in
    let few = picks_header s a n cs (once_held s a n books held) in
    let found : rows ≡ map header_columns (filter (is_header s a n) (map header_of cs)) =
    selects_one shop_schema SELECT_HEADER.now 34 5 of_three (cols 1 1 5) [] select_header_means
    (key_params s a n) old new rows holds.schema_is h header_columns (map header_of cs)
    (headers_stand old books holds.stands) (own_rows old.now.trees consignment_tree) (has_key s a n) (is_header s a n) (header_tested s a n) (λ r. refl) few in
    let short : length rows ≤ 1 =
    subst (λ (k : ℕ). k ≤ 1) (sym (ap length found ∙ length-map header_columns (filter (is_header s a n) (map header_of cs)))) few in (
      still_holds shop_schema StandsFor SELECT_HEADER.now _ old new select_header_means.plain rows h books holds,
      option_list seen o
          ∙ unmapped header_columns same_header _ _ (map-map header_columns seen (option_to_list o) ∙ read ∙ take_few rows short ∙ found)
          ∙ headers_pass s a n cs,
    )

-- the last place is how many consignments there are
pub places_rise : (cs : List Consignment) → IsCounted 1 (map (λ (it : Consignment). it.place) cs) → IsAscending (λ (x y : Consignment). x.place < y.place) cs
places_rise = counted_rise (λ (it : Consignment). it.place) 1

pub read_place : (old new : State) (rows slice : List sql.Row) (r : Result ℕ StoreFault)
    → Shown SELECT_PLACE.now [] old new rows → slice ≡ rows → IfOk r (IsFirstNumber slice)
    → IfOk r (λ n. Reads old new (λ books. n ≡ length books.consignments))
unfolding understood everything
read_place old new rows slice (Err e) h same first = tt
read_place old new rows slice (Ok n) h same first =
    reads_greatest SELECT_PLACE.now 34 5 3 (record { names = _; is = refl; plain = (refl, refl); unlisted = refl })
    (λ r. refl) (λ books. consignment_columns) (λ books. books.consignments)
    (λ books trees s. s.consignments) (λ it. it.place) (λ books it. refl)
    (λ books held. held.places) old new n rows h (subst (λ (l : List sql.Row). IsFirstNumber l n) same first)

-- ---- reads of lines

select_lines_means : Selects shop_schema SELECT_LINES.now (plain_query consignment_line_tree of_three (cols 1 1 8) ((col 1 4, ascending Binary) ∷ []))
unfolding understood everything
select_lines_means = record { names = _; is = refl; plain = (refl, refl); unlisted = refl }

pub read_lines : {R : Type 0} (seen : R → Placed) (old new : State) (s a n : ℕ) (rows : List sql.Row) (all : List R)
    → Shown SELECT_LINES.now (key_params s a n) old new rows
    → map (λ x. placed_columns (seen x)) all ≡ rows
    → Reads old new (λ books. map seen all ≡ flat_map placed_in (filter (is_consignment s a n) books.consignments))
read_lines seen old new s a n rows all h read = λ books holds held.
    let cs = books.consignments in
    let its = filter (is_consignment s a n) cs in
    let mine : filter (is_within s a n) (all_placed cs) ≡ all_placed its = lines_pass s a n cs in
    let rise = lines_rise s a n its (once_held s a n books held) in
    let found : rows ≡ map placed_columns (sort_by (by (λ (row : Placed). row.line)) (filter (is_within s a n) (all_placed cs))) =
    selects_sorted shop_schema SELECT_LINES.now 37 8 of_three (cols 1 1 8) 3 select_lines_means
    (key_params s a n) old new rows holds.schema_is h placed_columns (all_placed cs)
    (lines_stand old books holds.stands) (own_rows old.now.trees consignment_line_tree)
    (has_key s a n) (is_within s a n) (placed_tested s a n) (λ r. refl) (λ row. row.line) (λ row. refl)
    (rise_differ (λ (row : Placed). row.line) _ (subst (IsAscending (λ (x y : Placed). x.line < y.line)) (sym mine) rise)) in (
      still_holds shop_schema StandsFor SELECT_LINES.now _ old new select_lines_means.plain rows h books holds,
      unmapped placed_columns same_placed _ _
          (map-map placed_columns seen all ∙ read ∙ found
          ∙ ap (map placed_columns) (ap (sort_by (by (λ (row : Placed). row.line))) mine ∙ rise_sorted (λ (row : Placed). row.line) (all_placed its) rise)),
    )

-- ---- reads by mark

abbrev pub mark_params : Mark → sql.Row
mark_params mark = number_value mark.branch ∷ number_value mark.copy ∷ []

select_copies_means : Selects shop_schema SELECT_COPIES.now (plain_query copy_tree (equals 0 (5 ∷ 6 ∷ [])) (cols 1 1 6) [])
unfolding understood everything
select_copies_means = record { names = _; is = refl; plain = (refl, refl); unlisted = refl }

-- a bag of columns is that of the values
module _ {X R : Type 0} (columns : X → sql.Row) (P : X → Type 0) (one : (a b : X) → P a → P b → columns a ≡ columns b → a ≡ b) (seen : R → X) where
  seen_bag : (xs : List X) (rows : List sql.Row) (all : List R) → AllByRecursion P xs
      → AllByRecursion (λ x. P (seen x)) all → IsPermutation (map columns xs) rows → map (λ x. columns (seen x)) all ≡ rows
      → IsPermutation xs (map seen all)
  seen_bag xs rows all fit kinds bag read =
      same_bag columns P one xs (map seen all) fit (all_map P seen all kinds)
      (subst (IsPermutation (map columns xs)) (sym read ∙ sym (map-map columns seen all)) bag)

mark_tested : (mark it : Mark) (i j : ℕ) (vs : sql.Row) → column vs i ≡ number_value it.branch → column vs j ≡ number_value it.copy
    → (number_test i mark.branch vs && (number_test j mark.copy vs && true)) ≡ is_mark mark it
mark_tested mark it i j vs branch copy = two_tested _ _ (test_of vs i it.branch mark.branch branch) (test_of vs j it.copy mark.copy copy)

pub read_copies : {R : Type 0} (seen : R → Row BookCopy) (old new : State) (mark : Mark) (rows : List sql.Row) (all : List R)
    → Shown SELECT_COPIES.now (mark_params mark) old new rows
    → map (λ x. copy_columns (seen x)) all ≡ rows → AllByRecursion (λ x. IsRow IsCopy (seen x)) all
    → Reads old new (λ books. IsPermutation (filter (λ (row : Row BookCopy). is_mark mark row.it.mark) books.copies) (map seen all))
read_copies seen old new mark rows all h read kinds = λ books holds held.
    let p : Row BookCopy → Bool = λ row. is_mark mark row.it.mark in
    let found : IsPermutation (map copy_columns (filter p books.copies)) rows =
    selects_bag shop_schema SELECT_COPIES.now 25 6 (equals 0 (5 ∷ 6 ∷ [])) (cols 1 1 6)
    [] select_copies_means (mark_params mark) old new rows holds.schema_is h copy_columns books.copies
    holds.stands.copies (own_rows old.now.trees copy_tree) (λ vs. number_test 4 mark.branch vs && (number_test 5 mark.copy vs && true)) p
    (λ row. mark_tested mark row.it.mark 4 5 (copy_columns row) refl refl) (λ r. refl) in (
      still_holds shop_schema StandsFor SELECT_COPIES.now _ old new select_copies_means.plain rows h books holds,
      seen_bag copy_columns (IsRow IsCopy) (same_row table.copies) seen (filter p books.copies) rows all
          (all-filter (IsRow IsCopy) p books.copies (held.values.rows CopyRows)) kinds found read,
    )

select_marked_means : Selects shop_schema SELECT_MARKED.now (plain_query consignment_line_tree (equals 0 (6 ∷ 7 ∷ [])) (cols 1 1 8) [])
unfolding understood everything
select_marked_means = record { names = _; is = refl; plain = (refl, refl); unlisted = refl }

pub read_marked : {R : Type 0} (seen : R → Placed) (old new : State) (mark : Mark) (rows : List sql.Row) (all : List R)
    → Shown SELECT_MARKED.now (mark_params mark) old new rows
    → map (λ x. placed_columns (seen x)) all ≡ rows
    → Reads old new (λ books. IsPermutation (filter (λ (row : Placed). is_mark mark row.it.mark) (all_placed books.consignments)) (map seen all))
read_marked seen old new mark rows all h read = λ books holds held.
    let p : Placed → Bool = λ row. is_mark mark row.it.mark in
    let found : IsPermutation (map placed_columns (filter p (all_placed books.consignments))) rows =
    selects_bag shop_schema SELECT_MARKED.now 37 8 (equals 0 (6 ∷ 7 ∷ [])) (cols 1 1 8) [] select_marked_means
    (mark_params mark) old new rows holds.schema_is h placed_columns (all_placed books.consignments)
    (lines_stand old books holds.stands) (own_rows old.now.trees consignment_line_tree)
    (λ vs. number_test 5 mark.branch vs && (number_test 6 mark.copy vs && true)) p
    (λ row. mark_tested mark row.it.mark 5 6 (placed_columns row) refl refl) (λ r. refl) in (
      still_holds shop_schema StandsFor SELECT_MARKED.now _ old new select_marked_means.plain rows h books holds,
      seen_bag placed_columns (λ _. ⊤) (λ a b _ _. same_placed a b) seen (filter p (all_placed books.consignments)) rows all
          (all_of (λ _. ⊤) (λ _. tt) (filter p (all_placed books.consignments))) (all_of (λ _. ⊤) (λ _. tt) all) found read,
    )

-- ---- writes of headers

pub puts_header : (old new : State) (it : Header) (count : ℕ) → ExecutesInside 0 INSERT_HEADER.now (header_columns it) old new (Ok count)
    → Writes old new (λ _. ⊤) (λ books. record books { consignments = books.consignments ++ opened it ∷ [] })
unfolding understood everything
puts_header old new it =
    puts_row 15 consignment_table (record { place = refl; uncounted = refl; unstamped = refl }) refl INSERT_HEADER.now
    (values 5) (record { is = refl; plain = (refl, refl) }) (header_columns it) (header_columns it) refl refl refl (λ id. refl)
    (λ _. ⊤) (λ books. record books { consignments = books.consignments ++ opened it ∷ [] })
    (λ books. map consignment_columns (books.consignments ++ opened it ∷ []))
    (λ counts books given.
    let cs = books.consignments in
    let lines : flat_map line_rows (cs ++ opened it ∷ []) ≡ flat_map line_rows cs =
    flat_map_push line_rows cs (opened it) ∙ append-nil (flat_map line_rows cs) in
    (with_headers counts books (cs ++ opened it ∷ []) lines, IsPermutation-same _ _ (sym (map_push consignment_columns cs (opened it))))) old new

abbrev received_terms : List Term
received_terms = col 1 0 ∷ col 1 0 ∷ replaced 4 (lit (Int (pos 1))) (cols 1 1 5)

update_received_means : Means shop_schema UPDATE_RECEIVED.now (Update 15 (record { lets = []; body = plain_query consignment_tree of_three received_terms [] }))
unfolding understood everything
update_received_means = record { is = refl; plain = (refl, refl) }

abbrev columns_received : sql.Row → sql.Row
columns_received vs = column vs 0 ∷ column vs 1 ∷ column vs 2 ∷ column vs 3 ∷ flag_value true ∷ []

pub sets_received : (old new : State) (s a n : ℕ) (count : ℕ)
    → ExecutesInside 0 UPDATE_RECEIVED.now (key_params s a n) old new (Ok count) → Writes old new (IsOnce s a n) (with_received s a n)
sets_received old new s a n count h counts = writes_by shop_schema (StandsWith counts) old new (IsOnce s a n) (with_received s a n) (λ has.
    sets_row shop_schema (StandsWith counts) UPDATE_RECEIVED.now 15 consignment_table 5 of_three received_terms (key_params s a n) header_columns
    (has_key s a n) (is_header s a n) columns_received (receive_header s a n) (header_tested s a n) (λ it. refl) (λ it. refl) old new has
    update_received_means refl refl count h (own_rows old.now.trees consignment_tree) (λ r. refl)
    (λ r. refl) (λ r. refl) (λ r. refl) (λ v vs. refl) (IsOnce s a n) (with_received s a n)
    (λ books same st few sets.
    let cs = books.consignments in
    let its = is_consignment s a n in
    let was : HasRows 5 (old.now.trees consignment_tree) (map header_columns (map header_of cs)) =
    subst (HasRows 5 (old.now.trees consignment_tree)) (headers_are cs) st.consignments in
    let now = sets (map header_of cs) was (picks_header s a n cs few) in
    let rows : HasRows 5 (new.now.trees consignment_tree) (map consignment_columns (update_where its receive cs)) =
    subst (HasRows 5 (new.now.trees consignment_tree)) (sym (headers_are (update_where its receive cs) ∙ ap (map header_columns) (headers_set s a n cs))) now in
    headers_changed counts books (update_where its receive cs) old.now.trees new.now.trees (lists_stay line_rows its receive (λ it. refl) cs) same st rows))

-- ---- writes of lines

kept_line : (row : Placed) → are_kept consignment_line_table.columns (placed_columns row) ≡ true
kept_line row = go row.it.state
  where
    go : (state : LineState) → are_kept consignment_line_table.columns (placed_columns (record row { it = put_state state row.it })) ≡ true
    go UnderWay = refl
    go Arrived = refl
    go Missing = refl

pub puts_line : (old new : State) (row : Placed) (count : ℕ)
    → ExecutesInside 0 INSERT_LINE.now (placed_columns row) old new (Ok count) → Writes old new (IsNextLine row) (with_line row)
unfolding understood everything
puts_line old new row =
    puts_row 16 consignment_line_table (record { place = refl; uncounted = refl; unstamped = refl }) refl INSERT_LINE.now (values 8)
    (record { is = refl; plain = (refl, refl) }) (placed_columns row) (placed_columns row) refl refl (kept_line row) (λ id. refl)
    (IsNextLine row) (with_line row) (λ books. flat_map line_rows (with_line row books).consignments)
    (λ counts books next.
    let cs = books.consignments in
    let its = is_consignment row.source row.addressee row.number in
    let all : flat_map line_rows cs ++ placed_columns row ∷ [] ≡ map placed_columns (all_placed cs ++ row ∷ []) =
    ap (λ (l : List sql.Row). l ++ placed_columns row ∷ []) (lines_are cs) ∙ sym (map_push placed_columns (all_placed cs) row) in
    let bag : IsPermutation (map placed_columns (all_placed cs ++ row ∷ [])) (map placed_columns (all_placed (update_where its (push_line row.it) cs))) =
    IsPermutation-map placed_columns _ _ (lines_put row cs next) in (
      with_its_lines counts books (update_where its (push_line row.it) cs) (map_stays consignment_columns its (push_line row.it) (λ it. refl) cs),
      subst₂ IsPermutation (sym all) (sym (lines_are (update_where its (push_line row.it) cs))) bag,
    )) old new

abbrev of_line : List Term
of_line = equals 0 (1 ∷ 2 ∷ 3 ∷ 4 ∷ [])

abbrev state_terms : List Term
state_terms = col 1 0 ∷ col 1 0 ∷ replaced 7 (col 0 4) (cols 1 1 8)

update_line_means : Means shop_schema UPDATE_LINE.now (Update 16 (record { lets = []; body = plain_query consignment_line_tree of_line state_terms [] }))
unfolding understood everything
update_line_means = record { is = refl; plain = (refl, refl) }

abbrev pub line_params : ℕ → ℕ → ℕ → ℕ → LineState → sql.Row
line_params s a n k state = number_value s ∷ number_value a ∷ number_value n ∷ number_value k ∷ line_value state ∷ []

abbrev columns_state : LineState → sql.Row → sql.Row
columns_state state vs = column vs 0 ∷ column vs 1 ∷ column vs 2 ∷ column vs 3 ∷ column vs 4 ∷ column vs 5 ∷ column vs 6 ∷ line_value state ∷ []

abbrev has_line : ℕ → ℕ → ℕ → ℕ → sql.Row → Bool
has_line s a n k vs = number_test 0 s vs && (number_test 1 a vs && (number_test 2 n vs && (number_test 3 k vs && true)))

line_tested : (s a n k : ℕ) (row : Placed) → has_line s a n k (placed_columns row) ≡ is_placed s a n k row
line_tested s a n k row =
    four_tested _ _ _ _ (number_tested row.source s) (number_tested row.addressee a) (number_tested row.number n) (number_tested row.line k)
  where
    nested : (a b c d : Bool) → (a && (b && c && d)) ≡ (a && b && c && d)
    nested true b c d = refl
    nested false b c d = refl

    four_tested : {a b c d : Bool} (x y z w : Bool) → x ≡ a → y ≡ b → z ≡ c → w ≡ d → (x && (y && (z && (w && true)))) ≡ (a && b && c && d)
    four_tested {a} {b} {c} {d} x y z w g h k l = (λ i. g i && three_tested y z w h k l i) ∙ nested a b c d

kept_state : (state : LineState) (row : Placed) → are_kept consignment_line_table.columns (columns_state state (placed_columns row)) ≡ true
kept_state state row = kept_line (record row { it = put_state state row.it })

pub sets_line : (old new : State) (s a n k : ℕ) (state : LineState) (count : ℕ) → 1 ≤ k
    → ExecutesInside 0 UPDATE_LINE.now (line_params s a n k state) old new (Ok count) → Writes old new (IsOnce s a n) (with_state s a n k state)
sets_line old new s a n k state count low h counts = writes_by shop_schema (StandsWith counts) old new (IsOnce s a n) (with_state s a n k state) (λ has.
    sets_row shop_schema (StandsWith counts) UPDATE_LINE.now 16 consignment_line_table 8 of_line state_terms (line_params s a n k state) placed_columns
    (has_line s a n k) (is_placed s a n k) (columns_state state) (set_placed s a n k state) (line_tested s a n k) (λ row. refl) (kept_state state) old new has
    update_line_means refl refl count h (own_rows old.now.trees consignment_line_tree) (λ r. refl)
    (λ r. refl) (λ r. refl) (λ r. refl) (λ v vs. refl) (IsOnce s a n) (with_state s a n k state)
    (λ books same st few sets.
    let cs = books.consignments in
    let its = is_consignment s a n in
    let was : HasRows 8 (old.now.trees consignment_line_tree) (map placed_columns (all_placed cs)) =
    subst (HasRows 8 (old.now.trees consignment_line_tree)) (lines_are cs) st.lines in
    let now = sets (all_placed cs) was (picks_placed s a n k cs few) in
    let rows : HasRows 8 (new.now.trees consignment_line_tree) (flat_map line_rows (update_where its (set_state k state) cs)) =
    subst (HasRows 8 (new.now.trees consignment_line_tree))
    (sym (lines_are (update_where its (set_state k state) cs) ∙ ap (map placed_columns) (lines_set s a n k state low cs))) now in
    lines_changed counts books (update_where its (set_state k state) cs) old.now.trees new.now.trees
    (map_stays consignment_columns its (set_state k state) (λ it. refl) cs) same st rows))
