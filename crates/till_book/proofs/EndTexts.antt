-- The rows that the texts about the end of the book show.
use Rattle.std.specs.Prelude.{nat_lt}
use Rattle.sql_rows.proofs.Common.{◌≡◌, ◌≢◌, ◌∙◌, ◌+◌, ◌<◌, ◌≤◌, ◌==◌, ◌&&◌, ℕ, zero, suc, pos, List, [], ◌∷◌, ◌++◌, map, filter, length, take, Bool, true}
use Rattle.sql_rows.proofs.Common.{false, Option, Some, None, option_map, option_to_list, refl, sym, ap, subst, arith, Blob, Int, column, ascending, Binary}
use Rattle.sql_rows.proofs.Common.{Term, lit, col, op2, Compare, Eq, State, IsAscending, map-map, number_value, sort_by, by, Differ, ascending-map}
use Rattle.sql_rows.proofs.Common.{ascending_weaker, cond, columns_of, overlay, then-Equal, Trees, Query, IsAnswer, Output}
use Rattle.sqlite_keyed.proofs.ListLemmas.{ascending-filter}
use Rattle.sqlite_value.specs.Order as sql
use Rattle.sqlite_tied.specs.Compute.{everything}
use Rattle.sqlite.specs.Listing.{understood}
use Rattle.sqlite.specs.State.{Shown}
use Rattle.sql_rows.proofs.Bags.{no_ties}
use Rattle.sql_rows.proofs.Queries.{Selects, plain_query, unmapped, answers, reads_sorted, number_cmp}
use Rattle.sql_rows.proofs.ColumnTests.{number_test, number_tested, one_tested, same_number}
use Rattle.sql_rows.proofs.Projects.{still_holds}
use Rattle.shop_model.specs.Rows.{numbered, numbered_from}
use Rattle.shop_model.specs.Answers.{Answer}
use Rattle.till_book.specs.Tables.{book_schema}
use Rattle.till_book.specs.Marks.{is_unsure}
use Rattle.till_book.specs.Journal.{Journal, StandsFor, Finds, entry_columns, reply_columns, unsure_columns, is_unsettled, unsure_of}
use Rattle.till_book.specs.Held.{last_or}
use Rattle.till_book.specs.Ends.{IsEndOf, last_entry, seen_last, last_reply, last_accepted, unsure_before}
use Rattle.till_book.specs.declared.ends.BookEnd.{BookEnd}
use Rattle.till_book.specs.declared.ends.EntryNumber.{EntryNumber}
use Rattle.till_book.specs.declared.ends.LastEntry.{LastEntry}
use Rattle.till_book.specs.declared.ends.TheConstants.{SELECT_LAST_ENTRY, SELECT_LAST_REPLY, SELECT_LAST_ACCEPTED, SELECT_UNSURE}
use Rattle.sql_rows.proofs.NumberTests.{less_test, less_tested, less_than}
use Rattle.till_book.proofs.Numbers.{number, numbered_rise, numbered_differ, kept_all}
use Rattle.sql_rows.proofs.LastRow.{ending, first_query, descending, projects_last}
use Rattle.till_book.proofs.RentTexts.{ending_is, take_one, list_of, same_option}

-- the row that was read, if any, is the last of the list
one_row : {X Y : Type 0} (show : X → sql.Row) (read_as : Y → sql.Row) (view : X → Y)
    → ((x : X) → show x ≡ read_as (view x)) → ((a b : Y) → read_as a ≡ read_as b → a ≡ b)
    → (xs : List X) (rows : List sql.Row) (found : Option Y) → rows ≡ map show (ending xs)
    → map read_as (option_to_list found) ≡ take 1 rows → found ≡ option_map view (last_or None xs)
one_row {X = X} {Y = Y} show read_as view shows apart xs rows found shown read =
    let last = last_or None xs in
    let one : rows ≡ option_to_list (option_map show last) = shown ∙ ap (map show) (ending_is xs) ∙ list_of show last in
    let short : take 1 rows ≡ map show (option_to_list last) = ap (take 1) one ∙ take_one (option_map show last) ∙ sym (list_of show last) in
    same_option found (option_map view last)
    (unmapped read_as apart _ _
    (read ∙ short ∙ alike (option_to_list last) ∙ sym (map-map read_as view (option_to_list last)) ∙ ap (map read_as) (list_of view last)))
  where
    alike : (l : List X) → map show l ≡ map (λ x. read_as (view x)) l
    alike [] = refl
    alike (x ∷ l) = λ i. shows x i ∷ alike l i

-- ---- the last entry

select_last_entry_means : Selects book_schema SELECT_LAST_ENTRY.now (first_query 0 [] (col 1 1 ∷ col 1 2 ∷ []) ((col 1 1, descending) ∷ []))
unfolding understood everything
select_last_entry_means = record { names = _; is = refl; plain = (refl, refl); unlisted = refl }

abbrev last_columns : LastEntry → sql.Row
last_columns row = number_value row.number ∷ Blob row.request ∷ []

same_entry : (a b : ℕ × List ℕ) → entry_columns a ≡ entry_columns b → a ≡ b
same_entry a b e =
    let n : number_value a.0 ≡ number_value b.0 = cc in
    let bytes : Blob a.1 ≡ Blob b.1 = cc in
    let number : a.0 ≡ b.0 = same_number a.0 b.0 n in
    let request : a.1 ≡ b.1 = cc in
    λ i. (number i, request i)

pub reads_last_entry : (old new : State) (rows : List sql.Row) (found : Option LastEntry)
    → Shown SELECT_LAST_ENTRY.now [] old new rows → map last_columns (option_to_list found) ≡ take 1 rows
    → Finds (λ journal. option_map seen_last found ≡ last_entry journal) old new
reads_last_entry old new rows found h read journal holds =
    let its : List (ℕ × List ℕ) = numbered journal.entries in
    let all : filter (λ (it : ℕ × List ℕ). true) its ≡ its = kept_all its in
    let shown : rows ≡ map entry_columns (ending (filter (λ (it : ℕ × List ℕ). true) its)) =
    projects_last book_schema SELECT_LAST_ENTRY.now 0 2 [] (col 1 1 ∷ col 1 2 ∷ []) 0 select_last_entry_means
    [] old new rows holds.schema_is h entry_columns its holds.stands.entries refl
    (λ vs. true) (λ vs. column vs 0 ∷ column vs 1 ∷ []) (λ it. true) (λ it. refl) (λ r. refl) number (λ it. refl)
    (subst (IsAscending (λ (a b : ℕ × List ℕ). a.0 < b.0)) (sym all) (numbered_rise 1 journal.entries)) in
    let whole : map entry_columns (option_to_list (option_map seen_last found)) ≡ take 1 rows =
    ap (map entry_columns) (sym (list_of seen_last found)) ∙ map-map entry_columns seen_last (option_to_list found) ∙ read in (
      still_holds book_schema StandsFor SELECT_LAST_ENTRY.now [] old new select_last_entry_means.plain rows h journal holds,
      one_row entry_columns entry_columns (λ it. it) (λ it. refl) same_entry its rows
          (option_map seen_last found) (shown ∙ ap (λ l. map entry_columns (ending l)) all) whole
          ∙ itself (last_or None its),
    )
  where
    itself : {X : Type 0} (o : Option X) → option_map (λ x. x) o ≡ o
    itself None = refl
    itself (Some x) = refl

-- ---- how many replies

abbrev number_columns : EntryNumber → sql.Row
number_columns row = number_value row.number ∷ []

same_columns : (a b : ℕ) → unsure_columns a ≡ unsure_columns b → a ≡ b
same_columns a b e = let n : number_value a ≡ number_value b = cc in same_number a b n

as_numbers : (found : Option EntryNumber)
    → map number_columns (option_to_list found) ≡ map unsure_columns (option_to_list (option_map (λ (row : EntryNumber). row.number) found))
as_numbers None = refl
as_numbers (Some row) = refl

select_last_reply_means : Selects book_schema SELECT_LAST_REPLY.now (first_query 2 [] (col 1 1 ∷ []) ((col 1 1, descending) ∷ []))
unfolding understood everything
select_last_reply_means = record { names = _; is = refl; plain = (refl, refl); unlisted = refl }

pub reads_last_reply : (old new : State) (rows : List sql.Row) (found : Option EntryNumber)
    → Shown SELECT_LAST_REPLY.now [] old new rows → map number_columns (option_to_list found) ≡ take 1 rows
    → Finds (λ journal. option_map (λ (row : EntryNumber). row.number) found ≡ last_reply journal) old new
reads_last_reply old new rows found h read journal holds =
    let its : List (ℕ × Answer) = numbered journal.replies in
    let all : filter (λ (it : ℕ × Answer). true) its ≡ its = kept_all its in
    let shown : rows ≡ map (λ (it : ℕ × Answer). unsure_columns it.0) (ending (filter (λ (it : ℕ × Answer). true) its)) =
    projects_last book_schema SELECT_LAST_REPLY.now 2 3 [] (col 1 1 ∷ []) 0 select_last_reply_means
    [] old new rows holds.schema_is h reply_columns its holds.stands.replies refl
    (λ vs. true) (λ vs. column vs 0 ∷ []) (λ it. true) (λ it. refl) (λ r. refl) number (λ it. refl)
    (subst (IsAscending (λ (a b : ℕ × Answer). a.0 < b.0)) (sym all) (numbered_rise 1 journal.replies)) in (
      still_holds book_schema StandsFor SELECT_LAST_REPLY.now [] old new select_last_reply_means.plain rows h journal holds,
      one_row (λ (it : ℕ × Answer). unsure_columns it.0) unsure_columns number
          (λ it. refl) same_columns its rows (option_map (λ (row : EntryNumber). row.number) found)
          (shown ∙ ap (λ l. map (λ (it : ℕ × Answer). unsure_columns it.0) (ending l)) all) (sym (as_numbers found) ∙ read),
    )

-- ---- the last accepted entry

abbrev accepted_test : List Term
accepted_test = op2 (Compare Eq Binary) (col 1 2) (lit (Int (pos 200))) ∷ []

select_last_accepted_means : Selects book_schema SELECT_LAST_ACCEPTED.now (first_query 2 accepted_test (col 1 1 ∷ []) ((col 1 1, descending) ∷ []))
unfolding understood everything
select_last_accepted_means = record { names = _; is = refl; plain = (refl, refl); unlisted = refl }

pub reads_last_accepted : (old new : State) (rows : List sql.Row) (found : Option EntryNumber)
    → Shown SELECT_LAST_ACCEPTED.now [] old new rows → map number_columns (option_to_list found) ≡ take 1 rows
    → Finds (λ journal. option_map (λ (row : EntryNumber). row.number) found ≡ last_accepted journal) old new
reads_last_accepted old new rows found h read journal holds =
    let its : List (ℕ × Answer) = numbered journal.replies in
    let p : ℕ × Answer → Bool = λ it. it.1.status == 200 in
    let shown : rows ≡ map (λ (it : ℕ × Answer). unsure_columns it.0) (ending (filter p its)) =
    projects_last book_schema SELECT_LAST_ACCEPTED.now 2 3 accepted_test (col 1 1 ∷ []) 0 select_last_accepted_means
    [] old new rows holds.schema_is h reply_columns its holds.stands.replies refl
    (λ vs. number_test 1 200 vs && true) (λ vs. column vs 0 ∷ []) p (λ it. one_tested _ (number_tested it.1.status 200)) (λ r. refl) number (λ it. refl)
    (ascending-filter _ p its (numbered_rise 1 journal.replies)) in (
      still_holds book_schema StandsFor SELECT_LAST_ACCEPTED.now [] old new select_last_accepted_means.plain rows h journal holds,
      one_row (λ (it : ℕ × Answer). unsure_columns it.0) unsure_columns number (λ it. refl) same_columns
          (filter p its) rows (option_map (λ (row : EntryNumber). row.number) found) shown (sym (as_numbers found) ∙ read),
    )

-- ---- unsure entries

-- the query for unsure entries, which shows ten rows
abbrev ten_query : Query
ten_query = record (plain_query 6 less_than (col 1 1 ∷ []) ((col 1 1, ascending Binary) ∷ [])) { limit = lit (Int (pos 10)) }

-- it shows the first ten rows of what the query without a limit shows
ten_of : (db : Trees) (params : sql.Row) (rows : List sql.Row) → IsAnswer ten_query db params rows
    → (all : List sql.Row) × IsAnswer (plain_query 6 less_than (col 1 1 ∷ []) ((col 1 1, ascending Binary) ∷ [])) db params all × (rows ≡ take 10 all)
ten_of db params rows a = (
  map (λ (o : Output). o.1) a.ordered,
  record { staged = a.staged; grouped = a.grouped; kept = a.kept; distinct = a.distinct; ordered = a.ordered; same = a.same; sorted = a.sorted; shown = refl },
  a.shown,
)

first_map : {X Y : Type 0} (n : ℕ) (f : X → Y) (xs : List X) → take n (map f xs) ≡ map f (take n xs)
first_map zero f xs = refl
first_map (suc n) f [] = refl
first_map (suc n) f (x ∷ xs) = ap (λ l. f x ∷ l) (first_map n f xs)

select_unsure_means : Selects book_schema SELECT_UNSURE.now ten_query
unfolding understood everything
select_unsure_means = record { names = _; is = refl; plain = (refl, refl); unlisted = refl }

abbrev itself : ℕ → ℕ
itself m = m

unsure_differ : (journal : Journal) → Differ itself (unsure_of journal)
unsure_differ journal =
    ascending-map (λ (a b : ℕ). a ≢ b) (λ (it : ℕ × Answer). it.0) _
    (ascending-filter _ (λ (it : ℕ × Answer). is_unsure it.1 && is_unsettled journal.settled it.0)
    (numbered journal.replies) (numbered_differ 1 journal.replies))

pub reads_unsure : (n : ℕ) (old new : State) (rows : List sql.Row) (all : List EntryNumber)
    → Shown SELECT_UNSURE.now (number_value n ∷ []) old new rows → map number_columns all ≡ rows
    → Finds (λ journal. map (λ (row : EntryNumber). row.number) all ≡ take 10 (unsure_before n journal)) old new
reads_unsure n old new rows all h read journal holds =
    let xs : List ℕ = unsure_of journal in
    let low : ℕ → Bool = λ m. nat_lt m n in
    let params : sql.Row = number_value n ∷ [] in
    let seen : sql.Row → Bool = λ vs. less_test 0 n vs && true in
    let a =
    ten_of (overlay old.now.trees []) params rows
    (answers book_schema SELECT_UNSURE.now ten_query params old new holds.schema_is select_unsure_means rows h) in
    let all_shown : a.0 ≡ map unsure_columns (sort_by (by itself) (filter low xs)) =
    reads_sorted 6 less_than (col 1 1 ∷ []) ((col 1 1, ascending Binary) ∷ []) params old.now.trees unsure_columns xs (columns_of 1) holds.stands.unsure refl
    (λ vs. cond (seen vs) ((column vs 0 ∷ [], column vs 0 ∷ []) ∷ []) []) (λ r. refl) low
    (λ m. (number_value m ∷ [], unsure_columns m))
    (λ m. (λ i. cond (one_tested _ (less_tested m n) i) ((number_value m ∷ [], unsure_columns m) ∷ []) [])) a.0 a.1
    (by itself) (λ x y. then-Equal _ ∙ number_cmp x y) (no_ties itself (filter low xs) (ascending-filter _ low xs (unsure_differ journal))) in
    let shown : rows ≡ map unsure_columns (take 10 (unsure_before n journal)) =
    a.2 ∙ ap (take 10) all_shown ∙ first_map 10 unsure_columns (unsure_before n journal) in (
      still_holds book_schema StandsFor SELECT_UNSURE.now (number_value n ∷ []) old new select_unsure_means.plain rows h journal holds,
      unmapped unsure_columns same_columns _ _ (map-map unsure_columns (λ (row : EntryNumber). row.number) all ∙ read ∙ shown),
    )

-- ---- the end of a book

module _ {A : Type 0} where
  last_numbered : (k : ℕ) (x : A) (xs : List A) (o : Option A)
      → last_or (Some (k, x)) (numbered_from (k + 1) xs) ≡ option_map (λ (y : A). (k + length xs, y)) (last_or (Some x) xs)
  last_numbered k x [] o = let same : k ≡ k + 0 = omega arith in ap (λ (m : ℕ). Some (m, x)) same
  last_numbered k x (y ∷ xs) o =
      let same : k + 1 + length xs ≡ k + suc (length xs) = omega arith in
      last_numbered (k + 1) y xs o ∙ ap (λ (m : ℕ). option_map (λ (z : A). (m, z)) (last_or (Some y) xs)) same

  -- the number of the last row is the number of rows
  pub last_of_numbered : (xs : List A) → last_or None (numbered xs) ≡ option_map (λ (y : A). (length xs, y)) (last_or None xs)
  last_of_numbered [] = refl
  last_of_numbered (x ∷ xs) =
      let same : 1 + length xs ≡ suc (length xs) = omega arith in
      last_numbered 1 x xs None ∙ ap (λ (m : ℕ). option_map (λ (z : A). (m, z)) (last_or (Some x) xs)) same

  pub none_last : (xs : List A) → last_or None xs ≡ None → xs ≡ []
  none_last [] e = refl
  none_last (x ∷ xs) e = absurd (some x xs e)
    where
      some : (x : A) (xs : List A) → last_or (Some x) xs ≡ None → ⊥
      some x [] e = cc
      some x (y ∷ xs) e = some y xs e

pub end_some : (journal : Journal) (n replies : ℕ) (request : List ℕ) → Some (n, request) ≡ last_entry journal → replies ≡ length journal.replies
    → IsEndOf (record { entries = n; replies = replies; last = Some request }) journal
end_some journal n replies request is many = go (last_or None journal.entries) refl
  where
    go : (last : Option (List ℕ)) → last_or None journal.entries ≡ last → IsEndOf (record { entries = n; replies = replies; last = Some request }) journal
    go None none = absurd (clash (is ∙ last_of_numbered journal.entries ∙ ap (option_map (λ (y : List ℕ). (length journal.entries, y))) none))
      where
        clash : ◌≡◌ {A = Option (ℕ × List ℕ)} (Some (n, request)) None → ⊥
        clash e = cc
    go (Some y) some =
        let both : Some (n, request) ≡ Some (length journal.entries, y) =
        is ∙ last_of_numbered journal.entries ∙ ap (option_map (λ (z : List ℕ). (length journal.entries, z))) some in
        let pair : (n, request) ≡ (length journal.entries, y) = unwrapped both in
        record { entries = ap (λ (p : ℕ × List ℕ). p.0) pair; replies = many; last = ap (λ (p : ℕ × List ℕ). Some p.1) pair ∙ sym some }
      where
        unwrapped : {a b : ℕ × List ℕ} → Some a ≡ Some b → a ≡ b
        unwrapped e = cc

pub end_none : (journal : Journal) (replies : ℕ) → None ≡ last_entry journal → replies ≡ length journal.replies
    → IsEndOf (record { entries = 0; replies = replies; last = None }) journal
end_none journal replies is many = go (last_or None journal.entries) refl
  where
    go : (last : Option (List ℕ)) → last_or None journal.entries ≡ last → IsEndOf (record { entries = 0; replies = replies; last = None }) journal
    go None none = let empty = none_last journal.entries none in record { entries = sym (ap length empty); replies = many; last = sym none }
    go (Some y) some = absurd (clash (is ∙ last_of_numbered journal.entries ∙ ap (option_map (λ (z : List ℕ). (length journal.entries, z))) some))
      where
        clash : {p : ℕ × List ℕ} → ◌≡◌ {A = Option (ℕ × List ℕ)} None (Some p) → ⊥
        clash e = cc

-- the number of the last reply is the number of replies
pub count_some : (journal : Journal) (n : ℕ) → Some n ≡ last_reply journal → n ≡ length journal.replies
count_some journal n is = go (last_or None journal.replies) refl
  where
    go : (last : Option Answer) → last_or None journal.replies ≡ last → n ≡ length journal.replies
    go None none =
        absurd (clash (is ∙ ap (option_map number) (last_of_numbered journal.replies ∙ ap (option_map (λ (y : Answer). (length journal.replies, y))) none)))
      where
        clash : ◌≡◌ {A = Option ℕ} (Some n) None → ⊥
        clash e = cc
    go (Some y) some =
        unwrapped (is ∙ ap (option_map number) (last_of_numbered journal.replies ∙ ap (option_map (λ (z : Answer). (length journal.replies, z))) some))
      where
        unwrapped : {a b : ℕ} → Some a ≡ Some b → a ≡ b
        unwrapped e = cc

pub count_none : (journal : Journal) → None ≡ last_reply journal → 0 ≡ length journal.replies
count_none journal is = go (last_or None journal.replies) refl
  where
    go : (last : Option Answer) → last_or None journal.replies ≡ last → 0 ≡ length journal.replies
    go None none = sym (ap length (none_last journal.replies none))
    go (Some y) some =
        absurd (clash (is ∙ ap (option_map number) (last_of_numbered journal.replies ∙ ap (option_map (λ (z : Answer). (length journal.replies, z))) some)))
      where
        clash : {m : ℕ} → ◌≡◌ {A = Option ℕ} None (Some m) → ⊥
        clash e = cc
