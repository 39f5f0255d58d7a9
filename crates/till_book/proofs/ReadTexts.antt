-- The rows that the texts that read the book show.
use Rattle.std.specs.Prelude.{nat_lt, drop}
use Rattle.sql_rows.proofs.Common.{◌≡◌, ◌∙◌, ◌≤◌, ◌+◌, ◌==◌, ◌&&◌, ℕ, List, [], ◌∷◌, map, filter, length, true, Option, Some, None, refl, sym, ap, subst, arith}
use Rattle.sql_rows.proofs.Common.{take, option_map, option_to_list, Blob, column, ascending, Binary, Term, col, op2, Compare, Eq, State, sort_by, map-map, by}
use Rattle.sql_rows.proofs.Common.{Differ, number_value}
use Rattle.sqlite_keyed.proofs.ListLemmas.{ascending-filter}
use Rattle.sqlite_value.specs.Order as sql
use Rattle.sqlite_tied.specs.Compute.{everything}
use Rattle.sqlite.specs.Listing.{understood}
use Rattle.sqlite.specs.State.{Shown}
use Rattle.sql_rows.proofs.Bags.{length-map}
use Rattle.sql_rows.proofs.Queries.{Selects, plain_query, unmapped}
use Rattle.sql_rows.proofs.ColumnTests.{number_test, number_tested, one_tested}
use Rattle.sql_rows.proofs.Projects.{projects_one, projects_sorted, still_holds}
use Rattle.shop_model.specs.Rows.{numbered}
use Rattle.shop_model.specs.Answers.{Answer}
use Rattle.till_book.specs.Tables.{book_schema}
use Rattle.sqlite_trees.specs.Tree.{Trees}
use Rattle.sql_rows.specs.Calls as calls
use Rattle.till_book.specs.Journal.{Journal, StandsFor, IsWritten, Finds, entry_columns, reply_columns, settled_of, reply_of}
use Rattle.till_book.specs.Ends.{settled_after}
use Rattle.sql_rows.proofs.NumberTests.{more_test, more_tested, more_than}
use Rattle.till_book.specs.Seen.{seen_reply, seen_settlement}
use Rattle.till_book.specs.Read.{in_order}
use Rattle.till_book.specs.declared.rows.BookEntry.{BookEntry}
use Rattle.till_book.specs.declared.rows.BookReply.{BookReply}
use Rattle.till_book.specs.declared.rows.Settlement.{Settlement}
use Rattle.till_book.specs.declared.reading.TheConstants.{SELECT_ENTRIES, SELECT_REPLIES, SELECT_ALL_SETTLED, SELECT_SETTLED, SELECT_REPLY}
use Rattle.till_book.specs.declared.reading.TheConstants.{SELECT_ENTRIES_AFTER, SELECT_REPLIES_AFTER, SELECT_SETTLED_AFTER}
use Rattle.till_book.proofs.Numbers.{number, numbered_differ, numbered_sorted, unnumbered, kept_all, picks_one, dropped_numbers}

abbrev of_entry : List ℕ → sql.Row
of_entry request = Blob request ∷ []

abbrev of_reply : Answer → sql.Row
of_reply answer = number_value answer.status ∷ Blob answer.body ∷ []

same_entry : (a b : List ℕ) → of_entry a ≡ of_entry b → a ≡ b
same_entry a b e = let one : Blob a ≡ Blob b = cc in cc

same_reply : (a b : Answer) → of_reply a ≡ of_reply b → a ≡ b
same_reply a b e =
    let status_value : number_value a.status ≡ number_value b.status = cc in
    let status : a.status ≡ b.status = cc in
    let body_value : Blob a.body ≡ Blob b.body = cc in
    let body : a.body ≡ b.body = cc in
    λ i. record { status = status i; body = body i }

same_settled : (a b : ℕ × Answer) → reply_columns a ≡ reply_columns b → a ≡ b
same_settled a b e =
    let value : number_value a.0 ≡ number_value b.0 = cc in
    let n : a.0 ≡ b.0 = cc in
    let rest : of_reply a.1 ≡ of_reply b.1 = cc in
    let answer : a.1 ≡ b.1 = same_reply a.1 b.1 rest in
    λ i. (n i, answer i)

-- ---- a whole table, in order

select_entries_means : Selects book_schema SELECT_ENTRIES.now (plain_query 0 [] (col 1 2 ∷ []) ((col 1 1, ascending Binary) ∷ []))
unfolding understood everything
select_entries_means = record { names = _; is = refl; plain = (refl, refl); unlisted = refl }

select_replies_means : Selects book_schema SELECT_REPLIES.now (plain_query 2 [] (col 1 2 ∷ col 1 3 ∷ []) ((col 1 1, ascending Binary) ∷ []))
unfolding understood everything
select_replies_means = record { names = _; is = refl; plain = (refl, refl); unlisted = refl }

select_all_settled_means : Selects book_schema SELECT_ALL_SETTLED.now (plain_query 4 [] (col 1 1 ∷ col 1 2 ∷ col 1 3 ∷ []) ((col 1 1, ascending Binary) ∷ []))
unfolding understood everything
select_all_settled_means = record { names = _; is = refl; plain = (refl, refl); unlisted = refl }

-- numbered rows come in the order of the list
in_its_order : {A : Type 0} (show : A → sql.Row) (xs : List A)
    → map (λ (it : ℕ × A). show it.1) (sort_by (by number) (filter (λ (it : ℕ × A). true) (numbered xs))) ≡ map show xs
in_its_order show xs =
    ap (map (λ it. show it.1)) (ap (sort_by (by number)) (kept_all (numbered xs)) ∙ numbered_sorted 1 xs) ∙ unnumbered show 1 xs

apart : {A : Type 0} (xs : List (ℕ × A)) → Differ number xs → Differ number (filter (λ (it : ℕ × A). true) xs)
apart xs differ = subst (Differ number) (sym (kept_all xs)) differ

pub written_of : (trees : Trees) (journal : Journal) → StandsFor trees journal → IsWritten trees journal
written_of trees journal it = record { entries = it.entries; replies = it.replies; settled = it.settled; once = it.is.once }

-- whatever else is known of the tables
module _ (Stands : Trees → Journal → Type 0) (written : (trees : Trees) (journal : Journal) → Stands trees journal → IsWritten trees journal) where
  abbrev FindsIn : (Journal → Type 0) → State → State → Type 0
  FindsIn Says old new = (journal : Journal) → calls.Holds book_schema Stands old journal → calls.Holds book_schema Stands new journal × Says journal

  pub reads_entries : (old new : State) (rows : List sql.Row) (all : List BookEntry)
      → Shown SELECT_ENTRIES.now [] old new rows → map (λ (row : BookEntry). of_entry row.request) all ≡ rows
      → FindsIn (λ journal. map (λ (row : BookEntry). row.request) all ≡ journal.entries) old new
  reads_entries old new rows all h read journal holds =
      let shown : rows ≡ map (λ (it : ℕ × List ℕ). of_entry it.1) (sort_by (by number) (filter (λ (it : ℕ × List ℕ). true) (numbered journal.entries))) =
      projects_sorted book_schema SELECT_ENTRIES.now 0 2 [] (col 1 2 ∷ []) 0 select_entries_means
      [] old new rows holds.schema_is h entry_columns (numbered journal.entries) (written old.now.trees journal holds.stands).entries refl
      (λ vs. true) (λ vs. column vs 1 ∷ []) (λ it. true) (λ it. refl) (λ r. refl) number
      (λ it. refl) (apart (numbered journal.entries) (numbered_differ 1 journal.entries)) in (
        still_holds book_schema Stands SELECT_ENTRIES.now [] old new select_entries_means.plain rows h journal holds,
        unmapped of_entry same_entry _ _ (map-map of_entry (λ (row : BookEntry). row.request) all ∙ read ∙ shown ∙ in_its_order of_entry journal.entries),
      )

  pub reads_replies : (old new : State) (rows : List sql.Row) (all : List BookReply)
      → Shown SELECT_REPLIES.now [] old new rows → map (λ (row : BookReply). of_reply (seen_reply row)) all ≡ rows
      → FindsIn (λ journal. map seen_reply all ≡ journal.replies) old new
  reads_replies old new rows all h read journal holds =
      let shown : rows ≡ map (λ (it : ℕ × Answer). of_reply it.1) (sort_by (by number) (filter (λ (it : ℕ × Answer). true) (numbered journal.replies))) =
      projects_sorted book_schema SELECT_REPLIES.now 2 3 [] (col 1 2 ∷ col 1 3 ∷ []) 0 select_replies_means
      [] old new rows holds.schema_is h reply_columns (numbered journal.replies) (written old.now.trees journal holds.stands).replies refl
      (λ vs. true) (λ vs. column vs 1 ∷ column vs 2 ∷ []) (λ it. true) (λ it. refl) (λ r. refl) number
      (λ it. refl) (apart (numbered journal.replies) (numbered_differ 1 journal.replies)) in (
        still_holds book_schema Stands SELECT_REPLIES.now [] old new select_replies_means.plain rows h journal holds,
        unmapped of_reply same_reply _ _ (map-map of_reply seen_reply all ∙ read ∙ shown ∙ in_its_order of_reply journal.replies),
      )

  pub reads_settled : (old new : State) (rows : List sql.Row) (all : List Settlement)
      → Shown SELECT_ALL_SETTLED.now [] old new rows → map (λ (row : Settlement). reply_columns (seen_settlement row)) all ≡ rows
      → FindsIn (λ journal. map seen_settlement all ≡ in_order journal.settled) old new
  reads_settled old new rows all h read journal holds =
      let shown : rows ≡ map reply_columns (sort_by (by number) (filter (λ (it : ℕ × Answer). true) journal.settled)) =
      projects_sorted book_schema SELECT_ALL_SETTLED.now 4 3 [] (col 1 1 ∷ col 1 2 ∷ col 1 3 ∷ []) 0 select_all_settled_means
      [] old new rows holds.schema_is h reply_columns journal.settled (written old.now.trees journal holds.stands).settled refl
      (λ vs. true) (λ vs. column vs 0 ∷ column vs 1 ∷ column vs 2 ∷ []) (λ it. true) (λ it. refl)
      (λ r. refl) number (λ it. refl) (apart journal.settled (written old.now.trees journal holds.stands).once) in (
        still_holds book_schema Stands SELECT_ALL_SETTLED.now [] old new select_all_settled_means.plain rows h journal holds,
        unmapped reply_columns same_settled _ _
            (map-map reply_columns seen_settlement all ∙ read ∙ shown ∙ ap (map reply_columns) (ap (sort_by (by number)) (kept_all journal.settled))),
      )

-- ---- one entry's

abbrev of_number : List Term
of_number = op2 (Compare Eq Binary) (col 1 1) (col 0 0) ∷ []

select_settled_means : Selects book_schema SELECT_SETTLED.now (plain_query 4 of_number (col 1 2 ∷ col 1 3 ∷ []) [])
unfolding understood everything
select_settled_means = record { names = _; is = refl; plain = (refl, refl); unlisted = refl }

take_few : {X : Type 0} (xs : List X) → length xs ≤ 1 → take 1 xs ≡ xs
take_few [] few = refl
take_few (x ∷ []) few = refl
take_few (x ∷ y ∷ xs) few = absurd (omega (arith, few))

option_list : {X Y : Type 0} (f : X → Y) (o : Option X) → option_to_list (option_map f o) ≡ map f (option_to_list o)
option_list f None = refl
option_list f (Some x) = refl

pub reads_one : (n : ℕ) (old new : State) (rows : List sql.Row) (found : Option BookReply) → Shown SELECT_SETTLED.now (number_value n ∷ []) old new rows
    → map (λ (row : BookReply). of_reply (seen_reply row)) (option_to_list found) ≡ take 1 rows
    → Finds (λ journal. option_to_list (option_map seen_reply found) ≡ settled_of n journal.settled) old new
reads_one n old new rows found h read journal holds =
    let mine : List (ℕ × Answer) = filter (λ (it : ℕ × Answer). it.0 == n) journal.settled in
    let few : length mine ≤ 1 = picks_one n journal.settled holds.stands.is.once in
    let shown : rows ≡ map (λ (it : ℕ × Answer). of_reply it.1) mine =
    projects_one book_schema SELECT_SETTLED.now 4 3 of_number (col 1 2 ∷ col 1 3 ∷ []) select_settled_means
    (number_value n ∷ []) old new rows holds.schema_is h reply_columns journal.settled holds.stands.settled refl
    (λ vs. number_test 0 n vs && true) (λ vs. column vs 1 ∷ column vs 2 ∷ []) (λ it. it.0 == n) (λ it. one_tested _ (number_tested it.0 n)) (λ r. refl) few in
    let short : length rows ≤ 1 = subst (λ (k : ℕ). k ≤ 1) (sym (ap length shown ∙ length-map (λ (it : ℕ × Answer). of_reply it.1) mine)) few in (
      still_holds book_schema StandsFor SELECT_SETTLED.now (number_value n ∷ []) old new select_settled_means.plain rows h journal holds,
      unmapped of_reply same_reply _ _
          (ap (map of_reply) (option_list seen_reply found) ∙ map-map of_reply seen_reply (option_to_list found) ∙ read ∙ take_few rows short ∙ shown
          ∙ sym (map-map of_reply (λ (it : ℕ × Answer). it.1) mine)),
    )

-- ---- one reply

select_reply_means : Selects book_schema SELECT_REPLY.now (plain_query 2 of_number (col 1 2 ∷ col 1 3 ∷ []) [])
unfolding understood everything
select_reply_means = record { names = _; is = refl; plain = (refl, refl); unlisted = refl }

pub reads_reply : (n : ℕ) (old new : State) (rows : List sql.Row) (found : Option BookReply) → Shown SELECT_REPLY.now (number_value n ∷ []) old new rows
    → map (λ (row : BookReply). of_reply (seen_reply row)) (option_to_list found) ≡ take 1 rows
    → Finds (λ journal. option_to_list (option_map seen_reply found) ≡ reply_of n journal.replies) old new
reads_reply n old new rows found h read journal holds =
    let its : List (ℕ × Answer) = numbered journal.replies in
    let mine : List (ℕ × Answer) = filter (λ (it : ℕ × Answer). it.0 == n) its in
    let few : length mine ≤ 1 = picks_one n its (numbered_differ 1 journal.replies) in
    let shown : rows ≡ map (λ (it : ℕ × Answer). of_reply it.1) mine =
    projects_one book_schema SELECT_REPLY.now 2 3 of_number (col 1 2 ∷ col 1 3 ∷ []) select_reply_means
    (number_value n ∷ []) old new rows holds.schema_is h reply_columns its holds.stands.replies refl
    (λ vs. number_test 0 n vs && true) (λ vs. column vs 1 ∷ column vs 2 ∷ []) (λ it. it.0 == n) (λ it. one_tested _ (number_tested it.0 n)) (λ r. refl) few in
    let short : length rows ≤ 1 = subst (λ (k : ℕ). k ≤ 1) (sym (ap length shown ∙ length-map (λ (it : ℕ × Answer). of_reply it.1) mine)) few in (
      still_holds book_schema StandsFor SELECT_REPLY.now (number_value n ∷ []) old new select_reply_means.plain rows h journal holds,
      unmapped of_reply same_reply _ _
          (ap (map of_reply) (option_list seen_reply found) ∙ map-map of_reply seen_reply (option_to_list found) ∙ read ∙ take_few rows short ∙ shown
          ∙ sym (map-map of_reply (λ (it : ℕ × Answer). it.1) mine)),
    )

-- ---- what comes after a number

select_entries_after_means : Selects book_schema SELECT_ENTRIES_AFTER.now (plain_query 0 more_than (col 1 2 ∷ []) ((col 1 1, ascending Binary) ∷ []))
unfolding understood everything
select_entries_after_means = record { names = _; is = refl; plain = (refl, refl); unlisted = refl }

select_replies_after_means : Selects book_schema SELECT_REPLIES_AFTER.now (plain_query 2 more_than (col 1 2 ∷ col 1 3 ∷ []) ((col 1 1, ascending Binary) ∷ []))
unfolding understood everything
select_replies_after_means = record { names = _; is = refl; plain = (refl, refl); unlisted = refl }

select_settled_after_means :
    Selects book_schema SELECT_SETTLED_AFTER.now (plain_query 4 more_than (col 1 1 ∷ col 1 2 ∷ col 1 3 ∷ []) ((col 1 1, ascending Binary) ∷ []))
unfolding understood everything
select_settled_after_means = record { names = _; is = refl; plain = (refl, refl); unlisted = refl }

-- what is numbered from there on comes in its order
later_in_order : {A : Type 0} (show : A → sql.Row) (n : ℕ) (xs : List A)
    → map (λ (it : ℕ × A). show it.1) (sort_by (by number) (filter (λ (it : ℕ × A). nat_lt n it.0) (numbered xs))) ≡ map show (drop n xs)
later_in_order show n xs =
    ap (λ l. map (λ it. show it.1) (sort_by (by number) l)) (dropped_numbers n xs)
    ∙ ap (map (λ it. show it.1)) (numbered_sorted (n + 1) (drop n xs)) ∙ unnumbered show (n + 1) (drop n xs)

pub reads_entries_after : (n : ℕ) (old new : State) (rows : List sql.Row) (all : List BookEntry)
    → Shown SELECT_ENTRIES_AFTER.now (number_value n ∷ []) old new rows
    → map (λ (row : BookEntry). of_entry row.request) all ≡ rows
    → Finds (λ journal. map (λ (row : BookEntry). row.request) all ≡ drop n journal.entries) old new
reads_entries_after n old new rows all h read journal holds =
    let its : List (ℕ × List ℕ) = numbered journal.entries in
    let shown : rows ≡ map (λ (it : ℕ × List ℕ). of_entry it.1) (sort_by (by number) (filter (λ (it : ℕ × List ℕ). nat_lt n it.0) its)) =
    projects_sorted book_schema SELECT_ENTRIES_AFTER.now 0 2 more_than (col 1 2 ∷ []) 0 select_entries_after_means
    (number_value n ∷ []) old new rows holds.schema_is h entry_columns its holds.stands.entries refl
    (λ vs. more_test 0 n vs && true) (λ vs. column vs 1 ∷ []) (λ it. nat_lt n it.0) (λ it. one_tested _ (more_tested it.0 n)) (λ r. refl) number (λ it. refl)
    (ascending-filter _ (λ (it : ℕ × List ℕ). nat_lt n it.0) its (numbered_differ 1 journal.entries)) in (
      still_holds book_schema StandsFor SELECT_ENTRIES_AFTER.now (number_value n ∷ []) old new select_entries_after_means.plain rows h journal holds,
      unmapped of_entry same_entry _ _ (map-map of_entry (λ (row : BookEntry). row.request) all ∙ read ∙ shown ∙ later_in_order of_entry n journal.entries),
    )

pub reads_replies_after : (n : ℕ) (old new : State) (rows : List sql.Row) (all : List BookReply)
    → Shown SELECT_REPLIES_AFTER.now (number_value n ∷ []) old new rows
    → map (λ (row : BookReply). of_reply (seen_reply row)) all ≡ rows → Finds (λ journal. map seen_reply all ≡ drop n journal.replies) old new
reads_replies_after n old new rows all h read journal holds =
    let its : List (ℕ × Answer) = numbered journal.replies in
    let shown : rows ≡ map (λ (it : ℕ × Answer). of_reply it.1) (sort_by (by number) (filter (λ (it : ℕ × Answer). nat_lt n it.0) its)) =
    projects_sorted book_schema SELECT_REPLIES_AFTER.now 2 3 more_than (col 1 2 ∷ col 1 3 ∷ []) 0 select_replies_after_means
    (number_value n ∷ []) old new rows holds.schema_is h reply_columns its holds.stands.replies refl
    (λ vs. more_test 0 n vs && true) (λ vs. column vs 1 ∷ column vs 2 ∷ []) (λ it. nat_lt n it.0)
    (λ it. one_tested _ (more_tested it.0 n)) (λ r. refl) number (λ it. refl)
    (ascending-filter _ (λ (it : ℕ × Answer). nat_lt n it.0) its (numbered_differ 1 journal.replies)) in (
      still_holds book_schema StandsFor SELECT_REPLIES_AFTER.now (number_value n ∷ []) old new select_replies_after_means.plain rows h journal holds,
      unmapped of_reply same_reply _ _ (map-map of_reply seen_reply all ∙ read ∙ shown ∙ later_in_order of_reply n journal.replies),
    )

pub reads_settled_after : (n : ℕ) (old new : State) (rows : List sql.Row) (all : List Settlement)
    → Shown SELECT_SETTLED_AFTER.now (number_value n ∷ []) old new rows
    → map (λ (row : Settlement). reply_columns (seen_settlement row)) all ≡ rows
    → Finds (λ journal. map seen_settlement all ≡ in_order (settled_after n journal.settled)) old new
reads_settled_after n old new rows all h read journal holds =
    let shown : rows ≡ map reply_columns (sort_by (by number) (filter (λ (it : ℕ × Answer). nat_lt n it.0) journal.settled)) =
    projects_sorted book_schema SELECT_SETTLED_AFTER.now 4 3 more_than (col 1 1 ∷ col 1 2 ∷ col 1 3 ∷ []) 0 select_settled_after_means
    (number_value n ∷ []) old new rows holds.schema_is h reply_columns journal.settled
    holds.stands.settled refl (λ vs. more_test 0 n vs && true) (λ vs. column vs 0 ∷ column vs 1 ∷ column vs 2 ∷ [])
    (λ it. nat_lt n it.0) (λ it. one_tested _ (more_tested it.0 n)) (λ r. refl) number (λ it. refl)
    (ascending-filter _ (λ (it : ℕ × Answer). nat_lt n it.0) journal.settled holds.stands.is.once) in (
      still_holds book_schema StandsFor SELECT_SETTLED_AFTER.now (number_value n ∷ []) old new select_settled_after_means.plain rows h journal holds,
      unmapped reply_columns same_settled _ _ (map-map reply_columns seen_settlement all ∙ read ∙ shown),
    )
