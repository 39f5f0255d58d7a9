-- The journal's texts.
use Rattle.sql_rows.proofs.Common.{◌≡◌, ◌≤◌, ◌<◌, ◌∙◌, ◌+◌, ℕ, zero, suc, false, true, filter, Option, Some, None, List, [], ◌∷◌, ◌++◌, map, length, Ok, refl}
use Rattle.sql_rows.proofs.Common.{sym, ap, subst, arith, take, AllByRecursion, IsPermutation-refl, Schema, Table, IsShaped, no_schema, Blob, Values, Insert}
use Rattle.sql_rows.proofs.Common.{Delete, Trees, State, ExecutesInside, option_to_list, column, Binary, Term, col, op2, Compare, Eq, map-map, Means, Makes}
use Rattle.sql_rows.proofs.Common.{MakesIndex, MakeAll, Builds, HasRows, PicksOne, number_value, Index}
use Rattle.std.specs.Prelude.{codes, ◌==◌, ◌&&◌, slice_get}
use Rattle.sqlite_trees.specs.declared.store.Shape.TheVariants.{Table as TableShape}
use Rattle.sql_rows.proofs.Creates.{makes_one, indexes_one}
use Rattle.sqlite_value.specs.Order as sql
use Rattle.sqlite_tied.specs.Compute.{everything}
use Rattle.sqlite.specs.Listing.{understood}
use Rattle.sqlite.specs.State.{Shown}
use Rattle.sql_rows.proofs.Bags.{length-map}
use Rattle.sql_rows.proofs.Queries.{Selects, plain_query}
use Rattle.sql_rows.proofs.ColumnTests.{number_test, number_tested, one_tested}
use Rattle.sql_rows.proofs.Projects.{projects_one, still_holds}
use Rattle.shop_model.proofs.RowLemmas.{equal_test, differ_test}
use Rattle.sql_rows.proofs.Steps.{has_put, HasPut}
use Rattle.shop_model.specs.Rows.{numbered, numbered_from}
use Rattle.shop_model.specs.Values.{Command}
use Rattle.shop_model.specs.Answers.{Answer}
use Rattle.sql_rows.specs.Terms.{values}
use Rattle.sql_rows.specs.Tables.{index_of}
use Rattle.till_book.specs.Tables.{book_schema, entry_table, reply_table, settled_table, unsure_table, rented_table, returned_table}
use Rattle.till_book.specs.Saying.{Say}
use Rattle.till_book.specs.Marks.{Rented, Returned}
use Rattle.till_book.specs.Journal.{Journal, StandsFor, entry_columns, reply_columns, unsure_columns, rented_columns, returned_columns, IsEmptyJournal, Holds}
use Rattle.till_book.specs.Journal.{HasBytes, FindsEntry}
use Rattle.till_book.specs.Statements.{Adds, HasAdded, DropsUnsure}
use Rattle.till_book.specs.declared.journal.TheConstants.{INSERT_ENTRY, INSERT_REPLY, INSERT_SETTLED, INSERT_UNSURE, DELETE_UNSURE, INSERT_RENTED}
use Rattle.till_book.specs.declared.journal.TheConstants.{INSERT_RETURNED, SELECT_ENTRY}
use Rattle.sql_rows.proofs.Dropping.{has_dropped}

added : (table : Table) (width : ℕ) (row : sql.Row) (old new : State) → HasPut book_schema table width row old new → HasAdded table width row old new
added table width row old new done = record { schema_is = done.schema_is; keyed = done.keyed; others = done.others; rows = done.rows }

insert_entry_means : Means book_schema INSERT_ENTRY.now (Insert 0 (Values (values 2) 3))
unfolding understood everything
insert_entry_means = record { is = refl; plain = (refl, refl) }

pub adds_entry : (n : ℕ) (request : List ℕ) (old new : State) (count : ℕ)
    → ExecutesInside 0 INSERT_ENTRY.now (number_value n ∷ Blob request ∷ []) old new (Ok count)
    → Adds entry_table 2 (entry_columns (n, request)) old new
adds_entry n request old new count h has =
    let row = entry_columns (n, request) in
    added entry_table 2 row old new
    (has_put book_schema INSERT_ENTRY.now 0 entry_table (values 2) 2 insert_entry_means
    (record { place = refl; uncounted = refl; unstamped = refl }) row row old new count h refl refl refl (λ id. refl) has)

insert_reply_means : Means book_schema INSERT_REPLY.now (Insert 1 (Values (values 3) 4))
unfolding understood everything
insert_reply_means = record { is = refl; plain = (refl, refl) }

pub adds_reply : (n status : ℕ) (body : List ℕ) (old new : State) (count : ℕ)
    → ExecutesInside 0 INSERT_REPLY.now (number_value n ∷ number_value status ∷ Blob body ∷ []) old new (Ok count)
    → Adds reply_table 3 (reply_columns (n, record { status = status; body = body })) old new
adds_reply n status body old new count h has =
    let answer : Answer = record { status = status; body = body } in
    let row = reply_columns (n, answer) in
    added reply_table 3 row old new
    (has_put book_schema INSERT_REPLY.now 1 reply_table (values 3) 3 insert_reply_means
    (record { place = refl; uncounted = refl; unstamped = refl }) row row old new count h refl refl refl (λ id. refl) has)

insert_settled_means : Means book_schema INSERT_SETTLED.now (Insert 2 (Values (values 3) 4))
unfolding understood everything
insert_settled_means = record { is = refl; plain = (refl, refl) }

pub adds_settled : (n status : ℕ) (body : List ℕ) (old new : State) (count : ℕ)
    → ExecutesInside 0 INSERT_SETTLED.now (number_value n ∷ number_value status ∷ Blob body ∷ []) old new (Ok count)
    → Adds settled_table 3 (reply_columns (n, record { status = status; body = body })) old new
adds_settled n status body old new count h has =
    let answer : Answer = record { status = status; body = body } in
    let row = reply_columns (n, answer) in
    added settled_table 3 row old new
    (has_put book_schema INSERT_SETTLED.now 2 settled_table (values 3) 3 insert_settled_means
    (record { place = refl; uncounted = refl; unstamped = refl }) row row old new count h refl refl refl (λ id. refl) has)

insert_unsure_means : Means book_schema INSERT_UNSURE.now (Insert 3 (Values (values 1) 2))
unfolding understood everything
insert_unsure_means = record { is = refl; plain = (refl, refl) }

pub adds_unsure : (n : ℕ) (old new : State) (count : ℕ)
    → ExecutesInside 0 INSERT_UNSURE.now (number_value n ∷ []) old new (Ok count) → Adds unsure_table 1 (unsure_columns n) old new
adds_unsure n old new count h has =
    let row = unsure_columns n in
    added unsure_table 1 row old new
    (has_put book_schema INSERT_UNSURE.now 3 unsure_table (values 1) 1 insert_unsure_means
    (record { place = refl; uncounted = refl; unstamped = refl }) row row old new count h refl refl refl (λ id. refl) has)

insert_rented_means : Means book_schema INSERT_RENTED.now (Insert 4 (Values (values 4) 5))
unfolding understood everything
insert_rented_means = record { is = refl; plain = (refl, refl) }

pub adds_rented : (copy n rental customer : ℕ) (old new : State) (count : ℕ)
    → ExecutesInside 0 INSERT_RENTED.now (number_value copy ∷ number_value n ∷ number_value rental ∷ number_value customer ∷ []) old new (Ok count)
    → Adds rented_table 4 (rented_columns (record { copy = copy; number = n; rental = rental; customer = customer })) old new
adds_rented copy n rental customer old new count h has =
    let it : Rented = record { copy = copy; number = n; rental = rental; customer = customer } in
    let row = rented_columns it in
    added rented_table 4 row old new
    (has_put book_schema INSERT_RENTED.now 4 rented_table (values 4) 4 insert_rented_means
    (record { place = refl; uncounted = refl; unstamped = refl }) row row old new count h refl refl refl (λ id. refl) has)

insert_returned_means : Means book_schema INSERT_RETURNED.now (Insert 5 (Values (values 2) 3))
unfolding understood everything
insert_returned_means = record { is = refl; plain = (refl, refl) }

pub adds_returned : (rental n : ℕ) (old new : State) (count : ℕ)
    → ExecutesInside 0 INSERT_RETURNED.now (number_value rental ∷ number_value n ∷ []) old new (Ok count)
    → Adds returned_table 2 (returned_columns (record { rental = rental; number = n })) old new
adds_returned rental n old new count h has =
    let it : Returned = record { rental = rental; number = n } in
    let row = returned_columns it in
    added returned_table 2 row old new
    (has_put book_schema INSERT_RETURNED.now 5 returned_table (values 2) 2 insert_returned_means
    (record { place = refl; uncounted = refl; unstamped = refl }) row row old new count h refl refl refl (λ id. refl) has)

delete_unsure_means :
    Means book_schema DELETE_UNSURE.now
    (Delete 3 (record { lets = []; body = plain_query 6 (op2 (Compare Eq Binary) (col 1 1) (col 0 0) ∷ []) (col 1 0 ∷ []) [] }))
unfolding understood everything
delete_unsure_means = record { is = refl; plain = (refl, refl) }

pub drops_number : (n : ℕ) (old new : State) (count : ℕ) → ExecutesInside 0 DELETE_UNSURE.now (number_value n ∷ []) old new (Ok count) → DropsUnsure n old new
drops_number n old new count h has =
    let done =
    has_dropped book_schema DELETE_UNSURE.now 3 unsure_table 1
    (op2 (Compare Eq Binary) (col 1 1) (col 0 0) ∷ []) (col 1 0 ∷ []) (number_value n ∷ []) unsure_columns
    (λ vs. number_test 0 n vs && true) (λ (m : ℕ). m == n)
    (λ m. one_tested _ (number_tested m n)) old new has delete_unsure_means refl refl count h refl (λ r. refl) (λ r. refl) in
    record { schema_is = done.schema_is; keyed = done.keyed; others = done.others; rows = done.rows }

-- ---- how the tables are made

abbrev pub entry_text : List ℕ
entry_text = codes "CREATE TABLE entry (number INT NOT NULL, request BLOB NOT NULL, PRIMARY KEY (number)) STRICT"

abbrev pub reply_text : List ℕ
reply_text = codes "CREATE TABLE reply (number INT NOT NULL, status INTEGER NOT NULL, body BLOB NOT NULL, PRIMARY KEY (number)) STRICT"

abbrev pub settled_text : List ℕ
settled_text = codes "CREATE TABLE settled (number INT NOT NULL, status INTEGER NOT NULL, body BLOB NOT NULL, PRIMARY KEY (number)) STRICT"

abbrev pub unsure_text : List ℕ
unsure_text = codes "CREATE TABLE unsure (number INT NOT NULL, PRIMARY KEY (number)) STRICT"

abbrev pub rented_text : List ℕ
rented_text =
    codes "CREATE TABLE rented (copy INTEGER NOT NULL, number INTEGER NOT NULL, rental INTEGER NOT NULL, customer INTEGER NOT NULL, PRIMARY KEY (copy, number)) STRICT"

abbrev pub returned_text : List ℕ
returned_text = codes "CREATE TABLE returned (rental INTEGER NOT NULL, number INTEGER NOT NULL, PRIMARY KEY (rental, number)) STRICT"

abbrev pub rented_as_text : List ℕ
rented_as_text = codes "CREATE INDEX rented_as ON rented (rental, number)"

abbrev pub stage : ℕ → ℕ → Schema
stage tables indexes = record { tables = take tables book_schema.tables; indexes = take indexes book_schema.indexes; views = [] }

abbrev pub placeless : Table → Table
placeless table = record table { tree = 0 }

pub makes_entry : Makes (stage 0 0) entry_text (placeless entry_table)
unfolding understood everything
makes_entry = record { means = record { is = refl; plain = (refl, refl) }; whole = refl; defined = refl; unsequenced = refl }

pub makes_reply : Makes (stage 1 1) reply_text (placeless reply_table)
unfolding understood everything
makes_reply = record { means = record { is = refl; plain = (refl, refl) }; whole = refl; defined = refl; unsequenced = refl }

pub makes_settled : Makes (stage 2 2) settled_text (placeless settled_table)
unfolding understood everything
makes_settled = record { means = record { is = refl; plain = (refl, refl) }; whole = refl; defined = refl; unsequenced = refl }

pub makes_unsure : Makes (stage 3 3) unsure_text (placeless unsure_table)
unfolding understood everything
makes_unsure = record { means = record { is = refl; plain = (refl, refl) }; whole = refl; defined = refl; unsequenced = refl }

pub makes_rented : Makes (stage 4 4) rented_text (placeless rented_table)
unfolding understood everything
makes_rented = record { means = record { is = refl; plain = (refl, refl) }; whole = refl; defined = refl; unsequenced = refl }

pub makes_returned : Makes (stage 5 5) returned_text (placeless returned_table)
unfolding understood everything
makes_returned = record { means = record { is = refl; plain = (refl, refl) }; whole = refl; defined = refl; unsequenced = refl }

abbrev pub rented_as : Index
rented_as = index_of (codes "rented_as") 0 8 (3 ∷ 2 ∷ [])

pub makes_rented_as : MakesIndex (stage 6 6) rented_as_text 4 rented_table rented_as
unfolding understood everything
makes_rented_as = record { means = record { is = refl; plain = (refl, refl) }; whole = refl; place = refl; defined = refl }

abbrev pub texts : List (List ℕ)
texts = entry_text ∷ reply_text ∷ settled_text ∷ unsure_text ∷ rented_text ∷ returned_text ∷ rented_as_text ∷ []

pub make_all : MakeAll book_schema no_schema texts
unfolding everything
make_all =
    makes_one book_schema no_schema entry_text
    (reply_text ∷ settled_text ∷ unsure_text ∷ rented_text ∷ returned_text ∷ rented_as_text ∷ []) (placeless entry_table) makes_entry
    (makes_one book_schema (stage 1 1) reply_text
    (settled_text ∷ unsure_text ∷ rented_text ∷ returned_text ∷ rented_as_text ∷ []) (placeless reply_table) makes_reply
    (makes_one book_schema (stage 2 2) settled_text (unsure_text ∷ rented_text ∷ returned_text ∷ rented_as_text ∷ []) (placeless settled_table) makes_settled
    (makes_one book_schema (stage 3 3) unsure_text (rented_text ∷ returned_text ∷ rented_as_text ∷ []) (placeless unsure_table) makes_unsure
    (makes_one book_schema (stage 4 4) rented_text (returned_text ∷ rented_as_text ∷ []) (placeless rented_table) makes_rented
    (makes_one book_schema (stage 5 5) returned_text (rented_as_text ∷ []) (placeless returned_table) makes_returned
    (indexes_one book_schema (stage 6 6) rented_as_text [] 4 rented_table rented_as makes_rented_as refl))))))

none_keyed : (trees : Trees) (tables : List Table) → AllByRecursion (λ t. trees t.tree ≡ []) tables
    → AllByRecursion (λ t. IsShaped TableShape (trees t.tree)) tables
none_keyed trees [] e = tt
none_keyed trees (t ∷ ts) e = (rw e.0 (tt, tt), none_keyed trees ts e.1)

-- an empty journal says nothing
no_commands : (commands : List Command) → Say [] commands → commands ≡ []
no_commands [] say = refl
no_commands (c ∷ cs) say = absurd say

-- after the texts
pub made_journal : (s : State) → Builds book_schema s.now [] → IsEmptyJournal s
made_journal s b =
    let empty : AllByRecursion (λ t. s.now.trees t.tree ≡ []) book_schema.tables =
    subst (λ (it : Schema). AllByRecursion (λ t. s.now.trees t.tree ≡ []) it.tables) b.makes b.empty in
    let none : (width : ℕ) (tree : List sql.Row) → tree ≡ [] → HasRows width tree [] =
    λ width tree is. subst (λ (rows : List sql.Row). HasRows width rows []) (sym is) (IsPermutation-refl []) in
    record {
      schema_is = b.makes;
      keyed = none_keyed s.now.trees book_schema.tables empty;
      stands = record {
        entries = none 2 (s.now.trees 0) empty.0;
        replies = none 3 (s.now.trees 2) empty.1.0;
        settled = none 3 (s.now.trees 4) empty.1.1.0;
        is = record { once = tt; refused = refl; answered = omega arith };
        unsure = none 1 (s.now.trees 6) empty.1.1.1.0;
        rented = λ commands say. rw (no_commands commands say) (none 4 (s.now.trees 8) empty.1.1.1.1.0);
        returned = λ commands say. rw (no_commands commands say) (none 2 (s.now.trees 10) empty.1.1.1.1.1.0);
      };
    }

-- ---- the request of a number

none_below : {A : Type 0} (n k : ℕ) (xs : List A) → n < k → filter (λ (it : ℕ × A). it.0 == n) (numbered_from k xs) ≡ []
none_below n k [] low = refl
none_below n k (x ∷ xs) low =
    let differ : (k == n) ≡ false = differ_test k n (λ e. absurd (omega (arith, e))) in
    rw differ (none_below n (k + 1) xs (omega arith))

pub picked : {A : Type 0} (n k i : ℕ) (xs : List A) → n ≡ k + i
    → filter (λ (it : ℕ × A). it.0 == n) (numbered_from k xs) ≡ map (λ x. (n, x)) (option_to_list (slice_get xs i))
picked n k i [] is = refl
picked n k zero (x ∷ xs) is =
    let same : k ≡ n = omega arith in
    rw (equal_test k n same, none_below n (k + 1) xs (omega arith)) (ap (λ (m : ℕ). (m, x) ∷ []) same)
picked n k (suc i) (x ∷ xs) is =
    let differ : (k == n) ≡ false = differ_test k n (λ e. absurd (omega (arith, e))) in
    rw differ (picked n (k + 1) i xs (omega arith))

few_of : {A : Type 0} (o : Option A) → length (option_to_list o) ≤ 1
few_of None = omega arith
few_of (Some x) = omega arith

abbrev of_number : List Term
of_number = op2 (Compare Eq Binary) (col 1 1) (col 0 0) ∷ []

select_entry_means : Selects book_schema SELECT_ENTRY.now (plain_query 0 of_number (col 1 2 ∷ []) [])
unfolding understood everything
select_entry_means = record { names = _; is = refl; plain = (refl, refl); unlisted = refl }

module _ (n : ℕ) (old new : State) (rows : List sql.Row) (h : Shown SELECT_ENTRY.now (number_value n ∷ []) old new rows) where
  shows_entry : (journal : Journal) → Holds old journal → (i : ℕ) → n ≡ i + 1 → rows ≡ map (λ x. Blob x ∷ []) (option_to_list (slice_get journal.entries i))
  shows_entry journal holds i is =
      let place : n ≡ 1 + i = omega arith in
      let here : filter (λ (it : ℕ × List ℕ). it.0 == n) (numbered journal.entries) ≡ map (λ x. (n, x)) (option_to_list (slice_get journal.entries i)) =
      picked n 1 i journal.entries place in
      let few : PicksOne (λ (it : ℕ × List ℕ). it.0 == n) (numbered journal.entries) =
      subst (λ (l : List (ℕ × List ℕ)). length l ≤ 1) (sym here)
      (subst (λ (m : ℕ). m ≤ 1) (sym (length-map (λ x. (n, x)) (option_to_list (slice_get journal.entries i)))) (few_of (slice_get journal.entries i))) in
      projects_one book_schema SELECT_ENTRY.now 0 2 of_number (col 1 2 ∷ []) select_entry_means (number_value n ∷ []) old new rows holds.schema_is h
      entry_columns (numbered journal.entries) holds.stands.entries refl
      (λ vs. number_test 0 n vs && true) (λ vs. column vs 1 ∷ []) (λ it. it.0 == n) (λ it. one_tested _ (number_tested it.0 n)) (λ r. refl) few
      ∙ ap (map (λ (it : ℕ × List ℕ). Blob it.1 ∷ [])) here
      ∙ map-map (λ (it : ℕ × List ℕ). Blob it.1 ∷ []) (λ x. (n, x)) (option_to_list (slice_get journal.entries i))

  told : (slice : List sql.Row) → slice ≡ rows → (it : Option (List ℕ)) → HasBytes it slice
      → (journal : Journal) → Holds old journal → (i : ℕ) → n ≡ i + 1 → it ≡ slice_get journal.entries i
  told slice same it tells journal holds i is = go it (slice_get journal.entries i) (subst (HasBytes it) (same ∙ shows_entry journal holds i is) tells)
    where
      go : (it found : Option (List ℕ)) → HasBytes it (map (λ x. Blob x ∷ []) (option_to_list found)) → it ≡ found
      go None None tells = refl
      go None (Some x) tells = absurd (clash tells)
        where
          clash : ◌≡◌ {A = Option sql.Row} (Some (Blob x ∷ [])) None → ⊥
          clash e = cc
      go (Some b) None (row, first, is_blob) = absurd (clash first)
        where
          clash : ◌≡◌ {A = Option sql.Row} None (Some row) → ⊥
          clash e = cc
      go (Some b) (Some x) (row, first, is_blob) =
          let is : Blob x ∷ [] ≡ row = same_row first in
          let both : Blob x ≡ Blob b = ap (λ r. column r 0) is ∙ is_blob in
          ap (λ (l : List ℕ). Some l) (same_bytes both)
        where
          same_row : Some (Blob x ∷ []) ≡ Some row → Blob x ∷ [] ≡ row
          same_row e = cc

          same_bytes : Blob x ≡ Blob b → b ≡ x
          same_bytes e = cc

  pub finds_entry : (slice : List sql.Row) → slice ≡ rows → (it : Option (List ℕ)) → HasBytes it slice → FindsEntry n it old new
  finds_entry slice same it tells journal holds = (
    still_holds book_schema StandsFor SELECT_ENTRY.now (number_value n ∷ []) old new select_entry_means.plain rows h journal holds,
    λ i is. told slice same it tells journal holds i is,
  )
