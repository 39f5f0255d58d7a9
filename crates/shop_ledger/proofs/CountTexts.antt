-- The texts on counts and on copies that are out, as SQL has them.
use Rattle.std.proofs.Common.{nat_lt}
use Rattle.shop_schema.proofs.Common.{◌≡◌, ◌+◌, ◌<◌, ◌^◌, ◌&&◌, ℕ, pos, List, [], ◌∷◌, map, filter, true, cond, Some, None, Ok, refl, ap, arith, IsPermutation}
use Rattle.shop_schema.proofs.Common.{subst, ⊤, nat_tests, map_push, Value, column, ascending, Trees, Binary, Term, col, op2, int_or, real_arith, from_int}
use Rattle.shop_schema.proofs.Common.{Arith, Add, Update, Delete, State, ExecutesInside, sort_by, map-map, Means, HasRows, PicksOne, by, Differ, number_value}
use Rattle.shop_schema.proofs.Common.{Changes, are_kept, Selects, plain_query, number_test, number_tested, one_tested, two_tested, three_tested, projects_bag}
use Rattle.shop_schema.proofs.Common.{projects_one, projects_sorted, MeansShowing, Row, is_of, Rental, Books, shop_schema, counter_table, out_copy_table}
use Rattle.shop_schema.proofs.Common.{counter_columns, out_columns, Count, Out, Counts, is_count, is_open, is_out, is_out_by, out_of, raised, put_out, drop_out}
use Rattle.shop_schema.proofs.Common.{counts_of, StandsFor, StandsWith, IsShop, Tallies}
use Rattle.sqlite_value.specs.Order as sql
use Rattle.sqlite_sql.specs.Ops.{binary}
use Rattle.sqlite_tied.specs.Compute.{everything}
use Rattle.sqlite.specs.Listing.{understood}
use Rattle.sqlite.specs.State.{Shown}
use Rattle.sql_rows.proofs.Drops.{drops_row}
use Rattle.shop_schema.proofs.Stands.{stands_but, rows_of, with_rows}
use Rattle.shop_schema.proofs.Listed.{tallies_put}
use Rattle.shop_ledger.specs.declared.counts.TheConstants.{SELECT_COUNT, UPDATE_COUNT, SELECT_OUT, SELECT_COPIES_OUT, INSERT_OUT, DELETE_OUT}
use Rattle.shop_ledger.proofs.Equals.{of_one, of_two, of_three}
use Rattle.shop_schema.specs.Trees.{counter_tree, out_copy_tree}

-- ---- counts

pub select_count_means : Selects shop_schema SELECT_COUNT.now (plain_query counter_tree of_two (col 1 3 ∷ []) [])
unfolding understood everything
select_count_means = record { names = _; is = refl; plain = (refl, refl); unlisted = refl }

pub count_test : (b k : ℕ) (c : Count) → (number_test 0 b (counter_columns c) && (number_test 1 k (counter_columns c) && true)) ≡ is_count b k c
count_test b k c = two_tested _ _ (number_tested c.caller b) (number_tested c.kind k)

pub shows_counts : (old new : State) (b k : ℕ) (rows : List sql.Row) (books : Books)
    → IsShop old → Shown SELECT_COUNT.now (number_value b ∷ number_value k ∷ []) old new rows
    → StandsFor old.now.trees books → IsPermutation (map (λ (c : Count). number_value c.last ∷ []) (filter (is_count b k) (counts_of books).counters)) rows
shows_counts old new b k rows books has h s =
    projects_bag shop_schema SELECT_COUNT.now 41 3 of_two (col 1 3 ∷ []) select_count_means
    (number_value b ∷ number_value k ∷ []) old new rows has h counter_columns (counts_of books).counters s.counters refl
    (λ vs. number_test 0 b vs && (number_test 1 k vs && true)) (λ vs. column vs 2 ∷ []) (is_count b k) (count_test b k) (λ r. refl)

-- the value plus `m`, as SQL adds them: a number if 64 bits hold it
abbrev pub plus : ℕ → Value → Value
plus m v = binary (Arith Add) v (number_value m)

pub plus_is : (n m : ℕ) → n < 2 ^ 32 → m < 2 ^ 32 → plus m (number_value n) ≡ number_value (n + m)
unfolding binary
plus_is n m small few =
    let fits : nat_lt (n + m) (2 ^ 63) ≡ true = grind (arith, nat_tests) in
    ap (λ b. int_or (cond b (Some (pos (n + m))) None) (real_arith Add (from_int (pos n)) (from_int (pos m)))) fits

abbrev pub raise_terms : List Term
raise_terms = col 1 0 ∷ col 1 0 ∷ col 1 1 ∷ col 1 2 ∷ op2 (Arith Add) (col 1 3) (col 0 2) ∷ []

-- the value that is shown, after three parameters
abbrev pub raise_told : List Term
raise_told = col 0 7 ∷ []

pub raise_means : MeansShowing shop_schema UPDATE_COUNT.now (Update 18 (record { lets = []; body = plain_query counter_tree of_two raise_terms [] })) raise_told
unfolding understood everything
raise_means = record { names = _; is = refl; shows = refl; untimed = refl }

abbrev pub count_more : ℕ → sql.Row → sql.Row
count_more m vs = column vs 0 ∷ column vs 1 ∷ plus m (column vs 2) ∷ []

pub count_more_is : (m : ℕ) → m < 2 ^ 32 → (c : Count) → c.last < 2 ^ 32 → count_more m (counter_columns c) ≡ counter_columns (raised m c)
count_more_is m few c small = ap (λ v. number_value c.caller ∷ number_value c.kind ∷ v ∷ []) (plus_is c.last m small few)

pub more_kept : (m : ℕ) → m < 2 ^ 32 → (c : Count) → c.last < 2 ^ 32 → are_kept counter_table.columns (count_more m (counter_columns c)) ≡ true
more_kept m few c small = ap (are_kept counter_table.columns) (count_more_is m few c small)

-- ---- the two tables beside any books

abbrev pub Beside : Books → Trees → Counts → Type 0
Beside books trees counts = StandsWith counts trees books

-- ---- copies that are out

pub select_out_means : Selects shop_schema SELECT_OUT.now (plain_query out_copy_tree of_two (col 1 3 ∷ []) [])
unfolding understood everything
select_out_means = record { names = _; is = refl; plain = (refl, refl); unlisted = refl }

pub out_test : (b x : ℕ) (o : Out) → (number_test 0 b (out_columns o) && (number_test 1 x (out_columns o) && true)) ≡ is_out b x o
out_test b x o = two_tested _ _ (number_tested o.branch b) (number_tested o.copy x)

pub shows_out : (old new : State) (b x : ℕ) (rows : List sql.Row) (books : Books)
    → IsShop old → Shown SELECT_OUT.now (number_value b ∷ number_value x ∷ []) old new rows
    → StandsFor old.now.trees books → PicksOne (is_out b x) (counts_of books).outs
    → rows ≡ map (λ (o : Out). number_value o.rental ∷ []) (filter (is_out b x) (counts_of books).outs)
shows_out old new b x rows books has h s few =
    projects_one shop_schema SELECT_OUT.now 43 3 of_two (col 1 3 ∷ []) select_out_means
    (number_value b ∷ number_value x ∷ []) old new rows has h out_columns (counts_of books).outs s.outs refl
    (λ vs. number_test 0 b vs && (number_test 1 x vs && true)) (λ vs. column vs 2 ∷ []) (is_out b x) (out_test b x) (λ r. refl) few

-- the copies of a branch, in order of the rentals' numbers; in the books' own counts they are the copies of the open rentals
pub select_copies_means : Selects shop_schema SELECT_COPIES_OUT.now (plain_query out_copy_tree of_one (col 1 2 ∷ []) ((col 1 3, ascending Binary) ∷ []))
unfolding understood everything
select_copies_means = record { names = _; is = refl; plain = (refl, refl); unlisted = refl }

pub shows_copies : (old new : State) (b : ℕ) (rows : List sql.Row) (books : Books) → IsShop old
    → Shown SELECT_COPIES_OUT.now (number_value b ∷ []) old new rows → StandsFor old.now.trees books
    → Differ (λ (row : Row Rental). row.number) (filter (is_of b) (filter is_open books.rentals))
    → rows ≡ map (λ (row : Row Rental). number_value row.it.copy ∷ []) (sort_by (by (λ row. row.number)) (filter (is_of b) (filter is_open books.rentals)))
shows_copies old new b rows books has h s apart =
    projects_sorted shop_schema SELECT_COPIES_OUT.now 43 3 of_one (col 1 2 ∷ []) 2 select_copies_means
    (number_value b ∷ []) old new rows has h (λ row. out_columns (out_of row)) (filter is_open books.rentals)
    (subst (HasRows 3 (old.now.trees out_copy_tree)) (map-map out_columns out_of (filter is_open books.rentals)) s.outs) refl
    (λ vs. number_test 0 b vs && true) (λ vs. column vs 1 ∷ []) (is_of b)
    (λ c. one_tested _ (number_tested c.branch b)) (λ r. refl) (λ c. c.number) (λ c. refl) apart

pub tallies_put_out : (old new : State) (o : Out) (count : ℕ)
    → ExecutesInside 0 INSERT_OUT.now (out_columns o) old new (Ok count) → Tallies old new (λ _. ⊤) (put_out o) (λ _. ⊤)
unfolding understood everything
tallies_put_out old new o =
    tallies_put 19 out_copy_table (record { place = refl; uncounted = refl; unstamped = refl }) refl INSERT_OUT.now
    (record { is = refl; plain = (refl, refl) }) (out_columns o) refl refl refl (λ id. refl) (put_out o)
    (λ counts books. ap (λ rows. with_rows 19 rows (rows_of counts books)) (map_push out_columns counts.outs o)) old new

pub out_by_test : (b x n : ℕ) (o : Out)
    → (number_test 0 b (out_columns o) && (number_test 1 x (out_columns o) && (number_test 2 n (out_columns o) && true))) ≡ is_out_by b x n o
out_by_test b x n o = three_tested _ _ _ (number_tested o.branch b) (number_tested o.copy x) (number_tested o.rental n)

pub delete_out_means : Means shop_schema DELETE_OUT.now (Delete 19 (record { lets = []; body = plain_query out_copy_tree of_three (col 1 0 ∷ []) [] }))
unfolding understood everything
delete_out_means = record { is = refl; plain = (refl, refl) }

pub drops_out : (books : Books) (old new : State) (b x n : ℕ) (count : ℕ) → IsShop old
    → ExecutesInside 0 DELETE_OUT.now (number_value b ∷ number_value x ∷ number_value n ∷ []) old new (Ok count)
    → Changes shop_schema (Beside books) old new (λ counts. PicksOne (is_out_by b x n) counts.outs) (drop_out b x n)
drops_out books old new b x n count has h =
    drops_row shop_schema (Beside books) DELETE_OUT.now 19 out_copy_table 3 of_three
    (col 1 0 ∷ []) (number_value b ∷ number_value x ∷ number_value n ∷ []) out_columns
    (λ vs. number_test 0 b vs && (number_test 1 x vs && (number_test 2 n vs && true))) (is_out_by b x n)
    (out_by_test b x n) old new has delete_out_means refl refl count h refl (λ r. refl) (λ r. refl)
    (λ counts. PicksOne (is_out_by b x n) counts.outs) (drop_out b x n)
    (λ counts same s few drops. stands_but 19 out_copy_table refl refl counts _ books books _ refl _ _ same s (drops counts.outs s.outs few))
