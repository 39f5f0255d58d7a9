-- Why looks at counts, at copies that are out and at a branch's state fail with `Failed`.
use Rattle.shop_schema.proofs.Common.{◌≡◌, ◌≤◌, ◌&&◌, ℕ, List, [], ◌∷◌, map, filter, length, true, false, inl, inr, refl, sym, ap, subst, ◌∙◌, arith}
use Rattle.shop_schema.proofs.Common.{AllByRecursion}
use Rattle.shop_schema.proofs.Common.{all_map, all_of, all_weaker, all-filter, all-permutation, IsPermutation, length_permutation, length_map, column, col}
use Rattle.shop_schema.proofs.Common.{or_null, State, number_value, number_test}
use Rattle.shop_schema.proofs.Common.{projects_bag, Row, Rental, Books, Branch, at, head, owned_by, is_empty, lacks, IsNumber, moment_value, out_columns, Out}
use Rattle.shop_schema.proofs.Common.{Count, is_count}
use Rattle.shop_schema.proofs.Common.{is_out, is_open, out_of, count_in, counts_of, IsRow, IsRental, IsHeld, Holds, Rentals, shop_schema, StoreFault, Failed}
use Rattle.sqlite_value.specs.Order as sql
use Rattle.sqlite_tied.specs.Compute.{everything}
use Rattle.sqlite.specs.Listing.{understood}
use Rattle.sqlite.specs.State.{Shown}
use Rattle.sql_rows.specs.Causes.{IsReadyInside, MetFaults, FailsFirst, FailsToRead}
use Rattle.sql_rows.proofs.QueryFaults.{IsFine, fine_plain, told_met, first_met, all_such}
use Rattle.sql_rows.proofs.Queries.{plain_query}
use Rattle.shop_schema.proofs.Lasts.{last_fits}
use Rattle.shop_schema.specs.Asked.{HoldsBooks, FailsToCount, ShowsNoCount, ShowsNumber}
use Rattle.shop_schema.specs.Trees.{counter_tree, out_copy_tree}
use Rattle.shop_ledger.specs.declared.counts.Count.{Count as TheCount}
use Rattle.shop_ledger.specs.declared.counts.Count.TheVariants.{OfficeKeys, Of}
use Rattle.shop_ledger.specs.declared.counts.CountKind.TheVariants as kind
use Rattle.shop_ledger.specs.declared.counts.TheConstants.{SELECT_COUNT, SELECT_OUT}
use Rattle.shop_ledger.specs.declared.branches.TheConstants.{SELECT_STANDING}
use Rattle.shop_ledger.specs.Asked.{HasCounter, HoldsCounter, ShowsStanding}
use Rattle.shop_ledger.specs.Counted.{kind_number, caller_of, kind_of, IsCount}
use Rattle.shop_ledger.proofs.Equals.{of_two}
use Rattle.shop_ledger.proofs.CountRows.{count_there}
use Rattle.shop_ledger.proofs.CountTexts.{select_count_means, shows_counts, select_out_means, out_test}
use Rattle.shop_ledger.proofs.CountsOf.{all_lasts, all_counts, there_counted, held_few}
use Rattle.shop_ledger.proofs.OfficeCounts.{own_counts}
use Rattle.shop_ledger.proofs.LeftFaults.{fine_left}
use Rattle.shop_ledger.proofs.StandingTexts.{standing_means, standing_row, standing_query, rows_of, keys_of, keys_value, shows_standing}

-- ---- a counter

count_fine : (b k : ℕ) → IsFine shop_schema SELECT_COUNT.now (plain_query counter_tree of_two (col 1 3 ∷ []) []) (number_value b ∷ number_value k ∷ [])
unfolding understood everything
count_fine b k = fine_plain counter_tree of_two (col 1 3 ∷ []) [] select_count_means (refl, refl, refl) refl

some_shown : (rows : List sql.Row) → length rows ≡ 1 → 1 ≤ length rows
some_shown rows one = omega (arith, one)

-- what is shown of a counter that the books have is a count
shows_count : (count : TheCount) → IsCount count → (old new : State) (books : Books) → Holds old books → IsHeld books → HasCounter count books
    → (rows : List sql.Row) → Shown SELECT_COUNT.now (number_value (caller_of count) ∷ number_value (kind_number (kind_of count)) ∷ []) old new rows
    → ¬ ShowsNoCount rows
shows_count OfficeKeys is old new books holds held has rows h =
    let n = length books.catalogue.kept in
    let same =
    subst (λ (cs : List Count). IsPermutation (map (λ (c : Count). number_value c.last ∷ []) cs) rows)
    (own_counts books) (shows_counts old new 0 4 rows books holds.schema_is h holds.stands) in
    count_there n held.most_office_kept rows (some_shown rows (length_permutation _ _ same))
    (all-permutation (λ vs. vs ≡ number_value n ∷ []) _ rows same (refl, tt))
shows_count (Of b kind) low old new books holds held there rows h =
    let k = kind_number kind in
    let same = shows_counts old new b k rows books holds.schema_is h holds.stands in
    let some : 1 ≤ length rows =
    subst (λ (n : ℕ). 1 ≤ n)
    (sym (length_map (λ (c : Count). number_value c.last ∷ []) (filter (is_count b k) (counts_of books).counters)) ∙ sym (length_permutation _ _ same))
    (there_counted kind b books low there) in
    count_there (count_in k b books) (held_few books held kind b) rows some (all_counts b k books rows low same)

pub count_met : (count : TheCount) → IsCount count → (old new : State) → IsReadyInside old → HoldsCounter count old → (fault : StoreFault)
    → FailsToCount SELECT_COUNT.now (number_value (caller_of count) ∷ number_value (kind_number (kind_of count)) ∷ []) old new fault
    → fault ≡ Failed → MetFaults old new
count_met count is old new ready it fault (inl told) failed =
    told_met shop_schema SELECT_COUNT.now (plain_query counter_tree of_two (col 1 3 ∷ []) [])
    (number_value (caller_of count) ∷ number_value (kind_number (kind_of count)) ∷ [])
    (count_fine (caller_of count) (kind_number (kind_of count))) old new it.1.schema_is ready fault told failed
count_met count is old new ready it fault (inr h) failed = absurd (shows_count count is old new it.0 it.1 it.2 it.3 h.0 h.1 (h.2 failed))

-- ---- a copy that is out

out_fine : (b x : ℕ) → IsFine shop_schema SELECT_OUT.now (plain_query out_copy_tree of_two (col 1 3 ∷ []) []) (number_value b ∷ number_value x ∷ [])
unfolding understood everything
out_fine b x = fine_plain out_copy_tree of_two (col 1 3 ∷ []) [] select_out_means (refl, refl, refl) refl

pub outs_numbers : (books : Books) → IsHeld books → AllByRecursion (λ (o : Out). IsNumber o.rental) (counts_of books).outs
outs_numbers books held =
    all_map (λ (o : Out). IsNumber o.rental) out_of (filter is_open books.rentals)
    (all_weaker (IsRow IsRental) (λ (row : Row Rental). IsNumber row.number) (λ row fits. fits.1) (filter is_open books.rentals)
    (all-filter (IsRow IsRental) is_open books.rentals (held.values.rows Rentals)))

shows_rental : (old new : State) (b x : ℕ) (books : Books) → Holds old books → IsHeld books
    → (rows : List sql.Row) → Shown SELECT_OUT.now (number_value b ∷ number_value x ∷ []) old new rows → AllByRecursion ShowsNumber rows
shows_rental old new b x books holds held rows h =
    all_such (λ (o : Out). IsNumber o.rental) ShowsNumber (λ o. number_value o.rental ∷ []) (is_out b x) (counts_of books).outs rows
    (projects_bag shop_schema SELECT_OUT.now 43 3 of_two (col 1 3 ∷ []) select_out_means
    (number_value b ∷ number_value x ∷ []) old new rows holds.schema_is h out_columns (counts_of books).outs holds.stands.outs refl
    (λ vs. number_test 0 b vs && (number_test 1 x vs && true)) (λ vs. column vs 2 ∷ []) (is_out b x) (out_test b x) (λ r. refl))
    (outs_numbers books held) (λ o is. (o.rental, is, refl))

pub out_met : {Fails : sql.Row → StoreFault → Type 0} (old new : State) (b x : ℕ)
    → ((row : sql.Row) (fault : StoreFault) → Fails row fault → fault ≡ Failed → ¬ ShowsNumber row) → IsReadyInside old → HoldsBooks old
    → (fault : StoreFault) → FailsToRead Fails SELECT_OUT.now (number_value b ∷ number_value x ∷ []) old new fault → fault ≡ Failed → MetFaults old new
out_met old new b x refuses ready it =
    first_met ShowsNumber shop_schema SELECT_OUT.now (plain_query out_copy_tree of_two (col 1 3 ∷ []) []) (number_value b ∷ number_value x ∷ []) (out_fine b x)
    old new it.1.schema_is refuses (shows_rental old new b x it.0 it.1 it.2) ready

-- ---- a branch's state

standing_fine : (b : ℕ) → IsFine shop_schema SELECT_STANDING.now standing_query (number_value b ∷ [])
unfolding understood everything
standing_fine b = fine_left _ _ _ _ _ _ standing_means (refl, refl, refl) refl

shows_state : (old new : State) (b : ℕ) → 1 ≤ b → (books : Books) → Holds old books → IsHeld books
    → (rows : List sql.Row) → Shown SELECT_STANDING.now (number_value b ∷ []) old new rows → AllByRecursion ShowsStanding rows
shows_state old new b low books holds held rows h =
    subst (AllByRecursion ShowsStanding) (sym (shows_standing old new b rows h books holds held)) (each (at b books.catalogue.branches) refl)
  where
    -- a branch that is there has its count
    its : lacks books.catalogue.branches b ≡ false → (l : List Count) → keys_of books b ≡ l → AllByRecursion (λ (c : Count). c.last ≡ count_in 4 b books) l
        → (n : ℕ) × (n ≤ 1_000_000) × (keys_value l ≡ number_value n)
    its there [] is all = absurd (let some = there_counted kind.Kept b books low there in omega (arith, some, ap length is))
    its there (c ∷ more) is all = (c.last, subst (λ (n : ℕ). n ≤ 1_000_000) (sym all.0) (held_few books held kind.Kept b), refl)

    shows : lacks books.catalogue.branches b ≡ false → (branch : Branch) → ShowsStanding (standing_row books (b, branch))
    shows there branch =
        let keys = its there (keys_of books b) refl (all_lasts b 4 books low) in
        let last = head (owned_by b books.lasts) in
        (last, keys.0, last_fits b books.lasts held.values.lasts, keys.1, ap (λ v. or_null moment_value last ∷ v ∷ []) keys.2)

    each : (found : List Branch) → at b books.catalogue.branches ≡ found → AllByRecursion ShowsStanding (rows_of b books found)
    each [] is = tt
    each (branch ∷ found) is =
        let more = branch ∷ found in
        all_map ShowsStanding (standing_row books) (map (λ (it : Branch). (b, it)) more)
        (all_map (λ it. ShowsStanding (standing_row books it)) (λ (it : Branch). (b, it)) more
        (all_of (λ it. ShowsStanding (standing_row books (b, it))) (shows (ap is_empty is)) more))

pub standing_met : {Fails : sql.Row → StoreFault → Type 0} (old new : State) (b : ℕ) → 1 ≤ b
    → ((row : sql.Row) (fault : StoreFault) → Fails row fault → fault ≡ Failed → ¬ ShowsStanding row) → IsReadyInside old → HoldsBooks old
    → (fault : StoreFault) → FailsToRead Fails SELECT_STANDING.now (number_value b ∷ []) old new fault → fault ≡ Failed → MetFaults old new
standing_met old new b low refuses ready it =
    first_met ShowsStanding shop_schema SELECT_STANDING.now standing_query (number_value b ∷ []) (standing_fine b)
    old new it.1.schema_is refuses (shows_state old new b low it.0 it.1 it.2) ready

-- the same of the reader of the rows that a query has shown
pub standing_read_met : {Fails : sql.Row → StoreFault → Type 0} (old new : State) (b : ℕ) → 1 ≤ b → (rows slice : List sql.Row) → slice ≡ rows
    → Shown SELECT_STANDING.now (number_value b ∷ []) old new rows
    → ((row : sql.Row) (fault : StoreFault) → Fails row fault → fault ≡ Failed → ¬ ShowsStanding row) → IsReadyInside old → HoldsBooks old
    → (fault : StoreFault) → FailsFirst Fails slice fault → fault ≡ Failed → MetFaults old new
standing_read_met {Fails = Fails} old new b low rows slice same h refuses ready it fault first =
    standing_met old new b low refuses ready it fault (inr (rows, h, subst (λ (rs : List sql.Row). FailsFirst Fails rs fault) same first))
