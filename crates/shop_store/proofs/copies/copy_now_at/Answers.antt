use Rattle.shop_schema.proofs.Common.{◌≡◌, ◌≤◌, ◌==◌, ℕ, List, [], ◌∷◌, map, filter, length, Bool, true, false, cond, Option, Some, None, refl, sym, ap, ◌∙◌}
use Rattle.shop_schema.proofs.Common.{arith, append-nil, slice_get, IfSome, option_to_list, flat_map, and_parts, nat_tests, Null, or_null, column, Trees, Term}
use Rattle.shop_schema.proofs.Common.{col, Query, Join, inner, left, end, Output, overlay, State, map-map, IsPermutation-same, columns_of, number_value}
use Rattle.shop_schema.proofs.Common.{Selects, answers, kept_as_map, number_tested, same_number, two_tested, joined_query, are_equal, or_blank, shown_of}
use Rattle.shop_schema.proofs.Common.{left_pair, joined_rows, still_holds, Row, at, is_row, of, Books, BookCopy, head, shop_of, unmarked, row_at, shop_schema}
use Rattle.shop_schema.proofs.Common.{copy_columns, out_columns, state_value, Out, is_out, counts_of, IsHeld, StandsFor, Holds, Reads, seen_state, CopyRows}
use Rattle.shop_schema.proofs.Common.{AllByRecursion, subst, all-filter, all_map, all_weaker, IsRow, IsCopy, StoreFault, Failed}
use Rattle.std.specs.Prelude.{option_map}
use Rattle.sqlite_value.specs.Order as sql
use Rattle.sqlite_tied.specs.Compute.{everything}
use Rattle.sqlite.specs.Listing.{understood}
use Rattle.sqlite.specs.State.{Shown}
use Rattle.sql_rows.specs.Causes.{IsReadyInside, MetFaults, FailsToRead}
use Rattle.sql_rows.proofs.QueryFaults.{IsFine, first_met, err_then}
use Rattle.shop_schema.specs.Asked.{HoldsBooks}
use Rattle.shop_schema.specs.RowValues.{IsNumber}
use Rattle.shop_ledger.proofs.LeftFaults.{fine_left}
use Rattle.shop_ledger.proofs.LedgerFaults.{outs_numbers}
use Rattle.shop_store.specs.Asked.{ShowsNow}
use Rattle.shop_schema.proofs.Lists.{picks_row}
use Rattle.shop_schema.proofs.OneRow.{same_value}
use Rattle.shop_schema.proofs.ShopTables.{state_is}
use Rattle.shop_schema.specs.Kinds as kind
use Rattle.shop_ledger.proofs.Equals.{of_two}
use Rattle.shop_ledger.proofs.Fews.{climbs_few}
use Rattle.shop_ledger.proofs.Outs.{open_of, outs_numbered, picks_out}
use Rattle.shop_store.specs.declared.copies.TheConstants.{SELECT_NOW}
use Rattle.shop_store.specs.declared.copies.CopyNow.{CopyNow}
use Rattle.shop_store.specs.Seen.{seen_copy_now}
use Rattle.std.proofs.Common.{rules}
use Rattle.shop_ledger.proofs.Doing.{does_first}
use Rattle.shop_store.proofs.copies.copy_now_at.Goals as goal
use Rattle.shop_schema.specs.Trees.{out_copy_tree}

abbrev with_out : Join
with_out = left out_copy_tree (are_equal (col 2 1) (col 1 1) ∷ are_equal (col 2 2) (col 1 2) ∷ []) end

abbrev now_shows : List Term
now_shows = col 1 3 ∷ col 1 4 ∷ col 2 3 ∷ []

abbrev now_query : Query
now_query = joined_query (inner 25 with_out) of_two now_shows []

now_means : Selects shop_schema SELECT_NOW.now now_query
unfolding understood everything
now_means = record { names = _; is = refl; plain = (refl, refl); unlisted = refl }

-- the columns that are shown of a copy, with the rental of the first of `outs`, or NULL if there is none
abbrev shown_with : List Out → Row BookCopy → sql.Row
shown_with outs c = number_value c.it.film ∷ state_value c.it.state ∷ or_null (λ (o : Out). number_value o.rental) (head outs) ∷ []

same_kept : {X : Type 0} (p : Bool) (x y : X) → (p ≡ true → x ≡ y) → cond p (x ∷ []) [] ≡ cond p (y ∷ []) []
same_kept true x y same = ap (λ z. z ∷ []) (same refl)
same_kept false x y same = refl

-- ---- one copy

module _ (b n : ℕ) (books : Books) (held : IsHeld books) (db : Trees) (s : StandsFor db books) (c : Row BookCopy) where
  abbrev params : sql.Row
  params = number_value b ∷ number_value n ∷ []

  abbrev outs : List Out
  outs = (counts_of books).outs

  abbrev gives : sql.Row → List Output
  gives r2 = shown_of now_query (overlay db []) end (params ∷ (Null ∷ copy_columns c) ∷ r2 ∷ [])

  ends_are : (r2 : sql.Row) → gives r2 ≡ cond (is_row b n c) (([], number_value c.it.film ∷ state_value c.it.state ∷ column r2 3 ∷ []) ∷ []) []
  ends_are r2 =
      ap (λ t. cond t (([], number_value c.it.film ∷ state_value c.it.state ∷ column r2 3 ∷ []) ∷ []) [])
      (two_tested _ _ (number_tested c.branch b) (number_tested c.number n))

  abbrev out_with : List Out → List Output
  out_with l = cond (is_row b n c) (([], shown_with l c) ∷ []) []

  one_brings : (l : List Out) → length l ≤ 1 → flat_map (λ vs. gives (Null ∷ vs)) (or_blank 3 (map out_columns l)) ≡ out_with l
  one_brings [] few = append-nil _ ∙ ends_are (Null ∷ columns_of 3 [])
  one_brings (o ∷ []) few = append-nil _ ∙ ends_are (Null ∷ out_columns o)
  one_brings (o ∷ p ∷ l) few = absurd (omega (arith, few))

  -- a copy that is shown has the branch and the number
  own : out_with (filter (is_out c.branch c.number) outs) ≡ out_with (filter (is_out b n) outs)
  own = same_kept (is_row b n c) _ _ (λ is.
      let both = and_parts (c.branch == b) (c.number == n) is in
      let branch_is : (c.branch == b) ≡ true = both.0 in
      let number_is : (c.number == n) ≡ true = both.1 in
      let branch : c.branch ≡ b = grind (arith, nat_tests) in
      let number : c.number ≡ n = grind (arith, nat_tests) in
      (λ i. ([], shown_with (filter (is_out (branch i) (number i)) outs) c)))

  copy_brings : shown_of now_query (overlay db []) with_out (params ∷ (Null ∷ copy_columns c) ∷ []) ≡ out_with (filter (is_out b n) outs)
  copy_brings =
      let few = picks_out c.branch c.number books held in
      left_pair 3 out_columns (db 43) outs s.outs gives (λ r. refl) (λ o. o.branch)
      (λ o. o.copy) (λ o. refl) (λ o. refl) (λ r. refl) (λ r. refl) c.branch c.number few
      ∙ one_brings (filter (is_out c.branch c.number) outs) few ∙ own

-- ---- the copy of the number

module _ (old new : State) (b n : ℕ) (rows slice : List sql.Row)
    (h : Shown SELECT_NOW.now (number_value b ∷ number_value n ∷ []) old new rows) (same : slice ≡ rows) where
  abbrev copies_in : Books → List (Row BookCopy)
  copies_in books = filter (is_row b n) books.copies

  abbrev outs_in : Books → List Out
  outs_in books = filter (is_out b n) (counts_of books).outs

  still : (books : Books) → Holds old books → Holds new books
  still = still_holds shop_schema StandsFor SELECT_NOW.now _ old new now_means.plain rows h

  picks : (books : Books) → IsHeld books → length (copies_in books) ≤ 1
  picks books held = picks_row b books.copies (held.numbers.rows CopyRows b) n

  shows_now : (books : Books) → Holds old books → IsHeld books → rows ≡ map (shown_with (outs_in books)) (copies_in books)
  shows_now books holds held =
      let out : Row BookCopy → Output = λ c. ([], shown_with (outs_in books) c) in
      joined_rows 25 with_out of_two now_shows []
      (number_value b ∷ number_value n ∷ []) old.now.trees 6 copy_columns books.copies holds.stands.copies refl (λ r. refl)
      (λ c. cond (is_row b n c) (out c ∷ []) []) (λ c. IsPermutation-same _ _ (copy_brings b n books held old.now.trees holds.stands c))
      rows (answers shop_schema SELECT_NOW.now now_query _ old new holds.schema_is now_means rows h)
      (map out (copies_in books)) (IsPermutation-same _ _ (kept_as_map (is_row b n) out books.copies))
      (climbs_few now_query out (copies_in books) (picks books held))
      ∙ map-map (λ (o : Output). o.1) out (copies_in books)

  -- what is said of the copy that was found
  abbrev Says : Option CopyNow → Books → Type 0
  Says found books =
      (option_to_list (option_map seen_copy_now found) ≡ at n (shop_of b books).copies)
      × IfSome found (λ it. option_to_list it.out ≡ open_of n (of b books.rentals))

  in_shop : (books : Books) → IsHeld books → map (λ (c : Row BookCopy). unmarked c.it) (copies_in books) ≡ at n (shop_of b books).copies
  in_shop books held = row_at unmarked b n books.copies (held.numbers.rows CopyRows b)

  rental_told : (outs : List Out) → length outs ≤ 1 → (out : Option ℕ)
      → or_null (λ (o : Out). number_value o.rental) (head outs) ≡ or_null number_value out → option_to_list out ≡ map (λ (o : Out). o.rental) outs
  rental_told [] few None is = refl
  rental_told [] few (Some r) is = cc
  rental_told (o ∷ []) few None is = cc
  rental_told (o ∷ []) few (Some r) is = ap (λ (k : ℕ). k ∷ []) (sym (same_number o.rental r is))
  rental_told (o ∷ p ∷ outs) few out is = absurd (omega (arith, few))

  none_told : (outs : List Out) (cs : List (Row BookCopy)) → slice_get (map (shown_with outs) cs) 0 ≡ None → [] ≡ map (λ (c : Row BookCopy). unmarked c.it) cs
  none_told outs [] e = refl
  none_told outs (c ∷ cs) e = cc

  copy_told : (outs : List Out) → length outs ≤ 1 → (cs : List (Row BookCopy)) → length cs ≤ 1
      → (row : sql.Row) (it : CopyNow) → slice_get (map (shown_with outs) cs) 0 ≡ Some row
      → (column row 0 ≡ number_value it.film) × (column row 1 ≡ state_value (seen_state it.state)) × (column row 2 ≡ or_null number_value it.out)
      → (seen_copy_now it ∷ [] ≡ map (λ (c : Row BookCopy). unmarked c.it) cs) × (option_to_list it.out ≡ map (λ (o : Out). o.rental) outs)
  copy_told outs once [] few row it e is = cc
  copy_told outs once (c ∷ []) few row it e is =
      let shown : shown_with outs c ≡ row = cc in
      let film : it.film ≡ c.it.film = sym (same_number c.it.film it.film (ap (λ (r : sql.Row). column r 0) shown ∙ is.0)) in
      let seen = state_is c.it.state in
      let same : seen.0 ≡ it.state = same_value kind.Copy seen.0 it.state tt tt (ap state_value seen.1 ∙ ap (λ (r : sql.Row). column r 1) shown ∙ is.1) in
      let state : seen_state it.state ≡ c.it.state = sym (ap seen_state same) ∙ seen.1 in
      ((λ i. record { film = film i; state = state i } ∷ []), rental_told outs once it.out (ap (λ (r : sql.Row). column r 2) shown ∙ is.2))
  copy_told outs once (c ∷ d ∷ cs) few row it e is = absurd (omega (arith, few))

  -- what the first row says of the books
  reads : (None ≡ slice_get slice 0 → Reads old new (Says None))
      × ((row : sql.Row) (it : CopyNow) → Some row ≡ slice_get slice 0
      → (column row 0 ≡ number_value it.film) × (column row 1 ≡ state_value (seen_state it.state)) × (column row 2 ≡ or_null number_value it.out)
      → Reads old new (Says (Some it)))
  reads = (
    λ none books holds held.
        let first = ap (λ (rs : List sql.Row). slice_get rs 0) (sym (shows_now books holds held) ∙ sym same) ∙ sym none in
        (still books holds, (none_told (outs_in books) (copies_in books) first ∙ in_shop books held, tt)),
    λ row it some is books holds held.
        let first = ap (λ (rs : List sql.Row). slice_get rs 0) (sym (shows_now books holds held) ∙ sym same) ∙ sym some in
        let told = copy_told (outs_in books) (picks_out b n books held) (copies_in books) (picks books held) row it first is in
        (still books holds, (told.0 ∙ in_shop books held, told.1 ∙ outs_numbered b n books held)),
  )

-- ---- no row that is shown is refused

now_fine : (b n : ℕ) → IsFine shop_schema SELECT_NOW.now now_query (number_value b ∷ number_value n ∷ [])
unfolding understood everything
now_fine b n = fine_left _ _ _ _ _ _ now_means (refl, refl, refl) refl

rental_shown : (outs : List Out) → AllByRecursion (λ (o : Out). IsNumber o.rental) outs
    → (out : Option ℕ) × IfSome out IsNumber × (or_null (λ (o : Out). number_value o.rental) (head outs) ≡ or_null number_value out)
rental_shown [] all = (None, tt, refl)
rental_shown (o ∷ more) all = (Some o.rental, all.0, refl)

shows_so : (outs : List Out) → AllByRecursion (λ (o : Out). IsNumber o.rental) outs → (c : Row BookCopy) → IsRow IsCopy c → ShowsNow (shown_with outs c)
shows_so outs all c fits =
    let seen = state_is c.it.state in
    let out = rental_shown outs all in
    (c.it.film, seen.0, out.0, fits.2.0, out.1, λ i. number_value c.it.film ∷ state_value (sym seen.1 i) ∷ out.2 i ∷ [])

met : {Fails : sql.Row → StoreFault → Type 0} (old new : State) (b n : ℕ)
    → ((row : sql.Row) (fault : StoreFault) → Fails row fault → fault ≡ Failed → ¬ ShowsNow row) → IsReadyInside old → HoldsBooks old
    → (fault : StoreFault) → FailsToRead Fails SELECT_NOW.now (number_value b ∷ number_value n ∷ []) old new fault → fault ≡ Failed → MetFaults old new
met old new b n refuses ready it =
    let books = it.0 in
    let found = filter (is_row b n) books.copies in
    let outs = filter (is_out b n) (counts_of books).outs in
    let numbers = all-filter (λ (o : Out). IsNumber o.rental) (is_out b n) (counts_of books).outs (outs_numbers books it.2) in
    first_met ShowsNow shop_schema SELECT_NOW.now now_query (number_value b ∷ number_value n ∷ []) (now_fine b n) old new it.1.schema_is refuses
    (λ rows h.
    subst (AllByRecursion ShowsNow) (sym (shows_now old new b n rows rows h refl books it.1 it.2))
    (all_map ShowsNow (shown_with outs) found
    (all_weaker (IsRow IsCopy) _ (shows_so outs numbers) found (all-filter (IsRow IsCopy) (is_row b n) books.copies (it.2.values.rows CopyRows)))))
    ready

pub returns-clause-does : goal.returns-clause-does
returns-clause-does g c =
    does_first _ _ c.query_first.ensures.inside
    (rw (c.to_sql.ensures, c.get.ensures.value, c.to_sql-2.ensures, c.get-2.ensures.value) at c.query_first.ensures.shown)
    (λ rows these.
    let read = reads _ _ c.args.branch c.args.number rows rows these refl in
    (read.0, λ row it some says. read.1 row it some (search rules)))

pub returns-clause-fails : goal.returns-clause-fails
returns-clause-fails g c clean ready holds =
    err_then c.query_first.result _ _
    (rw (c.to_sql.ensures, c.get.ensures.value, c.to_sql-2.ensures, c.get-2.ensures.value) at (c.query_first.ensures.told clean))
    (met _ _ c.args.branch c.args.number (λ row fault says failed. search rules) ready holds)
