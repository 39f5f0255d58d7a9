-- What the texts on counts and on copies that are out say of them.
use Rattle.shop_schema.proofs.Common.{◌≡◌, ◌+◌, ◌<◌, ◌≤◌, ◌^◌, ◌&&◌, ℕ, List, [], ◌∷◌, map, filter, length, true, Some, None, Ok, Err, Result, refl, sym, ap}
use Rattle.shop_schema.proofs.Common.{subst, ◌∙◌, arith, ⊤, slice_get, IfOk, AllByRecursion, column, State, ExecutesInside, all-filter, map-map, number_value}
use Rattle.shop_schema.proofs.Common.{Changes, number_test, same_number, still_holds, writes_by, unmapped, Row, is_of, of, Rental, Books, shop_schema}
use Rattle.shop_schema.proofs.Common.{counter_table, counter_columns, Count, Out, Counts, is_count, is_open, is_out, raise, raised, drop_out, count_in}
use Rattle.shop_schema.proofs.Common.{counts_of, IsHeld, StandsFor, IsShop, Holds, Reads, Tallies, TellsFirst}
use Rattle.std.specs.Prelude.{Option}
use Rattle.sqlite_value.specs.Order as sql
use Rattle.sqlite.specs.State.{Shown}
use Rattle.sql_rows.proofs.Tells.{sets_and_tells}
use Rattle.shop_schema.proofs.Stands.{stands_but}
use Rattle.shop_ledger.specs.declared.counts.TheConstants.{SELECT_COUNT, UPDATE_COUNT, SELECT_OUT, SELECT_COPIES_OUT, DELETE_OUT}
use Rattle.shop_ledger.specs.declared.counts.CountKind.{CountKind}
use Rattle.shop_ledger.specs.Counted.{kind_number, CountsOnce, IsOutBy}
use Rattle.shop_ledger.proofs.Equals.{of_two}
use Rattle.shop_ledger.proofs.CountsOf.{told_count}
use Rattle.shop_ledger.proofs.Outs.{open_of, outs_numbered, picks_out, outs_rise, copies_of, copies_are}
use Rattle.shop_ledger.proofs.Rising.{rise_differ, rise_sorted}
use Rattle.shop_ledger.proofs.CountTexts.{Beside, select_count_means, shows_counts, count_test, plus, plus_is, raise_terms, raise_told, raise_means, count_more}
use Rattle.shop_ledger.proofs.CountTexts.{count_more_is, more_kept, drops_out, select_out_means, shows_out, select_copies_means, shows_copies}

-- a change of the two tables, beside any books
tallies_by : (old new : State) (Given : Counts → Type 0) (change : Counts → Counts)
    → ((books : Books) → IsShop old → Changes shop_schema (Beside books) old new Given change) → Tallies old new Given change (λ _. ⊤)
tallies_by old new Given change changes counts books holds given =
    let done =
    writes_by shop_schema (Beside books) old new Given change (changes books) counts
    (record { schema_is = holds.schema_is; keyed = holds.keyed; stands = holds.stands }) given in
    (record { schema_is = done.schema_is; keyed = done.keyed; stands = done.stands }, tt)

pub tallies_drop_out : (old new : State) (b x n : ℕ) (count : ℕ)
    → ExecutesInside 0 DELETE_OUT.now (number_value b ∷ number_value x ∷ number_value n ∷ []) old new (Ok count)
    → Tallies old new (IsOutBy b x n) (drop_out b x n) (λ _. ⊤)
tallies_drop_out old new b x n count h = tallies_by old new _ _ (λ books shop. drops_out books old new b x n count shop h)

-- ---- the copy that is out

pub read_out : (old new : State) (b x : ℕ) (rows : List sql.Row) → Shown SELECT_OUT.now (number_value b ∷ number_value x ∷ []) old new rows
    → (slice_get rows 0 ≡ None → Reads old new (λ books. [] ≡ open_of x (of b books.rentals)))
    × ((row : sql.Row) (n : ℕ) → slice_get rows 0 ≡ Some row → column row 0 ≡ number_value n → Reads old new (λ books. n ∷ [] ≡ open_of x (of b books.rentals)))
read_out old new b x rows h = (
  λ none books holds held.
      (still books holds, sym (no_out (outs books) (sym (ap (λ rs. slice_get rs 0) (shown books holds held)) ∙ none)) ∙ outs_numbered b x books held),
  λ row n some is books holds held. (
    still books holds,
    sym (one_out (outs books) (picks_out b x books held) row n (sym (ap (λ rs. slice_get rs 0) (shown books holds held)) ∙ some) is)
        ∙ outs_numbered b x books held,
  ),
)
  where
    outs : Books → List Out
    outs books = filter (is_out b x) (counts_of books).outs

    still : (books : Books) → Holds old books → Holds new books
    still = still_holds shop_schema StandsFor SELECT_OUT.now (number_value b ∷ number_value x ∷ []) old new select_out_means.plain rows h

    shown : (books : Books) → Holds old books → IsHeld books → rows ≡ map (λ (o : Out). number_value o.rental ∷ []) (outs books)
    shown books holds held = shows_out old new b x rows books holds.schema_is h holds.stands (picks_out b x books held)

    no_out : (found : List Out) → slice_get (map (λ (o : Out). number_value o.rental ∷ []) found) 0 ≡ None → map (λ (it : Out). it.rental) found ≡ []
    no_out [] e = refl
    no_out (o ∷ more) e = cc

    one_out : (found : List Out) → length found ≤ 1 → (row : sql.Row) (n : ℕ)
        → slice_get (map (λ (o : Out). number_value o.rental ∷ []) found) 0 ≡ Some row → column row 0 ≡ number_value n
        → map (λ (it : Out). it.rental) found ≡ n ∷ []
    one_out [] few row n e is = cc
    one_out (o ∷ []) few row n e is =
        let same : number_value o.rental ∷ [] ≡ row = cc in
        ap (λ m. m ∷ []) (same_number _ _ (ap (λ r. column r 0) same ∙ is))
    one_out (o ∷ p ∷ more) few row n e is = absurd (omega (arith, few))

-- ---- all copies that are out

unmapped_numbers : (ms ns : List ℕ) → map number_value ms ≡ map number_value ns → ms ≡ ns
unmapped_numbers = unmapped number_value same_number

pub read_copies : (old new : State) (b : ℕ) (rows seen : List sql.Row) (numbers : List ℕ)
    → Shown SELECT_COPIES_OUT.now (number_value b ∷ []) old new rows → seen ≡ rows
    → map number_value numbers ≡ map (λ row. column row 0) seen → Reads old new (λ books. numbers ≡ copies_of (of b books.rentals))
read_copies old new b rows seen numbers h same read books holds held =
    let copy : Row Rental → ℕ = λ row. row.it.copy in
    let outs : List (Row Rental) = filter (is_of b) (filter is_open books.rentals) in
    let rise = outs_rise b books held in
    let found = shows_copies old new b rows books holds.schema_is h holds.stands (rise_differ (λ row. row.number) outs rise) in
    let shown : rows ≡ map (λ row. number_value (copy row) ∷ []) outs =
    found ∙ ap (map (λ row. number_value (copy row) ∷ [])) (rise_sorted (λ row. row.number) outs rise) in
    let firsts : map number_value numbers ≡ map number_value (map copy outs) =
    read ∙ ap (map (λ row. column row 0)) (same ∙ shown)
    ∙ map-map (λ row. column row 0) (λ row. number_value (copy row) ∷ []) outs ∙ sym (map-map number_value copy outs) in (
      still_holds shop_schema StandsFor SELECT_COPIES_OUT.now (number_value b ∷ []) old new select_copies_means.plain rows h books holds,
      unmapped_numbers _ _ firsts ∙ copies_are b books,
    )

-- ---- numbers that are taken

pub tallies_taken : (old new : State) (b : ℕ) (kind : CountKind) (m : ℕ) → m < 2 ^ 32 → (rows : List sql.Row)
    → Shown UPDATE_COUNT.now (number_value b ∷ number_value (kind_number kind) ∷ number_value m ∷ []) old new rows
    → (row : sql.Row) (n : ℕ) → slice_get rows 0 ≡ Some row → column row 0 ≡ number_value n
    → Tallies old new (CountsOnce b kind) (raise b (kind_number kind) m)
    (λ counts. map (λ (it : Count). it.last + m) (filter (is_count b (kind_number kind)) counts.counters) ≡ n ∷ [])
tallies_taken old new b kind m few rows h row n some is counts books holds given =
    let k = kind_number kind in
    let it =
    sets_and_tells shop_schema UPDATE_COUNT.now 18 counter_table 3 of_two raise_terms raise_told
    (number_value b ∷ number_value k ∷ number_value m ∷ []) counter_columns
    (λ vs. number_test 0 b vs && (number_test 1 k vs && true)) (is_count b k) (count_more m) (raised m) (λ vs. plus m (column vs 2) ∷ []) (λ c. c.last < 2 ^ 32)
    (count_test b k) (count_more_is m few) (more_kept m few) old new holds.schema_is
    raise_means refl refl rows h refl (λ r. refl) (λ r. refl) (λ r. refl) (λ r. refl) (λ v vs. refl) (λ r. refl) in
    let done = it.rows holds.keyed counts.counters holds.stands.counters given.small given.once in
    let found = filter (is_count b k) counts.counters in (
      record {
        schema_is = it.schema_is;
        keyed = it.keyed holds.keyed;
        stands = stands_but 18 counter_table refl refl counts _ books books _ refl _ _ it.others holds.stands done.0;
      },
      told found (all-filter (λ (c : Count). c.last < 2 ^ 32) (is_count b k) counts.counters given.small) given.once
          (sym (ap (λ rs. slice_get rs 0) done.1) ∙ some),
    )
  where
    told : (found : List Count) → AllByRecursion (λ c. c.last < 2 ^ 32) found → length found ≤ 1
        → slice_get (map (λ (c : Count). plus m (number_value c.last) ∷ []) found) 0 ≡ Some row
        → map (λ (it : Count). it.last + m) found ≡ n ∷ []
    told [] all few_found e = cc
    told (c ∷ []) all few_found e =
        let same : plus m (number_value c.last) ∷ [] ≡ row = cc in
        ap (λ k. k ∷ []) (same_number _ _ (sym (plus_is c.last m all.0 few) ∙ ap (λ r. column r 0) same ∙ is))
    told (c ∷ d ∷ more) all few_found e = absurd (omega (arith, few_found))

-- ---- how many rows there are

pub read_count : (old new : State) (b k : ℕ) (rows : List sql.Row) → Shown SELECT_COUNT.now (number_value b ∷ number_value k ∷ []) old new rows → 1 ≤ b
    → (row : sql.Row) (n : ℕ) → slice_get rows 0 ≡ Some row → column row 0 ≡ number_value n → Reads old new (λ books. n ≡ count_in k b books)
read_count old new b k rows h low row n some is books holds held = (
  still_holds shop_schema StandsFor SELECT_COUNT.now (number_value b ∷ number_value k ∷ []) old new select_count_means.plain rows h books holds,
  told_count b k books rows row n low (shows_counts old new b k rows books holds.schema_is h holds.stands) some is,
)

-- what a reader of the first row answers
pub told_first : {V E : Type 0} {Fits : sql.Row → V → Type 0} (rows slice : List sql.Row) (P : Option V → Type 0) (r : Result (Option V) E)
    → slice ≡ rows → IfOk r (TellsFirst Fits slice)
    → (slice_get rows 0 ≡ None → P None) → ((row : sql.Row) (v : V) → slice_get rows 0 ≡ Some row → Fits row v → P (Some v)) → IfOk r P
told_first rows slice P (Err e) same told none some = tt
told_first rows slice P (Ok None) same told none some = none (ap (λ rs. slice_get rs 0) (sym same) ∙ sym told)
told_first rows slice P (Ok (Some v)) same told none some = some told.0 v (ap (λ rs. slice_get rs 0) (sym same) ∙ sym told.1) told.2

-- the number in the first row, if the first row has a count
pub first_count : {Fits : sql.Row → ℕ → Type 0} → ((row : sql.Row) (n : ℕ) → Fits row n → column row 0 ≡ number_value n)
    → (rows : List sql.Row) (found : Option ℕ) (n : ℕ) → TellsFirst Fits rows found → found ≡ Some n
    → (row : sql.Row) × (Some row ≡ slice_get rows 0) × (column row 0 ≡ number_value n)
first_count {Fits = Fits} fits rows found n told is = let it = subst (TellsFirst Fits rows) is told in (it.0, it.1, fits it.0 n it.2)
