-- The rows that the texts about rents and returns show.
use Rattle.std.specs.Prelude.{nat_lt}
use Rattle.sql_rows.proofs.Common.{◌≡◌, ◌≢◌, ◌∙◌, ◌+◌, ◌<◌, ◌≤◌, ◌==◌, ◌&&◌, ℕ, List, [], ◌∷◌, ◌++◌, map, filter, length, take, Bool, not, true, false, cond}
use Rattle.sql_rows.proofs.Common.{cases_Bool, inl, inr, Option, Some, None, option_map, option_to_list, refl, sym, ap, subst, arith, column, Binary, Term, col}
use Rattle.sql_rows.proofs.Common.{op2, Compare, Eq, State, IsAscending, AllByRecursion, map-map, number_value, nat_tests, holds, output, columns_of}
use Rattle.sqlite_keyed.proofs.ListLemmas.{ascending-filter}
use Rattle.std.specs.List.{list_all, list_any}
use Rattle.sqlite_value.specs.Order as sql
use Rattle.sqlite_tied.specs.Compute.{everything}
use Rattle.sqlite.specs.Listing.{understood}
use Rattle.sqlite.specs.State.{Shown}
use Rattle.sqlite_sql.specs.declared.ops.CompareOp.TheVariants.{Gt}
use Rattle.sqlite_keyed.proofs.ListLemmas.{ascending-append, all_weaker}
use Rattle.sql_rows.proofs.Bags.{length-map}
use Rattle.sql_rows.proofs.Queries.{Selects, plain_query, unmapped}
use Rattle.sql_rows.proofs.ColumnTests.{number_test, number_tested, one_tested, two_tested, same_number}
use Rattle.sql_rows.proofs.Projects.{projects_count, still_holds}
use Rattle.shop_model.specs.Rows.{numbered_from}
use Rattle.shop_model.proofs.RowLemmas.{same_if}
use Rattle.shop_model.specs.Values.{Act, AddCustomer, SetActive, Rent, TakeBack, Pay, Import, Dispatch, Receive, Scrap, Command}
use Rattle.shop_model.specs.Answers.{Answer}
use Rattle.till_model.specs.Tills.{Entry}
use Rattle.till_model.specs.Register.{rental_told}
use Rattle.till_book.specs.Tables.{book_schema}
use Rattle.till_book.specs.Saying.{Say}
use Rattle.till_book.specs.Marks.{Rented, Returned, rents_told, rented_in, returned_in}
use Rattle.till_book.specs.Journal.{StandsFor, Finds, rented_columns, returned_columns, entries_in}
use Rattle.till_book.specs.Held.{last_or, last_rent, rent_named, seen_rent, is_of_copy, is_named, is_returned_after}
use Rattle.till_book.specs.declared.rents.RentRow.{RentRow}
use Rattle.till_book.specs.declared.rents.TheConstants.{SELECT_RENT, SELECT_RETURN, SELECT_RENTER}
use Rattle.sql_rows.proofs.NumberTests.{more_test, more_tested}
use Rattle.till_book.proofs.Marking.{rent_rows}
use Rattle.till_book.proofs.ByRents.{IsFrom, rents_from, rents_rise}
use Rattle.sql_rows.proofs.LastRow.{ending, first_query, descending, projects_last}

-- ---- rents come in the order of their entries

abbrev Rise : List Rented → Type 0
Rise = IsAscending (λ (a b : Rented). a.number < b.number)

rises_told : (n : ℕ) (act : Act) (reply : Option Answer)
    → Rise (rents_told n act reply) × AllByRecursion (λ (it : Rented). it.number ≡ n) (rents_told n act reply)
rises_told n (Rent customer copy) None = (tt, tt)
rises_told n (Rent customer copy) (Some answer) = go (rental_told answer)
  where
    go : (told : Option ℕ) → Rise (rent_rows n customer copy told) × AllByRecursion (λ (it : Rented). it.number ≡ n) (rent_rows n customer copy told)
    go None = (tt, tt)
    go (Some rental) = ((tt, tt), (refl, tt))
rises_told n act None = (tt, tt)
rises_told n act (Some answer) = (tt, tt)

rents_ascend : (k : ℕ) (entries : List Entry) → Rise (rents_from k entries)
rents_ascend k [] = tt
rents_ascend k (entry ∷ entries) =
    let here = rises_told k entry.command.act entry.reply in
    let later = rents_rise (k + 1) (k + 1) entries (omega arith) in
    ascending-append (λ (a b : Rented). a.number < b.number) (rents_told k entry.command.act entry.reply)
    (rents_from (k + 1) entries) here.0 (rents_ascend (k + 1) entries)
    (all_weaker (λ (x : Rented). x.number ≡ k) (λ (x : Rented). AllByRecursion (λ (y : Rented). x.number < y.number) (rents_from (k + 1) entries))
    (λ x is. all_weaker (IsFrom (k + 1)) (λ (y : Rented). x.number < y.number) (λ y low. omega (arith, is, low)) (rents_from (k + 1) entries) later)
    (rents_told k entry.command.act entry.reply) here.1)

pub ending_is : {A : Type 0} (xs : List A) → ending xs ≡ option_to_list (last_or None xs)
ending_is [] = refl
ending_is (x ∷ []) = refl
ending_is (x ∷ y ∷ xs) = ending_is (y ∷ xs)

-- ---- the last rent of a copy

abbrev of_copy : List Term
of_copy = op2 (Compare Eq Binary) (col 1 1) (col 0 0) ∷ []

abbrev shown_rent : List Term
shown_rent = col 1 2 ∷ col 1 3 ∷ col 1 4 ∷ []

select_rent_means : Selects book_schema SELECT_RENT.now (first_query 8 of_copy shown_rent ((col 1 2, descending) ∷ []))
unfolding understood everything
select_rent_means = record { names = _; is = refl; plain = (refl, refl); unlisted = refl }

abbrev rent_columns : RentRow → sql.Row
rent_columns row = number_value row.number ∷ number_value row.rental ∷ number_value row.customer ∷ []

same_rent : (a b : RentRow) → rent_columns a ≡ rent_columns b → a ≡ b
same_rent a b e =
    let n : number_value a.number ≡ number_value b.number = cc in
    let r : number_value a.rental ≡ number_value b.rental = cc in
    let c : number_value a.customer ≡ number_value b.customer = cc in
    let number : a.number ≡ b.number = same_number a.number b.number n in
    let rental : a.rental ≡ b.rental = same_number a.rental b.rental r in
    let customer : a.customer ≡ b.customer = same_number a.customer b.customer c in
    λ i. record { number = number i; rental = rental i; customer = customer i }

-- one row at most
pub take_one : {X : Type 0} (o : Option X) → take 1 (option_to_list o) ≡ option_to_list o
take_one None = refl
take_one (Some x) = refl

pub list_of : {X Y : Type 0} (f : X → Y) (o : Option X) → map f (option_to_list o) ≡ option_to_list (option_map f o)
list_of f None = refl
list_of f (Some x) = refl

pub same_option : {X : Type 0} (a b : Option X) → option_to_list a ≡ option_to_list b → a ≡ b
same_option {X = X} None None e = refl
same_option {X = X} None (Some y) e = absurd (clash e)
  where
    clash : ◌≡◌ {A = List X} [] (y ∷ []) → ⊥
    clash e = cc
same_option {X = X} (Some x) None e = absurd (clash e)
  where
    clash : ◌≡◌ {A = List X} (x ∷ []) [] → ⊥
    clash e = cc
same_option {X = X} (Some x) (Some y) e = let same : x ≡ y = cc in ap (λ (z : X). Some z) same

-- the last rent that passes, as it was read
one_rent : (rents : List Rented) (p : Rented → Bool) (rows : List sql.Row) (found : Option RentRow)
    → rows ≡ map (λ (it : Rented). rent_columns (seen_rent it)) (ending (filter p rents))
    → map rent_columns (option_to_list found) ≡ take 1 rows → found ≡ option_map seen_rent (last_or None (filter p rents))
one_rent rents p rows found shown read =
    let last : Option Rented = last_or None (filter p rents) in
    let one : rows ≡ option_to_list (option_map (λ (it : Rented). rent_columns (seen_rent it)) last) =
    shown ∙ ap (map (λ (it : Rented). rent_columns (seen_rent it))) (ending_is (filter p rents))
    ∙ list_of (λ (it : Rented). rent_columns (seen_rent it)) last in
    let short : take 1 rows ≡ map (λ (it : Rented). rent_columns (seen_rent it)) (option_to_list last) =
    ap (take 1) one ∙ take_one (option_map (λ (it : Rented). rent_columns (seen_rent it)) last)
    ∙ sym (list_of (λ (it : Rented). rent_columns (seen_rent it)) last) in
    same_option found (option_map seen_rent last)
    (unmapped rent_columns same_rent _ _
    (read ∙ short ∙ sym (map-map rent_columns seen_rent (option_to_list last)) ∙ ap (map rent_columns) (list_of seen_rent last)))

-- A text that shows the last rent with a number in one column: it tests the column, and shows the others.
module _ (text : List ℕ) (tests : List Term)
    (means : Selects book_schema text (first_query 8 tests shown_rent ((col 1 2, descending) ∷ []))) (n place : ℕ) (p : Rented → Bool)
    (tested : (it : Rented) → (number_test place n (rented_columns it) && true) ≡ p it)
    (only : (r : sql.Row)
    → cond (list_all (holds ((number_value n ∷ []) ∷ r ∷ [])) tests)
    (output (plain_query 8 tests shown_rent ((col 1 2, descending) ∷ [])) ((number_value n ∷ []) ∷ r ∷ []) ∷ []) []
    ≡ cond (number_test place n (columns_of 4 r) && true)
    ((column (columns_of 4 r) 1 ∷ [], column (columns_of 4 r) 1 ∷ column (columns_of 4 r) 2 ∷ column (columns_of 4 r) 3 ∷ []) ∷ []) []) where
  last_shown : (old new : State) (rows : List sql.Row) (found : Option RentRow)
      → Shown text (number_value n ∷ []) old new rows → map rent_columns (option_to_list found) ≡ take 1 rows
      → Finds (λ journal.
      (commands : List Command) → Say journal.entries commands
      → found ≡ option_map seen_rent (last_or None (filter p (rented_in (entries_in commands journal)))))
      old new
  last_shown old new rows found h read journal stood = (
    still_holds book_schema StandsFor text (number_value n ∷ []) old new means.plain rows h journal stood,
    λ commands say.
        let rents : List Rented = rented_in (entries_in commands journal) in
        let shown : rows ≡ map (λ (it : Rented). rent_columns (seen_rent it)) (ending (filter p rents)) =
        projects_last book_schema text 8 4 tests shown_rent 1 means
        (number_value n ∷ []) old new rows stood.schema_is h rented_columns rents (stood.stands.rented commands say) refl
        (λ vs. number_test place n vs && true) (λ vs. column vs 1 ∷ column vs 2 ∷ column vs 3 ∷ []) p tested only (λ (it : Rented). it.number) (λ it. refl)
        (ascending-filter _ p rents (rents_ascend 1 (entries_in commands journal))) in
        one_rent rents p rows found shown read,
  )

pub reads_rent : (copy : ℕ) (old new : State) (rows : List sql.Row) (found : Option RentRow) → Shown SELECT_RENT.now (number_value copy ∷ []) old new rows
    → map rent_columns (option_to_list found) ≡ take 1 rows
    → Finds (λ journal.
    (commands : List Command) → Say journal.entries commands → found ≡ option_map seen_rent (last_rent copy (rented_in (entries_in commands journal))))
    old new
reads_rent copy = last_shown SELECT_RENT.now of_copy select_rent_means copy 0 (is_of_copy copy) (λ it. one_tested _ (number_tested it.copy copy)) (λ r. refl)

-- ---- the last that names a rental

abbrev of_rental : List Term
of_rental = op2 (Compare Eq Binary) (col 1 3) (col 0 0) ∷ []

select_renter_means : Selects book_schema SELECT_RENTER.now (first_query 8 of_rental shown_rent ((col 1 2, descending) ∷ []))
unfolding understood everything
select_renter_means = record { names = _; is = refl; plain = (refl, refl); unlisted = refl }

pub reads_renter : (rental : ℕ) (old new : State) (rows : List sql.Row) (found : Option RentRow)
    → Shown SELECT_RENTER.now (number_value rental ∷ []) old new rows
    → map rent_columns (option_to_list found) ≡ take 1 rows
    → Finds (λ journal.
    (commands : List Command) → Say journal.entries commands
    → found ≡ option_map seen_rent (rent_named rental (rented_in (entries_in commands journal))))
    old new
reads_renter rental =
    last_shown SELECT_RENTER.now of_rental select_renter_means rental 2 (is_named rental) (λ it. one_tested _ (number_tested it.rental rental)) (λ r. refl)

-- ---- returns after a number

abbrev of_return : List Term
of_return = op2 (Compare Eq Binary) (col 1 1) (col 0 0) ∷ op2 (Compare Gt Binary) (col 1 2) (col 0 1) ∷ []

select_return_means : Selects book_schema SELECT_RETURN.now (plain_query 10 of_return (col 1 2 ∷ []) [])
unfolding understood everything
select_return_means = record { names = _; is = refl; plain = (refl, refl); unlisted = refl }

some_there : {X : Type 0} (p : X → Bool) (xs : List X) {Y : Type 0} (ys : List Y) → length ys ≡ length (filter p xs)
    → (is_none : Bool) → (is_none ≡ true → ys ≡ []) → (ys ≡ [] → is_none ≡ true) → not is_none ≡ list_any p xs
some_there {X = X} p xs {Y = Y} ys long is_none none empty = elim (cases_Bool (list_any p xs)) [
  | inl some ↦ elim (cases_Bool is_none) [
    | inl yes_none ↦ absurd (has xs some (omega (arith, sym long ∙ ap length (none yes_none))))
    | inr filled ↦ ap not filled ∙ sym some
  ]
  | inr nobody ↦ ap not (empty (no_item ys (long ∙ ap length (lacks xs nobody)))) ∙ sym nobody
]
  where
    has : (xs : List X) → list_any p xs ≡ true → length (filter p xs) ≡ 0 → ⊥
    has [] some zero_long = absurd (let e = some in cc)
    has (x ∷ xs) some zero_long = elim (cases_Bool (p x)) [
      | inl is ↦ absurd (omega (arith, let e : length (x ∷ filter p xs) ≡ 0 = rw is at zero_long in e))
      | inr isnt ↦ has xs (rw isnt at some) (rw isnt at zero_long)
    ]

    lacks : (xs : List X) → list_any p xs ≡ false → filter p xs ≡ []
    lacks [] nobody = refl
    lacks (x ∷ xs) nobody = elim (cases_Bool (p x)) [
      | inl is ↦ absurd (let e : true ≡ false = rw is at nobody in cc)
      | inr isnt ↦ rw isnt (lacks xs (rw isnt at nobody))
    ]

    no_item : (ys : List Y) → length ys ≡ 0 → ys ≡ []
    no_item [] e = refl
    no_item (y ∷ ys) e = absurd (omega (arith, e))

empty_if : {Y : Type 0} (ys : List Y) → (length ys == 0) ≡ true → ys ≡ []
empty_if [] is = refl
empty_if (y ∷ ys) is = absurd (let some = same_if (length (y ∷ ys)) 0 is in omega (arith, some))

pub reads_return : (rental n : ℕ) (old new : State) (rows : List sql.Row) (some : Bool)
    → some ≡ not (length rows == 0) → Shown SELECT_RETURN.now (number_value rental ∷ number_value n ∷ []) old new rows
    → Finds
    (λ journal. (commands : List Command) → Say journal.entries commands → some ≡ is_returned_after rental n (returned_in (entries_in commands journal)))
    old new
reads_return rental n old new rows some is h journal holds = (
  still_holds book_schema StandsFor SELECT_RETURN.now (number_value rental ∷ number_value n ∷ []) old new select_return_means.plain rows h journal holds,
  λ commands say.
      let returns : List Returned = returned_in (entries_in commands journal) in
      let p : Returned → Bool = λ it. it.rental == rental && nat_lt n it.number in
      is ∙ some_there p returns rows
      (projects_count book_schema SELECT_RETURN.now 10 2 of_return (col 1 2 ∷ []) select_return_means
      (number_value rental ∷ number_value n ∷ []) old new rows holds.schema_is h returned_columns returns
      (holds.stands.returned commands say) refl (λ vs. number_test 0 rental vs && (more_test 1 n vs && true))
      (λ vs. column vs 1 ∷ []) p (λ it. two_tested _ _ (number_tested it.rental rental) (more_tested it.number n)) (λ r. refl))
      (length rows == 0) (empty_if rows) (λ none. ap (λ (l : List sql.Row). length l == 0) none),
)
