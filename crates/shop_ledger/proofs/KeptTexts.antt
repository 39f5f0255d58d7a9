-- Kept commands in SQL: the commands of a branch, and the commands of head office. Head office is caller 0, which is no branch's number.
use Rattle.shop_schema.proofs.Common.{◌≡◌, ◌≤◌, ◌==◌, ◌&&◌, ℕ, List, [], ◌∷◌, ◌++◌, map, filter, length, append_assoc, Bool, true, false, Some, None, Ok, refl}
use Rattle.shop_schema.proofs.Common.{sym, ap, subst, ◌∙◌, arith, IsPermutation, ⊤, slice_get, AllByRecursion, bytes_eq, nat_tests, IsPermutation-sym}
use Rattle.shop_schema.proofs.Common.{IsPermutation-trans, IsPermutation-to_front, IsPermutation-middle, filter-append, filter_none, all-map, all_map}
use Rattle.shop_schema.proofs.Common.{all_weaker, IsPermutation-same, map-id, map_push, Blob, column, Binary, Term, col, op2, Compare, Eq, Values, Insert}
use Rattle.shop_schema.proofs.Common.{State, ExecutesInside, map-map, filter-map, filter_same, Means, HasRows, PicksOne, number_value, length-map, Selects}
use Rattle.shop_schema.proofs.Common.{plain_query, number_test, number_tested, text_test, text_tested, two_tested, projects_one, still_holds, Owned, owned_by}
use Rattle.shop_schema.proofs.Common.{Kept, OfficeKept, Books, head, shop_schema, kept_table, kept_columns, office_kept_columns, kept_rows, command_form}
use Rattle.shop_schema.proofs.Common.{office_command_form, IsHeld, IsNumber, IsKept, StandsFor, Holds, Reads, Writes, Counts, values}
use Rattle.std.proofs.lemmas.List.{append-nil}
use Rattle.sqlite.specs.declared.types.Value.TheVariants.{Text}
use Rattle.sqlite_value.specs.Order as sql
use Rattle.sqlite_tied.specs.Compute.{everything}
use Rattle.sqlite.specs.Listing.{understood}
use Rattle.sqlite.specs.State.{Shown}
use Rattle.shop_schema.proofs.Stands.{rows_of, with_rows}
use Rattle.shop_schema.proofs.Lists.{filter_twice}
use Rattle.shop_schema.proofs.FirstRows.{first_none, first_some}
use Rattle.shop_schema.proofs.Different.{different_once}
use Rattle.shop_ledger.specs.declared.kept.TheConstants.{SELECT_KEPT, INSERT_KEPT}
use Rattle.shop_ledger.specs.declared.kept.Owner.{Owner}
use Rattle.shop_ledger.specs.declared.kept.Owner.TheVariants as owner
use Rattle.shop_ledger.proofs.Puts.{puts_row}
use Rattle.shop_ledger.proofs.CountsOf.{not_office}
use Rattle.shop_ledger.specs.Seen.{stored_kept, stored_office_kept, owner_number, IsOwner, kept_under, Keeps}
use Rattle.shop_schema.specs.Trees.{kept_tree}

insert_kept_means : Means shop_schema INSERT_KEPT.now (Insert 17 (Values (values 4) 5))
unfolding understood everything
insert_kept_means = record { is = refl; plain = (refl, refl) }

-- a row that is put last, before the rows of another list
put_between : (first last : List sql.Row) (row : sql.Row) → IsPermutation ((first ++ last) ++ row ∷ []) ((first ++ row ∷ []) ++ last)
put_between first last row =
    subst (IsPermutation ((first ++ last) ++ row ∷ [])) (sym (append_assoc first (row ∷ []) last))
    (IsPermutation-trans _ _ _ (IsPermutation-to_front (first ++ last) row) (IsPermutation-sym _ _ (IsPermutation-middle first row last)))

-- whoever's it is
puts_kept : (old new : State) (caller : ℕ) (key its form its_form reply : List ℕ) (count : ℕ)
    → its ≡ key → its_form ≡ form → (change : Books → Books) (now : Books → List sql.Row)
    → ((counts : Counts) (books : Books) → ⊤ → (rows_of counts (change books) ≡ with_rows 17 (now books) (rows_of counts books))
    × IsPermutation (kept_rows books.kept books.catalogue.kept ++ (number_value caller ∷ Text its ∷ Blob its_form ∷ Text reply ∷ []) ∷ []) (now books))
    → ExecutesInside 0 INSERT_KEPT.now (number_value caller ∷ Text key ∷ Blob form ∷ Text reply ∷ []) old new (Ok count) → Writes old new (λ _. ⊤) change
puts_kept old new caller key its form its_form reply count is_key is_form change now changes h =
    puts_row 17 kept_table (record { place = refl; uncounted = refl; unstamped = refl }) refl INSERT_KEPT.now
    (values 4) insert_kept_means _ (number_value caller ∷ Text its ∷ Blob its_form ∷ Text reply ∷ []) refl refl refl (λ id. refl)
    (λ _. ⊤) change now changes old new count
    (subst (λ (row : sql.Row). ExecutesInside 0 INSERT_KEPT.now row old new (Ok count))
    (λ i. number_value caller ∷ Text (sym is_key i) ∷ Blob (sym is_form i) ∷ Text reply ∷ []) h)

pub puts_owned : (owner : Owner) (old new : State) (key form reply : List ℕ) (count : ℕ)
    → ExecutesInside 0 INSERT_KEPT.now (number_value (owner_number owner) ∷ Text key ∷ Blob form ∷ Text reply ∷ []) old new (Ok count)
    → Keeps owner key form reply old new
puts_owned owner.Office old new key form reply count h = λ command is_key is_form.
    let row : OfficeKept = record { command = command; reply = reply } in
    puts_kept old new 0 key command.key form (office_command_form command) reply count is_key is_form _
    (λ books. kept_rows books.kept (books.catalogue.kept ++ row ∷ []))
    (λ counts books given. (
      refl,
      IsPermutation-same _ _
          (append_assoc (map kept_columns books.kept) (map office_kept_columns books.catalogue.kept) _
          ∙ ap (λ l. map kept_columns books.kept ++ l) (sym (map_push office_kept_columns books.catalogue.kept row))),
    )) h
puts_owned (owner.Branch b) old new key form reply count h = λ command is_key is_form.
    let row : Owned Kept = record { owner = b; it = record { command = command; reply = reply } } in
    puts_kept old new b key command.key form (command_form command) reply count is_key is_form _
    (λ books. kept_rows (books.kept ++ row ∷ []) books.catalogue.kept)
    (λ counts books given. (
      refl,
      subst (λ (first : List sql.Row).
          IsPermutation (kept_rows books.kept books.catalogue.kept ++ kept_columns row ∷ []) (first ++ map office_kept_columns books.catalogue.kept))
          (sym (map_push kept_columns books.kept row))
          (put_between (map kept_columns books.kept) (map office_kept_columns books.catalogue.kept) (kept_columns row)),
    )) h

-- ---- reads: the rows themselves are the values that the table stands for

-- no row of head office is a branch's
none_of_office : (b : ℕ) → 1 ≤ b → (test : sql.Row → Bool) (office : List OfficeKept)
    → filter (λ vs. number_test 0 b vs && test vs) (map office_kept_columns office) ≡ []
none_of_office b low test office =
    filter_none _ _
    (all-map (λ vs. (number_test 0 b vs && test vs) ≡ false) office_kept_columns
    (λ it. ap (λ t. t && test (office_kept_columns it)) (number_tested 0 b ∙ not_office b low)) office)

-- so the rows that pass are the rows of the branch's commands that pass
kept_picked : (b : ℕ) → 1 ≤ b → (test : sql.Row → Bool) (p : Kept → Bool)
    → ((row : Owned Kept) → (number_test 0 b (kept_columns row) && test (kept_columns row)) ≡ (row.owner == b && p row.it))
    → (kept : List (Owned Kept)) (office : List OfficeKept)
    → filter (λ vs. number_test 0 b vs && test vs) (kept_rows kept office) ≡ map kept_columns (filter (λ row. row.owner == b && p row.it) kept)
kept_picked b low test p tests_are kept office =
    filter-append (λ vs. number_test 0 b vs && test vs) (map kept_columns kept) (map office_kept_columns office)
    ∙ ap (λ l. filter (λ vs. number_test 0 b vs && test vs) (map kept_columns kept) ++ l) (none_of_office b low test office)
    ∙ append-nil (filter (λ vs. number_test 0 b vs && test vs) (map kept_columns kept))
    ∙ filter-map (λ vs. number_test 0 b vs && test vs) kept_columns kept
    ∙ ap (map kept_columns)
    (filter_same (λ row. number_test 0 b (kept_columns row) && test (kept_columns row)) (λ row. row.owner == b && p row.it) tests_are kept)

-- what a branch has kept that passes
owned_picked : (b : ℕ) (p : Kept → Bool) (kept : List (Owned Kept))
    → map (λ (row : Owned Kept). row.it) (filter (λ row. row.owner == b && p row.it) kept) ≡ filter p (owned_by b kept)
owned_picked b p kept =
    ap (map (λ (row : Owned Kept). row.it)) (filter_twice (λ row. row.owner == b) (λ row. p row.it) kept)
    ∙ sym (filter-map p (λ (row : Owned Kept). row.it) (filter (λ row. row.owner == b) kept))

-- no row of a branch is head office's
none_of_branches : (test : sql.Row → Bool) (kept : List (Owned Kept)) → AllByRecursion IsKept kept
    → filter (λ vs. number_test 0 0 vs && test vs) (map kept_columns kept) ≡ []
none_of_branches test kept all =
    filter_none _ _ (all_map (λ vs. (number_test 0 0 vs && test vs) ≡ false) kept_columns kept
    (all_weaker IsKept _ (λ row is. ap (λ t. t && test (kept_columns row)) (number_tested row.owner 0 ∙ another row.owner is.0)) kept all))
  where
    another : (b : ℕ) → IsNumber b → (b == 0) ≡ false
    another b is = grind (arith, nat_tests)

-- so the rows that pass are the rows of head office's commands that pass
office_picked : (test : sql.Row → Bool) (p : OfficeKept → Bool)
    → ((it : OfficeKept) → (number_test 0 0 (office_kept_columns it) && test (office_kept_columns it)) ≡ p it)
    → (kept : List (Owned Kept)) (office : List OfficeKept) → AllByRecursion IsKept kept
    → filter (λ vs. number_test 0 0 vs && test vs) (kept_rows kept office) ≡ map office_kept_columns (filter p office)
office_picked test p tests_are kept office all =
    filter-append (λ vs. number_test 0 0 vs && test vs) (map kept_columns kept) (map office_kept_columns office)
    ∙ ap (λ (l : List sql.Row). l ++ filter (λ vs. number_test 0 0 vs && test vs) (map office_kept_columns office)) (none_of_branches test kept all)
    ∙ filter-map (λ vs. number_test 0 0 vs && test vs) office_kept_columns office
    ∙ ap (map office_kept_columns) (filter_same (λ it. number_test 0 0 (office_kept_columns it) && test (office_kept_columns it)) p tests_are office)

-- ---- one, by its key

abbrev of_key : List Term
of_key = op2 (Compare Eq Binary) (col 1 1) (col 0 0) ∷ op2 (Compare Eq Binary) (col 1 2) (col 0 1) ∷ []

select_kept_means : Selects shop_schema SELECT_KEPT.now (plain_query kept_tree of_key (col 1 3 ∷ col 1 4 ∷ []) [])
unfolding understood everything
select_kept_means = record { names = _; is = refl; plain = (refl, refl); unlisted = refl }

abbrev pair_columns : List ℕ × List ℕ → sql.Row
pair_columns it = Blob it.0 ∷ Text it.1 ∷ []

abbrev two_columns : sql.Row → sql.Row
two_columns vs = column vs 2 ∷ column vs 3 ∷ []

abbrev seen : ℕ → List ℕ → sql.Row → Bool
seen n key vs = number_test 0 n vs && (text_test 1 key vs && true)

-- what is shown of the rows that pass
picked : (owner : Owner) → IsOwner owner → (key : List ℕ) (books : Books) → IsHeld books
    → map two_columns (filter (seen (owner_number owner) key) (kept_rows books.kept books.catalogue.kept)) ≡ map pair_columns (kept_under owner key books)
picked owner.Office is key books held =
    ap (map two_columns)
    (office_picked (λ vs. text_test 1 key vs && true) has_key
    (λ it. two_tested _ _ (number_tested 0 0) (text_tested it.command.key key)) books.kept books.catalogue.kept held.values.kept)
    ∙ map-map two_columns office_kept_columns (filter has_key books.catalogue.kept)
    ∙ sym (map-map pair_columns stored_office_kept (filter has_key books.catalogue.kept))
  where
    has_key : OfficeKept → Bool
    has_key it = bytes_eq it.command.key key
picked (owner.Branch b) low key books held =
    ap (map two_columns)
    (kept_picked b low (λ vs. text_test 1 key vs && true) has_key
    (λ row. two_tested _ _ (number_tested row.owner b) (text_tested row.it.command.key key)) books.kept books.catalogue.kept)
    ∙ map-map two_columns kept_columns found
    ∙ sym (map-map stored_columns (λ (row : Owned Kept). row.it) found)
    ∙ ap (map stored_columns) (owned_picked b has_key books.kept)
    ∙ sym (map-map pair_columns stored_kept (filter has_key (owned_by b books.kept)))
  where
    has_key : Kept → Bool
    has_key it = bytes_eq it.command.key key

    stored_columns : Kept → sql.Row
    stored_columns it = pair_columns (stored_kept it)

    found : List (Owned Kept)
    found = filter (λ row. row.owner == b && has_key row.it) books.kept

-- a key is kept once
once : (owner : Owner) (key : List ℕ) (books : Books) → IsHeld books → length (kept_under owner key books) ≤ 1
once owner.Office key books held =
    subst (λ (n : ℕ). n ≤ 1) (sym (length-map stored_office_kept (filter (λ it. bytes_eq it.command.key key) books.catalogue.kept)))
    (different_once (λ (it : OfficeKept). it.command.key) key books.catalogue.kept held.office_keys)
once (owner.Branch b) key books held =
    subst (λ (n : ℕ). n ≤ 1) (sym (length-map stored_kept (filter (λ it. bytes_eq it.command.key key) (owned_by b books.kept))))
    (different_once (λ (it : Kept). it.command.key) key (owned_by b books.kept) (held.keys b))

module _ (owner : Owner) (is : IsOwner owner) (old new : State) (key : List ℕ) (rows : List sql.Row)
    (h : Shown SELECT_KEPT.now (number_value (owner_number owner) ∷ Text key ∷ []) old new rows) where
  shows_kept : (books : Books) → Holds old books → IsHeld books → rows ≡ map pair_columns (kept_under owner key books)
  shows_kept books holds held =
      projects_one shop_schema SELECT_KEPT.now 39 4 of_key (col 1 3 ∷ col 1 4 ∷ []) select_kept_means
      (number_value (owner_number owner) ∷ Text key ∷ []) old new rows holds.schema_is h
      (λ vs. vs) all (subst (HasRows 4 (old.now.trees kept_tree)) (sym (map-id all)) holds.stands.kept) refl
      (seen (owner_number owner) key) two_columns (seen (owner_number owner) key) (λ vs. refl) (λ r. refl) few
      ∙ picked owner is key books held
    where
      all : List sql.Row
      all = kept_rows books.kept books.catalogue.kept

      few : PicksOne (seen (owner_number owner) key) all
      few =
          subst (λ (n : ℕ). n ≤ 1)
          (sym (sym (length-map two_columns (filter (seen (owner_number owner) key) all))
          ∙ ap length (picked owner is key books held) ∙ length-map pair_columns (kept_under owner key books)))
          (once owner key books held)

  still : (books : Books) → Holds old books → Holds new books
  still = still_holds shop_schema StandsFor SELECT_KEPT.now (number_value (owner_number owner) ∷ Text key ∷ []) old new select_kept_means.plain rows h

  -- what the first row says of the books
  pub read_owned : (slice : List sql.Row) → slice ≡ rows
      → (None ≡ slice_get slice 0 → Reads old new (λ books. None ≡ head (kept_under owner key books)))
      × ((row : sql.Row) (form reply : List ℕ) → Some row ≡ slice_get slice 0 → column row 0 ≡ Blob form → column row 1 ≡ Text reply
      → Reads old new (λ books. Some (form, reply) ≡ head (kept_under owner key books)))
  read_owned slice same = (
    λ none books holds held. (
      still books holds,
      first_none pair_columns (λ it. it) (kept_under owner key books) rows slice (shows_kept books holds held) same none
          ∙ ap head (map-id (kept_under owner key books)),
    ),
    λ row form reply some is_form is_reply books holds held. (
      still books holds,
      first_some pair_columns (λ it. it) (kept_under owner key books) rows slice (shows_kept books holds held) same row
          (form, reply) some (λ it are. stored it row form reply are is_form is_reply)
          ∙ ap head (map-id (kept_under owner key books)),
    ),
  )
    where
      stored : (it : List ℕ × List ℕ) (row : sql.Row) (form reply : List ℕ) → pair_columns it ≡ row
          → column row 0 ≡ Blob form → column row 1 ≡ Text reply → (form, reply) ≡ it
      stored it row form reply are is_form is_reply =
          let first : Blob it.0 ≡ Blob form = ap (λ r. column r 0) are ∙ is_form in
          let second : Text it.1 ≡ Text reply = ap (λ r. column r 1) are ∙ is_reply in
          let one : form ≡ it.0 = cc in
          let other : reply ≡ it.1 = cc in
          (λ i. (one i, other i))
