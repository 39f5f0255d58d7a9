use Rattle.shop_schema.proofs.Common.{map, filter, AllByRecursion, State, BookCopy, copy_columns, IsRow, IsCopy, CopyRows, Selects, shop_schema}
use Rattle.sql_rows.proofs.QueryFaults.{err_then}
use Rattle.sqlite_value.specs.Order as sql
use Rattle.shop_ledger.proofs.Rising.{which_rise}
use Rattle.shop_store.specs.declared.copies.CopyRow.{CopyRow}
use Rattle.shop_store.specs.declared.copies.TheConstants.{SELECT_COPIES_OF_FILM}
use Rattle.shop_store.specs.Seen.{seen_copy_row}
use Rattle.shop_store.proofs.Common.{◌≡◌, ◌==◌, ◌&&◌, ℕ, List, [], ◌∷◌, Bool, true, refl, everything, understood, Shown, number_value, number_test}
use Rattle.shop_store.proofs.Common.{number_tested, two_tested, Row, is_of, Reads, does_so, equals, copies, reads_sorted}
use Rattle.shop_store.proofs.BranchRows.{sorted_query}
use Rattle.shop_store.proofs.FindFaults.{FindsAll, finds_which}
use Rattle.shop_store.proofs.copies.copies_of_film.Goals as goal

abbrev is_of_film : ℕ → ℕ → Row BookCopy → Bool
is_of_film b film row = is_of b row && row.it.film == film

means : Selects shop_schema SELECT_COPIES_OF_FILM.now (sorted_query copies (equals 0 (1 ∷ 3 ∷ [])))
unfolding understood everything
means = record { names = _; is = refl; plain = (refl, refl); unlisted = refl }

abbrev film_test : ℕ → ℕ → sql.Row → Bool
film_test b film vs = number_test 0 b vs && (number_test 2 film vs && true)

reads : (old new : State) (b film : ℕ) (rows : List sql.Row) (all : List CopyRow)
    → Shown SELECT_COPIES_OF_FILM.now (number_value b ∷ number_value film ∷ []) old new rows
    → map (λ x. copy_columns (seen_copy_row x)) all ≡ rows → AllByRecursion (λ x. IsRow IsCopy (seen_copy_row x)) all
    → Reads old new (λ books. map seen_copy_row all ≡ filter (is_of_film b film) books.copies)
unfolding understood everything
reads old new b film rows all h read kinds =
    reads_sorted copies (equals 0 (1 ∷ 3 ∷ [])) SELECT_COPIES_OF_FILM.now means (number_value b ∷ number_value film ∷ [])
    (film_test b film) (is_of_film b film)
    (λ c. two_tested _ _ (number_tested c.branch b) (number_tested c.it.film film)) (λ r. refl)
    (λ books held. which_rise (λ (it : BookCopy). it.film == film) b books.copies (held.numbers.rows CopyRows b)) seen_copy_row old new rows all h read kinds

met : (b film : ℕ) → FindsAll copies SELECT_COPIES_OF_FILM.now (number_value b ∷ number_value film ∷ [])
unfolding understood everything
met b film =
    finds_which copies SELECT_COPIES_OF_FILM.now (equals 0 (1 ∷ 3 ∷ [])) means (number_value b ∷ number_value film ∷ []) b (film_test b film)
    (λ it. it.film == film) (λ c. two_tested _ _ (number_tested c.branch b) (number_tested c.it.film film)) (λ r. refl) (refl, refl, refl) refl

pub returns-clause-does : goal.returns-clause-does
returns-clause-does g c =
    does_so c.query_all.ensures.inside (rw (c.to_sql.ensures, c.get.ensures.value, c.to_sql-2.ensures, c.get-2.ensures.value) at c.query_all.ensures.shown)
    (λ all it. reads _ _ c.args.branch c.args.film it.0 all.items it.1 it.2 it.3)

pub returns-clause-fails : goal.returns-clause-fails
returns-clause-fails g c clean ready holds =
    err_then c.query_all.result _ _ (rw (c.to_sql.ensures, c.get.ensures.value, c.to_sql-2.ensures, c.get-2.ensures.value) at (c.query_all.ensures.told clean))
    (met c.args.branch c.args.film _ _ ready holds)
