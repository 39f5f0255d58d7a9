use Rattle.shop_schema.proofs.Common.{at_one, inl, inr, ◌≡◌, ◌≤◌, ℕ, List, [], ◌∷◌, map, length, refl, ap, ◌∙◌, arith, option_to_list, IfSome, AllByRecursion}
use Rattle.shop_schema.proofs.Common.{State, number_value, at, Film, film_columns, IsFilm, IsShared, Reads, cols, Selects, shop_schema}
use Rattle.std.specs.Prelude.{Option, Some, None, take, option_map}
use Rattle.shop_schema.proofs.Common.{StoreFault, Failed, nat_tests}
use Rattle.sqlite_value.specs.Order as sql
use Rattle.sql_rows.specs.Causes.{IsReadyInside, MetFaults, FailsToRead}
use Rattle.sql_rows.proofs.QueryFaults.{err_then}
use Rattle.shop_schema.specs.Asked.{HoldsBooks}
use Rattle.shop_schema.specs.RowValues.{IsNumber}
use Rattle.shop_store.specs.Asked.{IsNoneOf}
use Rattle.shop_store.proofs.FindFaults.{IsSomeOf, shared_met}
use Rattle.sqlite_tied.specs.Compute.{everything}
use Rattle.sqlite.specs.Listing.{understood}
use Rattle.sqlite.specs.State.{Shown}
use Rattle.shop_schema.proofs.OneRow.{same_row}
use Rattle.shop_schema.proofs.ShopTables as table
use Rattle.shop_store.specs.declared.films.TheConstants.{SELECT_FILM}
use Rattle.shop_store.specs.SharedSeen.{seen_film_row}
use Rattle.shop_store.specs.declared.films.FilmRow.{FilmRow}
use Rattle.shop_store.proofs.Ascending.{all_at}
use Rattle.shop_store.proofs.ByNumber.{films}
use Rattle.shop_store.proofs.SharedReads.{asked, Shows, still, shows_shared}
use Rattle.shop_ledger.proofs.Doing.{does_so}
use Rattle.shop_store.proofs.films.film_row.Goals as goal

select_row_means : Selects shop_schema SELECT_FILM.now (asked films SELECT_FILM.now (cols 1 1 12))
unfolding understood everything
select_row_means = record { names = _; is = refl; plain = (refl, refl); unlisted = refl }

select_row_shows : Shows films SELECT_FILM.now (cols 1 1 12) (λ vs. vs)
unfolding understood everything
select_row_shows m r = refl

abbrev row_read : FilmRow → ℕ × Film
row_read row = (row.number, seen_film_row row)

-- a number picks one row at most
at_short : {A : Type 0} (n : ℕ) (xs : List A) → length (at n xs) ≤ 1
at_short n xs = elim (at_one n xs) [
  | inl none ↦ rw none (omega arith)
  | inr one ↦ rw one.1 (omega arith)
]

-- the row that was read is that of the film
film_of : (n : ℕ) (o : Option FilmRow) (rows : List Film) → length rows ≤ 1 → IfSome o (λ row. IsShared IsFilm (row_read row)) → AllByRecursion IsFilm rows
    → map (λ row. film_columns (row_read row)) (option_to_list o) ≡ take 1 (map (λ x. film_columns (n, x)) rows)
    → option_to_list (option_map seen_film_row o) ≡ rows
film_of n None [] few fit all is = refl
film_of n None (x ∷ []) few fit all is = cc
film_of n (Some row) [] few fit all is = cc
film_of n (Some row) (x ∷ []) few fit all is = ap (λ (it : ℕ × Film). it.1 ∷ []) (same_row table.films (row_read row) (row.number, x) fit (fit.0, all.0) cc)
film_of n o (x ∷ y ∷ rows) few fit all is = absurd (omega (arith, few))

reads : (old new : State) (n : ℕ) (rows : List sql.Row) (o : Option FilmRow) → Shown SELECT_FILM.now (number_value n ∷ []) old new rows → 1 ≤ n
    → map (λ row. film_columns (row_read row)) (option_to_list o) ≡ take 1 rows → IfSome o (λ row. IsShared IsFilm (row_read row))
    → Reads old new (λ books. option_to_list (option_map seen_film_row o) ≡ at n books.catalogue.films)
reads old new n rows o h low read fit = λ books holds held.
    let films_are = books.catalogue.films in
    let found = shows_shared films SELECT_FILM.now (cols 1 1 12) select_row_means (λ vs. vs) select_row_shows old new n rows h low books holds in (
      still films SELECT_FILM.now (cols 1 1 12) select_row_means (λ vs. vs) select_row_shows old new n rows h low books holds,
      film_of n o (at n films_are) (at_short n films_are) fit (all_at IsFilm n films_are held.values.catalogue.films.1) (read ∙ ap (take 1) found),
    )

met : (old new : State) (n : ℕ) → 1 ≤ n → IsNumber n → IsReadyInside old → HoldsBooks old → (fault : StoreFault)
    → FailsToRead (λ row e. e ≡ Failed → IsNoneOf (IsShared IsFilm) film_columns row) SELECT_FILM.now (number_value n ∷ []) old new fault
    → fault ≡ Failed → MetFaults old new
unfolding understood everything
met old new n low number =
    shared_met films SELECT_FILM.now (cols 1 1 12) select_row_means (λ vs. vs) select_row_shows (refl, refl, refl) (λ m. refl)
    IsFilm (λ books held. held.values.catalogue.films.1) (IsSomeOf (IsShared IsFilm) film_columns) old new n low
    (λ books x fits. ((n, x), (number, fits), refl))
    (λ row fault fails failed is. fails failed is.0 is.1 is.2)

pub returns-clause-does : goal.returns-clause-does
returns-clause-does g c =
    does_so c.query_one.ensures.inside (rw (c.to_sql.ensures, c.get.ensures.value) at c.query_one.ensures.shown)
    (λ o it. reads _ _ c.args.number it.0 o it.1 (omega arith) it.2 it.3)

pub returns-clause-fails : goal.returns-clause-fails
returns-clause-fails g c clean ready holds =
    let number : IsNumber c.args.number = grind (arith, nat_tests) in
    err_then c.query_one.result _ _ (rw (c.to_sql.ensures, c.get.ensures.value) at (c.query_one.ensures.told clean))
    (met _ _ c.args.number (omega arith) number ready holds)
