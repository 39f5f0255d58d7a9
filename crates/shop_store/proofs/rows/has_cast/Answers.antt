use Rattle.shop_schema.proofs.Common.{length, not, list_any, Binary, Term, op2, Compare, Eq, State, Cast, cast_columns}
use Rattle.sqlite_value.specs.Order as sql
use Rattle.shop_store.specs.declared.rows.TheConstants.{SELECT_CAST}
use Rattle.shop_store.proofs.Common.{◌≡◌, ◌==◌, ◌&&◌, ℕ, List, [], ◌∷◌, true, refl, everything, understood, Shown, col, column, number_value, number_test}
use Rattle.shop_store.proofs.Common.{number_tested, two_tested, Reads, reads_any, tells}
use Rattle.shop_store.proofs.rows.has_cast.Goals as goal

abbrev of_cast : List Term
of_cast = op2 (Compare Eq Binary) (col 1 1) (col 0 0) ∷ op2 (Compare Eq Binary) (col 1 2) (col 0 1) ∷ []

reads : (old new : State) (film actor : ℕ) (rows : List sql.Row) → Shown SELECT_CAST.now (number_value film ∷ number_value actor ∷ []) old new rows
    → Reads old new (λ books. not (length rows == 0) ≡ list_any (λ (it : Cast). it.film == film && it.actor == actor) books.catalogue.casts)
unfolding understood everything
reads old new film actor =
    reads_any SELECT_CAST.now 16 2 of_cast (col 1 1 ∷ []) (record { names = _; is = refl; plain = (refl, refl); unlisted = refl })
    (λ books. cast_columns) (λ books. books.catalogue.casts) (λ books trees s. s.casts)
    (number_value film ∷ number_value actor ∷ []) (λ vs. number_test 0 film vs && (number_test 1 actor vs && true))
    (λ vs. column vs 0 ∷ []) (λ it. it.film == film && it.actor == actor)
    (λ books it. two_tested _ _ (number_tested it.film film) (number_tested it.actor actor)) (λ r. refl) old new

pub returns : goal.returns
returns g c =
    tells _ _ (rw (c.to_sql.ensures, c.get.ensures.value, c.to_sql-2.ensures, c.get-2.ensures.value) at c.shows_row.ensures.does)
    (reads _ _ c.args.film c.args.actor)
