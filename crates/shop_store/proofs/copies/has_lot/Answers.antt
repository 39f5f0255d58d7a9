use Rattle.shop_schema.proofs.Common.{length, not, ◌∙◌, list_any, bytes_eq, State, text_test, text_tested, Owned, owned_by, lot_columns}
use Rattle.sqlite_value.specs.Order as sql
use Rattle.shop_model.specs.Values as model
use Rattle.shop_schema.proofs.Different.{bytes_eq_turned}
use Rattle.shop_store.specs.declared.copies.TheConstants.{SELECT_LOT}
use Rattle.shop_store.proofs.Common.{◌≡◌, ◌==◌, ◌&&◌, ℕ, List, [], ◌∷◌, true, refl, everything, understood, Shown, Text, col, column, number_value, number_test}
use Rattle.shop_store.proofs.Common.{number_tested, two_tested, Reads, of_two, reads_any, any_own, tells}
use Rattle.shop_store.proofs.copies.has_lot.Goals as goal

reads : (old new : State) (b : ℕ) (name : model.Text) (rows : List sql.Row) → Shown SELECT_LOT.now (number_value b ∷ Text name ∷ []) old new rows
    → Reads old new (λ books. not (length rows == 0) ≡ list_any (bytes_eq name) (owned_by b books.lots))
unfolding understood everything
reads old new b name rows h books holds held =
    let found =
    reads_any SELECT_LOT.now 32 2 of_two (col 1 2 ∷ []) (record { names = _; is = refl; plain = (refl, refl); unlisted = refl })
    (λ books. lot_columns) (λ books. books.lots) (λ books trees s. s.lots)
    (number_value b ∷ Text name ∷ []) (λ vs. number_test 0 b vs && (text_test 1 name vs && true))
    (λ vs. column vs 1 ∷ []) (λ row. row.owner == b && bytes_eq name row.it)
    (λ books row. two_tested _ _ (number_tested row.owner b) (text_tested row.it name ∙ bytes_eq_turned row.it name))
    (λ r. refl) old new rows h books holds held in
    (found.0, found.1 ∙ any_own (λ (row : Owned model.Text). row.owner == b) (λ row. row.it) (bytes_eq name) books.lots)

pub returns : goal.returns
returns g c =
    tells _ _ (rw (c.to_sql.ensures, c.get.ensures.value, c.to_sql-2.ensures, c.as_str.ensures.value) at c.shows_row.ensures.does)
    (reads _ _ c.args.branch c.args.lot.now)
