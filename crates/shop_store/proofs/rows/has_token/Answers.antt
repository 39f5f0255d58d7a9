use Rattle.shop_schema.proofs.Common.{length, not, list_any, bytes_eq, State, Branch}
use Rattle.sqlite_value.specs.Order as sql
use Rattle.shop_store.specs.declared.branches.TheConstants.{SELECT_WITH_TOKEN}
use Rattle.shop_store.proofs.Common.{◌≡◌, ◌==◌, ℕ, List, [], ◌∷◌, refl, everything, understood, Shown, Text, Reads, branches, reads_text, tells}
use Rattle.shop_store.proofs.rows.has_token.Goals as goal

reads : (old new : State) (token : List ℕ) (rows : List sql.Row) → Shown SELECT_WITH_TOKEN.now (Text token ∷ []) old new rows
    → Reads old new (λ books. not (length rows == 0) ≡ list_any (λ (it : Branch). bytes_eq it.token token) books.catalogue.branches)
unfolding understood everything
reads =
    reads_text branches SELECT_WITH_TOKEN.now 1 (record { names = _; is = refl; plain = (refl, refl); unlisted = refl })
    (λ it. it.token) (λ books it. refl) (λ n r. refl)

pub returns : goal.returns
returns g c = tells _ _ (rw (c.to_sql.ensures, c.token_text.ensures) at c.shows_row.ensures.does) (reads _ _ c.args.token.now)
