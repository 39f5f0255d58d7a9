use Rattle.view_texts.specs.Sales.{store_with}
use Rattle.view_texts.proofs.StoreJoin.{store_asks}
use Rattle.view_texts.proofs.StoreJoin.{shows_store}
use Rattle.view_texts.proofs.SalesLines.{found_is, not_found}
use Rattle.view_texts.proofs.stores.find_store.Goals as goal

pub each_row-requires : goal.each_row-requires
each_row-requires g c = store_asks

pub returns-clause-row : goal.returns-clause-row
returns-clause-row g c clean books holds =
    let told = c.in_ok-each_row.ensures.took clean in
    let b = c.args.branch in
    let catalogue = books.catalogue in
    let shown = rw (c.to_sql.ensures, c.get.ensures.value) at told.1 in
    let rows = shows_store _ _ b told.0 books holds.schema_is shown holds.stands in
    found_is (store_with catalogue 0) b catalogue told.0 _ rows (told.2 (λ known. not_found (λ it. store_with known 0 it.1) known) catalogue)
