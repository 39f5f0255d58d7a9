use Rattle.shop_model.specs.Rows.{numbered}
use Rattle.view_texts.proofs.CategoryRows.{categories_ask}
use Rattle.view_texts.proofs.CategoryRows.{shows_categories}
use Rattle.view_texts.proofs.CategoryLines.{names_none}
use Rattle.view_texts.proofs.categories.categories.Goals as goal

pub each_row-requires : goal.each_row-requires
each_row-requires g c = categories_ask

pub returns-clause-sums : goal.returns-clause-sums
returns-clause-sums g c clean books holds =
    let told = c.in_ok-each_row.ensures.took clean in
    let rows = shows_categories _ _ told.0 books holds.schema_is told.1 holds.stands in
    told.2 (names_none _ c.new.ensures.items) (numbered books.catalogue.categories) rows
