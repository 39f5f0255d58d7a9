use Rattle.shop_schema.proofs.Common.{map}
use Rattle.shop_model.specs.Views.{listed_store}
use Rattle.view_texts.specs.Sales.{sales_of_first}
use Rattle.view_texts.proofs.stores.sales.Goals as goal

pub returns-clause-text : goal.returns-clause-text
returns-clause-text g c clean books holds held =
    let rows = sales_of_first books books.catalogue.branches in
    c.in_ok-finish.ensures (map listed_store rows) (c.in_ok-add_branches.ensures.added clean books holds held c.new-page.ensures)
