use Rattle.shop_schema.proofs.Common.{◌∙◌, sym, on_ok_then}
use Rattle.shop_views.specs.Sales.{seen_store}
use Rattle.view_texts.proofs.SalesLists.{unsold_added, store_added}
use Rattle.view_texts.proofs.stores.add_sold.Goals as goal

pub returns-in-Some : goal.returns-in-Some
returns-in-Some c =
    on_ok_then c.add_store.result
    (λ added books branch values there is has.
    store_added books branch c.in-Some.total (seen_store c.args.row) c.add_store.new.page values there (sym c.in-Some.is ∙ is) (added values has))
    c.add_store.ensures

pub returns-in-None : goal.returns-in-None
returns-in-None c books branch values there is = unsold_added books branch c.args.page.now values (sym c.in-None.is ∙ is)
