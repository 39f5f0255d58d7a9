use Rattle.std.proofs.Common.{◌∙◌, sym, ap, List, Result}
use Rattle.shop_types.specs.declared.refusal.BadCsv.{BadCsv}
use Rattle.shop_model.specs.Acts.{new_in}
use Rattle.branch_core.specs.declared.found.StockFound.{StockFound}
use Rattle.branch_core.specs.Agreed.{seen_stock}
use Rattle.branch_core.specs.StockLists.{copies_of}
use Rattle.branch_core.proofs.StockLemmas.{length_films}
use Rattle.branch_core.proofs.stock.new_copies.Goals as goal

pub returns-in-Ok-clause-value : goal.returns-in-Ok-clause-value
returns-in-Ok-clause-value c =
    c.copies_in.ensures ∙ ap copies_of c.as_slice.ensures.value ∙ sym (length_films c.in-Ok.rows)
    ∙ ap (λ (stock : Result (List StockFound) BadCsv). new_in (seen_stock stock)) (sym c.in-Ok.is)
