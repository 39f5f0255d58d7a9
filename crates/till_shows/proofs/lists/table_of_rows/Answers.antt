use Rattle.shop_types.proofs.Common.{◌∙◌, sym, ap, map, option_map}
use Rattle.serde_json.specs.View.{view}
use Rattle.till_shows.specs.Lines.{Table}
use Rattle.till_shows.specs.Lists.{more_rows, found_rows}
use Rattle.till_shows.proofs.FoundLemmas.{handed_on}
use Rattle.till_shows.proofs.lists.table_of_rows.Goals as goal

pub returns-in_err-add_rows-clause-other : goal.returns-in_err-add_rows-clause-other
returns-in_err-add_rows-clause-other c = handed_on _ _ c.from_residual-in_err-add_rows.ensures.1 (λ e. c.in_err-add_rows.ensures.other e)

pub returns-clause-shown : goal.returns-clause-shown
returns-clause-shown c =
    ap (λ (it : Table). option_map (more_rows it) (found_rows c.args.parts.now c.args.part.now (map view c.args.rows.now))) (sym c.in_ok-table.ensures)
    ∙ c.in_ok-add_rows.ensures.shown
