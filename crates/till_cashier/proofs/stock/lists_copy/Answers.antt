use Rattle.std.proofs.Common.{◌∙◌, List, Some, map, sym, ap}
use Rattle.std.specs.Prelude.{option_map}
use Rattle.serde_json.specs.Data.{Data}
use Rattle.serde_json.specs.View.{view}
use Rattle.till_shows.specs.Bodies.{listed}
use Rattle.till_shows.proofs.ListedLemmas.{listed_of}
use Rattle.till_cashier.proofs.Stocked.{copies_listed}
use Rattle.till_cashier.proofs.stock.lists_copy.Goals as goal

pub returns : goal.returns
returns c =
    let items = map view c.in_ok-list.list.now.items in
    copies_listed c.args.copy (view c.args.value.now) (view c.in_ok-get.field-0.now) (map view c.as_slice.result.now) c.has_number.result c.in_ok-get.ensures
    (ap (λ (ds : List Data). Some ds) (ap (map view) c.as_slice.ensures.value ∙ sym (listed_of items)) ∙ ap (option_map listed) c.in_ok-list.ensures)
    c.has_number.ensures
