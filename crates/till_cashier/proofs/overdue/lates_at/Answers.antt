use Rattle.std.proofs.Common.{◌∙◌, List, Some, map, sym, ap}
use Rattle.std.specs.Prelude.{option_map}
use Rattle.serde_json.specs.Data.{Data}
use Rattle.serde_json.specs.View.{view}
use Rattle.till_shows.specs.Bodies.{listed}
use Rattle.till_shows.proofs.ListedLemmas.{listed_of}
use Rattle.till_cashier.proofs.Late.{list_lates}
use Rattle.till_cashier.proofs.overdue.lates_at.Goals as goal

pub returns : goal.returns
returns c =
    let items = c.in_ok-list.list.now.items in
    list_lates _ (view c.args.value.now) (map view c.as_slice.result.now) c.lates_of.result
    (ap (λ (ds : List Data). Some ds) (ap (map view) c.as_slice.ensures.value ∙ sym (listed_of (map view items)))
    ∙ ap (option_map listed) c.in_ok-list.ensures) c.lates_of.ensures
