use Rattle.std.proofs.Common.{◌∙◌, List, Some, Bor, map, sym, ap}
use Rattle.std.specs.Prelude.{option_map}
use Rattle.serde_json.specs.Data.{Data}
use Rattle.serde_json.specs.View.{view}
use Rattle.serde_json.specs.declared.value.Value.{Value}
use Rattle.till_shows.specs.Bodies.{listed}
use Rattle.till_shows.proofs.ListedLemmas.{listed_of}
use Rattle.till_cashier.proofs.Late.{row_listed}
use Rattle.till_cashier.proofs.members.row_with.Goals as goal

pub returns-clause-listed : goal.returns-clause-listed
returns-clause-listed c =
    let items = c.in_ok-list.list.now.items in
    row_listed (view c.args.list.now) c.as_slice.result.now (λ (row : Bor Value). row.now) c.row_among.result
    (ap (λ (ds : List Data). Some ds) (ap (map view) c.as_slice.ensures.value ∙ sym (listed_of (map view items)))
    ∙ ap (option_map listed) c.in_ok-list.ensures) c.row_among.ensures.listed
