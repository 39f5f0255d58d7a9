use Rattle.shop_types.proofs.Common.{◌∙◌, map, List, Some, sym, ap, option_map}
use Rattle.serde_json.specs.Data.{Data}
use Rattle.serde_json.specs.View.{view}
use Rattle.till_shows.specs.Bodies.{listed}
use Rattle.till_shows.proofs.ListedLemmas.{listed_of}
use Rattle.till_shows.proofs.bodies.rows_of.Goals as goal

pub returns-in-Some : goal.returns-in-Some
returns-in-Some c =
    ap (λ (ds : List Data). Some ds) (ap (map view) c.as_slice.ensures.value ∙ sym (listed_of (map view c.in-Some.items.now.items)))
    ∙ ap (option_map listed) c.in-Some.ensures
