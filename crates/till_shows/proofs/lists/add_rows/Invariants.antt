use Rattle.shop_types.proofs.Common.{◌≡◌, drop, map, option_map}
use Rattle.serde_json.specs.View.{view}
use Rattle.till_shows.specs.Lists.{more_rows, found_rows}
use Rattle.till_shows.proofs.lists.add_rows.Given as goal

-- the rows so far, and the rows of the objects that are left
abbrev pub invariant-loop-row : goal.invariant-loop-row
invariant-loop-row l =
    option_map (more_rows l.table) (found_rows l.parts l.part (map view (drop l.row-index l.rows)))
    ≡ option_map (more_rows l.initial.table) (found_rows l.parts l.part (map view l.rows))
