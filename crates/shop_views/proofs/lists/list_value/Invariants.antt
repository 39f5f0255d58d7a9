use Rattle.std.proofs.Common.{◌≡◌, ◌≤◌, length, take, map, vec_len, vec_capacity}
use Rattle.serde_json.specs.View.{view}
use Rattle.shop_views.proofs.PageLemmas.{AreWritten}
use Rattle.shop_views.proofs.lists.list_value.Given as goal

-- the rows so far are there as values, and there is room for the rest
abbrev pub invariant-loop-row : goal.invariant-loop-row
invariant-loop-row g l =
    (vec_len l.items ≡ l.row-index) × (length l.rows ≤ vec_capacity l.items)
    × AreWritten (map g.R.ListedRow.json (take l.row-index l.rows)) (map g.R.ListedRow.written (take l.row-index l.rows)) (map view l.items.items)
