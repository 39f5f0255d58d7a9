use Rattle.shop_views.specs.Sales.{seen_category}
use Rattle.view_texts.proofs.CategoryOrder.{IsLater}
use Rattle.view_texts.proofs.categories.place_among.Given as goal

-- the row's place in the order is not before this place
abbrev pub invariant-loop-place : goal.invariant-loop-place
invariant-loop-place l = IsLater (seen_category l.row) l.place l.rows
