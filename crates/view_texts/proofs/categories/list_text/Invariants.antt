use Rattle.shop_schema.proofs.Common.{map, take}
use Rattle.shop_model.specs.Views.{listed_category}
use Rattle.shop_views.specs.Page.{HasTexts}
use Rattle.shop_views.specs.Sales.{seen_category}
use Rattle.view_texts.proofs.categories.list_text.Given as goal

-- the rows so far are on the page
abbrev pub invariant-loop-row : goal.invariant-loop-row
invariant-loop-row l = HasTexts l.page (map listed_category (map seen_category (take l.row-index l.rows)))
