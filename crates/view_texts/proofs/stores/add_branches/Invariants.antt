use Rattle.std.proofs.Common.{[]}
use Rattle.shop_views.specs.Page.{HasTexts}
use Rattle.view_texts.proofs.Unchanged.{Looked}
use Rattle.view_texts.proofs.SalesLists.{IsListed}
use Rattle.view_texts.proofs.stores.add_branches.Given as goal

-- the branches below the number are on the page, and nothing else was done
abbrev pub invariant-branches : goal.invariant-branches
invariant-branches g l = Looked g.S.Store l.fn.conn l.conn (λ books. HasTexts l.fn.page [] → IsListed l.page l.number books)
