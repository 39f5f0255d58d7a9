use Rattle.std.proofs.Common.{◌≡◌, ◌∙◌, option_map, List, ap, subst}
use Rattle.shop_views.specs.Consignments.{Listed, seen_listed}
use Rattle.consign_store.specs.Listed.{ListLine, shown_line}
use Rattle.consign_store.specs.declared.lists.ListKind.{ListKind}
use Rattle.consign_store.proofs.ListLines.{taken, Takes}
use Rattle.consign_store.proofs.lists.ConsignmentPageTakesRows.take.Goals as goal

pub returns-clause-taken : goal.returns-clause-taken
returns-clause-taken c first given so_far =
    let was = option_map seen_listed c.take-it.result in
    let old = c.args.self.now.page in
    let new = c.next.new.page in
    let now = seen_listed c.in_ok-next.field-0 in
    let step : (line : ListLine) (done : List Listed) → c.args.row.now ≡ shown_line line → Takes first.kind old new was now line done =
    λ line done shown.
    subst (λ (kind : ListKind). Takes kind old new was now line done) so_far.0 (c.in_ok-next.ensures line done (c.in-Ok.ensures.ok ∙ shown)) in (
      so_far.0,
      taken first.kind old new (option_map seen_listed c.args.self.now.consignment) was now given c.args.row.now
          (ap (option_map seen_listed) c.take-it.ensures.value) step so_far.1,
    )
