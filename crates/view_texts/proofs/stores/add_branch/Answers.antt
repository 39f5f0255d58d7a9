use Rattle.shop_schema.proofs.Common.{◌∙◌, sym, ap, option_map, state, same_as, same_err, same_then, was_clean}
use Rattle.shop_views.specs.Sales.{seen_store}
use Rattle.view_texts.proofs.Unchanged.{holds_still}
use Rattle.view_texts.proofs.SalesLists.{absent_added, is_there}
use Rattle.view_texts.proofs.stores.add_branch.Goals as goal

pub returns-in_default-clause-added : goal.returns-in_default-clause-added
returns-in_default-clause-added g c clean books values holds held =
    absent_added books c.args.branch c.args.page.now values (sym (ap (option_map seen_store) c.in_default.is) ∙ c.in_ok-row.ensures.row clean books holds)

pub returns-clause-added : goal.returns-clause-added
returns-clause-added g c clean books values holds held =
    let early = was_clean c.rental_sum.ensures.same clean in
    let still = holds_still (state g.S.Store c.args.conn.now) (state g.S.Store c.find_store.new.conn) books (c.in_ok-row.ensures.same.same early) holds in
    c.in_ok-add_sold.ensures books c.args.branch values
    (sym (ap (option_map seen_store) c.in-Some.is) ∙ c.in_ok-row.ensures.row early books holds) (c.in_ok-sum.ensures.sum clean books still held)

pub returns-clause-there : goal.returns-clause-there
returns-clause-there g c clean books holds =
    let early = was_clean c.rental_sum.ensures.same clean in
    is_there books c.args.branch (seen_store c.in-Some.row) (sym (ap (option_map seen_store) c.in-Some.is) ∙ c.in_ok-row.ensures.row early books holds)

pub returns-in_err-sum-clause-same : goal.returns-in_err-sum-clause-same
returns-in_err-sum-clause-same g c = same_err (same_then c.in_ok-row.ensures.same c.rental_sum.ensures.same) c.from_residual-in_err-sum.ensures.0

pub returns-in_err-add_sold-clause-same : goal.returns-in_err-add_sold-clause-same
returns-in_err-add_sold-clause-same g c = same_as (same_then c.in_ok-row.ensures.same c.in_ok-sum.ensures.same)

pub returns-clause-same : goal.returns-clause-same
returns-clause-same g c = same_as (same_then c.in_ok-row.ensures.same c.in_ok-sum.ensures.same)
