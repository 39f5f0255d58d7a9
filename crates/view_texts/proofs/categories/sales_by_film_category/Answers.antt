use Rattle.shop_schema.proofs.Common.{◌∙◌, ap, state, same_as, same_err, same_then, was_clean, map, array, sells_more, sorted_by}
use Rattle.shop_model.specs.Views.{listed_category}
use Rattle.view_texts.specs.CategorySums.{sold}
use Rattle.view_texts.proofs.CategorySales.{all_sold}
use Rattle.view_texts.proofs.Unchanged.{holds_still}
use Rattle.view_texts.proofs.categories.sales_by_film_category.Goals as goal

pub returns-clause-text : goal.returns-clause-text
returns-clause-text g c clean books holds held =
    let early = was_clean c.with_sales.ensures.same clean in
    let still = holds_still (state g.S.Store c.args.conn.now) (state g.S.Store c.categories.new.conn) books (c.in_ok-sums.ensures.same.same early) holds in
    let names = c.in_ok-sums.ensures.sums early books holds in
    let sums = c.in_ok-sums-2.ensures.sums clean books still held books.catalogue.categories names in
    c.in_ok-sums_text.ensures ∙ ap (λ rows. array (map listed_category rows)) (ap (λ l. sorted_by sells_more (sold l)) sums ∙ all_sold c.args.branch books)

pub returns-in_err-sums-2-clause-same : goal.returns-in_err-sums-2-clause-same
returns-in_err-sums-2-clause-same g c = same_err (same_then c.in_ok-sums.ensures.same c.with_sales.ensures.same) c.from_residual-in_err-sums-2.ensures.0

pub returns-in_err-sums_text-clause-same : goal.returns-in_err-sums_text-clause-same
returns-in_err-sums_text-clause-same g c = same_as (same_then c.in_ok-sums.ensures.same c.in_ok-sums-2.ensures.same)

pub returns-clause-same : goal.returns-clause-same
returns-clause-same g c = same_as (same_then c.in_ok-sums.ensures.same c.in_ok-sums-2.ensures.same)
