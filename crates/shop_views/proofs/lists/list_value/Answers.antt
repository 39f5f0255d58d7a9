use Rattle.shop_types.proofs.Common.{refl, sym, subst, arith, map, take_all, array}
use Rattle.serde_json.specs.View.{view}
use Rattle.serde_json.proofs.Views.{view-Array}
use Rattle.shop_views.specs.Lists.{list_of, IsWritten}
use Rattle.shop_views.proofs.PageLemmas.{AreWritten, one_more, all_written}
use Rattle.shop_views.proofs.RowTexts.{is_written}
use Rattle.shop_views.proofs.lists.list_value.Goals as goal

pub loop-row-init : goal.loop-row-init
loop-row-init g c = (
  c.in_ok-items.ensures.len,
  c.in_ok-items.ensures.capacity,
  subst (λ vs. AreWritten _ _ (map view vs)) (sym c.in_ok-items.ensures.items) (record { are = refl; texts_are = refl; no_float = refl }),
)

pub push_reserved-requires : goal.push_reserved-requires
push_reserved-requires g c = omega (arith, c.loop-row.invariant.0, c.loop-row.invariant.1, c.loop-row-test.true)

pub loop-row-preserved : goal.loop-row-preserved
loop-row-preserved g c =
    let inv = c.loop-row.invariant in
    let row = c.row-item.result in (
      omega (arith, c.push_reserved.ensures.len, inv.0),
      omega (arith, c.push_reserved.ensures.capacity, inv.1),
      one_more g.R.ListedRow.json g.R.ListedRow.written c.args.rows.now c.loop-row.row-index
          c.row-item.result _ _ _ c.loop-row-test.true c.row-item.is c.push_reserved.ensures.items
          (is_written _ _ _ c.in_ok-value.ensures (g.met.R.ListedRow.as_written row) (g.met.R.ListedRow.no_float row)) inv.2,
    )

pub returns : goal.returns
returns g c =
    let whole = all_written _ _ _ c.loop-row.invariant.2 in
    subst (IsWritten _ _) (sym (view-Array c.loop-row.items))
    (subst (λ l. IsWritten (list_of (map g.R.ListedRow.json l)) (array (map g.R.ListedRow.written l)) (list_of (map view c.loop-row.items.items)))
    (take_all c.loop-row.row-index c.args.rows.now c.loop-row-test.false) whole)
