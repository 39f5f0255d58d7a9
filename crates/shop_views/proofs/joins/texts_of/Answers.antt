use Rattle.shop_types.proofs.Common.{◌∙◌, ap, arith, map, string_bytes, take_all}
use Rattle.shop_views.proofs.JoinLemmas.{made_more}
use Rattle.shop_views.proofs.joins.texts_of.Goals as goal

pub loop-value-init : goal.loop-value-init
loop-value-init g c = (c.in_ok-texts.ensures.len, c.in_ok-texts.ensures.capacity, ap (map string_bytes) c.in_ok-texts.ensures.items)

pub push_reserved-requires : goal.push_reserved-requires
push_reserved-requires g c = omega (arith, c.loop-value.invariant.0, c.loop-value.invariant.1, c.loop-value-test.true)

pub loop-value-preserved : goal.loop-value-preserved
loop-value-preserved g c =
    let inv = c.loop-value.invariant in (
      omega (arith, c.push_reserved.ensures.len, inv.0),
      omega (arith, c.push_reserved.ensures.capacity, inv.1),
      made_more string_bytes g.T.Told.told c.args.values.now c.loop-value.value-index
          c.value-item.result _ _ _ c.loop-value-test.true c.value-item.is c.push_reserved.ensures.items
          c.in_ok-text.ensures inv.2,
    )

pub returns : goal.returns
returns g c = c.loop-value.invariant.2 ∙ ap (map g.T.Told.told) (take_all c.loop-value.value-index c.args.values.now c.loop-value-test.false)
