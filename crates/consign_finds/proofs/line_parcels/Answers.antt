use Rattle.shop_schema.proofs.Common.{◌∙◌, ◌++◌, ◌∷◌, [], sym, ap, map, map_more, take_all}
use Rattle.consign_finds.specs.Finds.{line_parcel}
use Rattle.consign_finds.proofs.line_parcels.Goals as goal

pub loop-row-preserved : goal.loop-row-preserved
loop-row-preserved c =
    c.in-Ok.ensures.items
    ∙ (λ j. c.loop-row.invariant j ++ line_parcel (c.row-item.is j) ∷ [])
    ∙ sym (map_more line_parcel c.args.rows.now c.loop-row.row-index c.row-item.result c.loop-row-test.true)

pub returns : goal.returns
returns c = c.loop-row.invariant ∙ ap (map line_parcel) (take_all c.loop-row.row-index c.args.rows.now c.loop-row-test.false)
