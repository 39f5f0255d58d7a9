use Rattle.shop_views.specs.Consignments.{seen_listed, transit_data, transit_text}
use Rattle.shop_views.proofs.RowTexts.{row_written, transit_is, transit_no_float}
use Rattle.shop_views.proofs.consignments.transit_row.Goals as goal

pub returns : goal.returns
returns c =
    let it = seen_listed c.args.it.now in
    row_written transit_data transit_text it (transit_is it) (transit_no_float it) c.transit_value.result c.transit_value.ensures
