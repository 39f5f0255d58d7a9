use Rattle.shop_views.specs.Consignments.{seen_listed, arrival_data, arrival_text}
use Rattle.shop_views.proofs.RowTexts.{row_written, arrival_is, arrival_no_float}
use Rattle.shop_views.proofs.consignments.arrival_row.Goals as goal

pub returns : goal.returns
returns c =
    let it = seen_listed c.args.it.now in
    row_written arrival_data arrival_text it (arrival_is it) (arrival_no_float it) c.arrival_value.result c.arrival_value.ensures
