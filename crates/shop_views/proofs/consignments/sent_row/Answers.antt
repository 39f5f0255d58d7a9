use Rattle.shop_views.specs.Consignments.{seen_listed, sent_data, sent_text}
use Rattle.shop_views.proofs.RowTexts.{row_written, sent_is, sent_no_float}
use Rattle.shop_views.proofs.consignments.sent_row.Goals as goal

pub returns : goal.returns
returns c = let it = seen_listed c.args.it.now in row_written sent_data sent_text it (sent_is it) (sent_no_float it) c.sent_value.result c.sent_value.ensures
