use Rattle.shop_schema.proofs.Common.{◌∙◌, ap, filter, array, sorted_by, goes_before}
use Rattle.consign_store.specs.declared.lists.ListKind.TheVariants.{Transit}
use Rattle.consign_store.proofs.TransitTexts.{transit_asks, shows_transit, is_open, transit_are}
use Rattle.consign_store.proofs.ListLines.{list_ends}
use Rattle.consign_store.proofs.ListFaults.{list_met, transit_list}
use Rattle.consign_store.proofs.lists.transit.Goals as goal

pub each_row-requires : goal.each_row-requires
each_row-requires g c = transit_asks

pub returns-clause-text : goal.returns-clause-text
returns-clause-text g c clean books holds held =
    let told = c.in_default.ensures.took clean in
    let rows = shows_transit _ _ _ books holds.schema_is told.1 holds.stands held in
    let open_ones = sorted_by goes_before (filter is_open books.consignments) in
    list_ends _ _ _ _ Transit open_ones c.empty-taker.ensures told.2 rows c.in_ok-finish.ensures ∙ ap array (transit_are open_ones)

pub returns-in-Err-clause-fails : goal.returns-in-Err-clause-fails
returns-in-Err-clause-fails g c clean ready held =
    list_met g.S.Store _ _ _ transit_list c.empty-taker.result c.empty-taker.ensures.1
    c.args.conn.now c.each_row.new.conn ready held _ (c.in-Err.ensures.told clean)
