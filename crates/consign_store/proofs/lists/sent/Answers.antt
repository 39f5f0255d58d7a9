use Rattle.shop_schema.proofs.Common.{◌==◌, ◌∙◌, ap, filter, array}
use Rattle.consign_store.specs.declared.lists.ListKind.TheVariants.{Sent}
use Rattle.consign_store.proofs.ListTexts.{sent_asks, shows_sent}
use Rattle.consign_store.proofs.ListRuns.{parcels_text_is}
use Rattle.consign_store.proofs.ListLines.{list_ends}
use Rattle.consign_store.proofs.ListFaults.{list_met, sent_list}
use Rattle.consign_store.proofs.lists.sent.Goals as goal

pub each_row-requires : goal.each_row-requires
each_row-requires g c = sent_asks

pub returns-clause-text : goal.returns-clause-text
returns-clause-text g c clean books holds held =
    let told = c.in_default.ensures.took clean in
    let rows = shows_sent _ _ c.args.branch _ books holds.schema_is (rw (c.to_sql.ensures, c.get.ensures.value) at told.1) holds.stands held in
    list_ends _ _ _ _ Sent (filter (λ it. it.source == c.args.branch) books.consignments) c.empty-taker.ensures told.2 rows c.in_ok-finish.ensures
    ∙ ap array (parcels_text_is c.args.branch books.consignments held.numbers.consignments)

pub returns-in-Err-clause-fails : goal.returns-in-Err-clause-fails
returns-in-Err-clause-fails g c clean ready held =
    list_met g.S.Store _ _ _ (sent_list c.args.branch) c.empty-taker.result c.empty-taker.ensures.1 c.args.conn.now c.each_row.new.conn ready held _
    (rw (c.to_sql.ensures, c.get.ensures.value) at (c.in-Err.ensures.told clean))
