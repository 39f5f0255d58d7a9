use Rattle.shop_schema.proofs.Common.{◌==◌, ◌∙◌, ap, filter, array}
use Rattle.consign_store.specs.declared.lists.ListKind.TheVariants.{Arrivals}
use Rattle.consign_store.proofs.ListTexts.{arrivals_ask, shows_arrivals}
use Rattle.consign_store.proofs.ListRuns.{arrivals_text_is}
use Rattle.consign_store.proofs.ListLines.{list_ends}
use Rattle.consign_store.proofs.ListFaults.{list_met, arrivals_list}
use Rattle.consign_store.proofs.lists.arrivals.Goals as goal

pub each_row-requires : goal.each_row-requires
each_row-requires g c = arrivals_ask

pub returns-clause-text : goal.returns-clause-text
returns-clause-text g c clean books holds held =
    let told = c.in_default.ensures.took clean in
    let rows = shows_arrivals _ _ c.args.branch _ books holds.schema_is (rw (c.to_sql.ensures, c.get.ensures.value) at told.1) holds.stands held in
    list_ends _ _ _ _ Arrivals (filter (λ it. it.addressee == c.args.branch) books.consignments) c.empty-taker.ensures told.2 rows c.in_ok-finish.ensures
    ∙ ap array (arrivals_text_is c.args.branch books.consignments held.numbers.consignments)

pub returns-in-Err-clause-fails : goal.returns-in-Err-clause-fails
returns-in-Err-clause-fails g c clean ready held =
    list_met g.S.Store _ _ _ (arrivals_list c.args.branch) c.empty-taker.result c.empty-taker.ensures.1 c.args.conn.now c.each_row.new.conn ready held _
    (rw (c.to_sql.ensures, c.get.ensures.value) at (c.in-Err.ensures.told clean))
