use Rattle.serde_json.specs.View.{view}
use Rattle.shop_types.proofs.Common.{is_utf8-from_IsUtf8}
use Rattle.till_cashier.proofs.Stocked.{body_listed}
use Rattle.till_cashier.proofs.stock.is_listed.Goals as goal

pub returns-in-Ok : goal.returns-in-Ok
returns-in-Ok c =
    let text = is_utf8-from_IsUtf8 c.args.body.now c.in-Ok.ensures.ok.0 in
    body_listed c.args.copy c.args.body.now (view c.in-Ok.value) c.lists_copy.result (rw text c.in-Ok.ensures.ok.1) c.lists_copy.ensures
