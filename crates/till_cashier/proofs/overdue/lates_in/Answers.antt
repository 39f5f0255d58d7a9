use Rattle.serde_json.specs.View.{view}
use Rattle.shop_types.proofs.Common.{is_utf8-from_IsUtf8}
use Rattle.till_cashier.proofs.Late.{body_lates}
use Rattle.till_cashier.proofs.overdue.lates_in.Goals as goal

pub returns-in-Ok : goal.returns-in-Ok
returns-in-Ok c =
    let text = is_utf8-from_IsUtf8 c.args.body.now c.in-Ok.ensures.ok.0 in
    body_lates _ c.args.body.now (view c.in-Ok.value) c.lates_at.result (rw text c.in-Ok.ensures.ok.1) c.lates_at.ensures
