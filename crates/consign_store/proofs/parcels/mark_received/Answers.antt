use Rattle.shop_schema.proofs.Common.{and_last, some_calls}
use Rattle.consign_store.proofs.ParcelSteps.{all_states}
use Rattle.consign_store.proofs.parcels.mark_received.Goals as goal

pub returns : goal.returns
returns g c = and_last (some_calls c.in_ok-check_lines.ensures) c.set_received.ensures.inside c.set_received.ensures.says (λ said y received.
    let key = c.args.key.now in
    all_states key.source key.addressee key.number _ _ _ c.args.missing.now c.args.count said received)
