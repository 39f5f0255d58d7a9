use Rattle.std.proofs.Common.{◌∙◌, sym, ap}
use Rattle.shop_types.specs.Seen.{seen_act}
use Rattle.till_cashier.specs.Whereabouts.{departure, sent_if}
use Rattle.till_cashier.proofs.stock.departure.Goals as goal

pub returns-in-Dispatch : goal.returns-in-Dispatch
returns-in-Dispatch c =
    c.sent_if.ensures ∙ ap (λ is. sent_if is c.in-Dispatch.to c.args.at) c.has_copy.ensures
    ∙ sym (ap (λ act. departure c.args.copy c.args.at (seen_act act)) c.in-Dispatch.is)
