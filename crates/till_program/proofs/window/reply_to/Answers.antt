use Rattle.std.proofs.Common.{◌∙◌, map, string_bytes}
use Rattle.till_program.proofs.RelayLaws.{replied_to}
use Rattle.till_program.proofs.window.reply_to.Goals as goal

pub returns-in-Ok : goal.returns-in-Ok
returns-in-Ok g c =
    replied_to (g.D.DeskWay.replies c.args.desk.now) _ _ c.exchange.result _ (map string_bytes c.as_slice.result.now)
    (c.as_slice-in-Ok.ensures.value ∙ c.in-Ok.ensures.written) c.exchange.ensures
