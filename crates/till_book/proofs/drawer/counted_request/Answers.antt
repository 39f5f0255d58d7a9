use Rattle.sql_rows.proofs.Common.{◌≡◌, ◌∙◌, ap, subst, Some}
use Rattle.shop_types.specs.Seen.{seen_command}
use Rattle.shop_model.specs.Values.{Command}
use Rattle.till_client.specs.Sealing.{SaysCommand, IsUnsealed}
use Rattle.till_client.specs.declared.sealed.NotSealed.{NotSealed}
use Rattle.till_client.proofs.SoleMessages.{one_command}
use Rattle.till_book.specs.Drawer.{counted_of}
use Rattle.till_book.proofs.drawer.counted_request.Goals as goal

pub returns-in-Ok : goal.returns-in-Ok
returns-in-Ok c command says =
    ap Some
    (c.counted_of.ensures
    ∙ ap counted_of
    (one_command c.args.request.now c.in-Ok.ensures.ok.0 says.0 (seen_command c.in-Ok.command) command c.in-Ok.ensures.ok.1 says.1))

pub returns-in-Err-Other : goal.returns-in-Err-Other
returns-in-Err-Other c command says =
    let unsealed : (it : Command) → ¬ (SaysCommand c.args.request.now says.0 it) =
    subst (λ (fault : NotSealed). IsUnsealed fault c.args.request.now says.0) c.in-Err-Other.field-0-is (c.in-Err-Other.ensures.err says.0) in
    absurd (unsealed command says.1)
