use Rattle.sql_rows.proofs.Common.{◌≡◌, ◌≢◌, List, ℕ, arith, subst, IfOk-weaker}
use Rattle.shop_types.specs.Seen.{seen_command}
use Rattle.shop_model.specs.Values.{Command}
use Rattle.till_client.specs.Sealing.{SaysCommand, IsUnsealed}
use Rattle.till_client.specs.declared.sealed.NotSealed.{NotSealed}
use Rattle.till_book.proofs.Marking.{mark_at, no_mark}
use Rattle.till_book.proofs.marks.settled_mark.Goals as goal

pub returns-in-Ok : goal.returns-in-Ok
returns-in-Ok c =
    let done : c.args.status ≡ 200 = omega arith in
    IfOk-weaker c.accepted_mark.result _ _
    (λ mark told. mark_at c.args.request.now c.args.status c.args.body.now (seen_command c.in-Ok.command) mark done c.in-Ok.ensures.ok told)
    c.accepted_mark.ensures

pub returns-in-Err-Other : goal.returns-in-Err-Other
returns-in-Err-Other c =
    no_mark c.args.request.now (record { status = c.args.status; body = c.args.body.now }) (λ command says.
    let unsealed : (it : Command) → ¬ (SaysCommand c.args.request.now says.0 it) =
    subst (λ (fault : NotSealed). IsUnsealed fault c.args.request.now says.0) c.in-Err-Other.field-0-is (c.in-Err-Other.ensures.err says.0) in
    unsealed command says.1)
