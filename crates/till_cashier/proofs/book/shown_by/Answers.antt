use Rattle.std.proofs.Common.{subst}
use Rattle.shop_types.specs.Seen.{seen_command}
use Rattle.till_client.specs.Sealing.{IsUnsealed}
use Rattle.till_client.specs.declared.sealed.NotSealed.{NotSealed}
use Rattle.till_cashier.proofs.LastMoment.{moment_said}
use Rattle.till_cashier.proofs.Marks.{key_said}
use Rattle.till_cashier.proofs.book.shown_by.Goals as goal

pub returns-in-Ok-clause-marked : goal.returns-in-Ok-clause-marked
returns-in-Ok-clause-marked c command says =
    key_said c.args.mark.now c.args.request.now (seen_command c.in-Ok.command) command c.is_marked.result c.in-Ok.ensures.ok says c.is_marked.ensures

pub returns-in-Ok-clause-moment : goal.returns-in-Ok-clause-moment
returns-in-Ok-clause-moment c command says =
    moment_said c.args.request.now (seen_command c.in-Ok.command) command c.in-Ok.ensures.ok says

pub returns-in-Err-Other-clause-moment : goal.returns-in-Err-Other-clause-moment
returns-in-Err-Other-clause-moment c command says =
    absurd
    (subst (λ (fault : NotSealed). IsUnsealed fault c.args.request.now says.0) c.in-Err-Other.field-0-is (c.in-Err-Other.ensures.err says.0) command says.1)

pub returns-in-Err-Other-clause-marked : goal.returns-in-Err-Other-clause-marked
returns-in-Err-Other-clause-marked c command says =
    absurd
    (subst (λ (fault : NotSealed). IsUnsealed fault c.args.request.now says.0) c.in-Err-Other.field-0-is (c.in-Err-Other.ensures.err says.0) command says.1)
