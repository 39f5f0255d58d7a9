use Rattle.shop_types.proofs.Common.{subst, Request}
use Rattle.http_messages.specs.Shown.{message_of}
use Rattle.counter_routes.specs.Readings.{Reads}
use Rattle.till_client.proofs.SoleMessages.{asks_other}
use Rattle.till_client.proofs.sealed.command_in.Goals as goal

pub returns-in_default-clause-err : goal.returns-in_default-clause-err
returns-in_default-clause-err c command says = c.in_default.ensures.none says.message says.sole

pub returns-in-None-clause-err : goal.returns-in-None-clause-err
returns-in-None-clause-err c command says =
    let asked = asks_other c.args.bytes.now c.args.token.now (message_of c.in-Some.message) command c.in-Some.ensures.some says in
    c.in-None.ensures.none command (subst (λ (it : Request). Reads c.in-Ok.reading it) asked c.in-Ok.ensures.reading)
