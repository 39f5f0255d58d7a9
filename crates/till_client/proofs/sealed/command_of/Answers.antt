use Rattle.shop_types.proofs.Common.{ap, option_map}
use Rattle.http_messages.specs.Shown.{message_of}
use Rattle.till_client.proofs.SoleMessages.{same_message, not_read, no_token, unsealed_of}
use Rattle.till_client.proofs.sealed.command_of.Goals as goal

pub returns-in_default : goal.returns-in_default
returns-in_default c = record {
  ok = tt;
  err = λ token command says. not_read c.args.bytes.now c.read_request.result c.read_request.ensures c.in_default.not-Whole says.message says.sole.whole;
}

pub returns-in_default-token-clause-err : goal.returns-in_default-token-clause-err
returns-in_default-token-clause-err c token command says =
    no_token token (message_of c.in-Whole.message) says.message
    (same_message c.args.bytes.now token (message_of c.in-Whole.message) command c.in-Whole.ensures.1 says)
    (ap (option_map (λ it. it.now)) c.in_default-token.is) says.sole.token_is

pub returns-clause-err : goal.returns-clause-err
returns-clause-err c =
    unsealed_of c.args.bytes.now c.in-Some.token.now (message_of c.in-Whole.message) c.command_in.result c.in-Whole.ensures.1
    (ap (option_map (λ it. it.now)) c.in-Some.is) c.command_in.ensures.err
