use Rattle.std.proofs.Common.{◌∙◌}
use Rattle.till_client.proofs.Joining.{joined}
use Rattle.till_client.proofs.requests.post_bytes.Goals as goal

pub returns : goal.returns
returns c =
    joined c.args.token.now c.args.target.now c.args.body.now c.as_bytes.result.now
    c.in_ok-bytes.bytes.items c.push.new.bytes.items c.push-2.new.bytes.items c.push-3.new.bytes.items
    c.push-4.new.bytes.items c.push-5.new.bytes.items c.push-6.new.bytes.items c.push-7.new.bytes.items
    c.in_ok-bytes.ensures.items c.in_ok-push.ensures c.in_ok-push-2.ensures c.in_ok-push-3.ensures
    c.in_ok-push-4.ensures c.in_ok-push-5.ensures c.in_ok-push-6.ensures c.in_ok-push-7.ensures
    (c.as_bytes.ensures.value ∙ c.format.ensures.text)
