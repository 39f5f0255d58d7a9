use Rattle.till_requests.proofs.Joining.{joined}
use Rattle.till_requests.proofs.looks.get_bytes.Goals as goal

pub returns : goal.returns
returns c =
    joined c.args.token.now c.args.target.now c.in_ok-bytes.bytes.items c.push.new.bytes.items
    c.push-2.new.bytes.items c.push-3.new.bytes.items c.push-4.new.bytes.items
    c.in_ok-bytes.ensures.items c.in_ok-push.ensures c.in_ok-push-2.ensures c.in_ok-push-3.ensures c.in_ok-push-4.ensures
