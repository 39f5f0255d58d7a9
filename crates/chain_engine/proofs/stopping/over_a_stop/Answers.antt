use Rattle.shop_schema.proofs.Common.{map, over_files, seen_reply}
use Rattle.chain_requests.specs.Chains.{event_of}
use Rattle.chain_engine.proofs.Resuming.{resumes}
use Rattle.chain_engine.proofs.stopping.over_a_stop.Goals as goal

pub returns-in_ok-behind-in-Ok : goal.returns-in_ok-behind-in-Ok
returns-in_ok-behind-in-Ok g c clean books besides at =
    resumes over_files c.args.limits c.args.chain c.replay.new.self c.in-Ok.again c.replay-in-Ok.new.self
    (map event_of c.args.first.now) (map event_of c.args.rest.now)
    (map seen_reply c.in_ok-before.before.items) (map seen_reply c.in_ok-behind-in-Ok.behind.items)
    c.requires.limits c.requires.live c.in-Ok.ensures.limits c.in-Ok.ensures.live c.in_ok-before.ensures.ran
    c.in-Ok.ensures.honest c.in-Ok.ensures.either c.in_ok-behind-in-Ok.ensures.ran
    clean books besides at
