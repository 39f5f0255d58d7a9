use Rattle.till_and_server.proofs.Witnesses.{event_run}
use Rattle.till_and_server.proofs.laws.one_event_is_run.Goals as goal

pub returns : goal.returns
returns g c = event_run g.S.Store
