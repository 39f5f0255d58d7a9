use Rattle.till_and_server.proofs.LivingOn.{lives_reach}
use Rattle.till_and_server.proofs.laws.till_over_a_stop.Goals as goal

pub returns : goal.returns
returns g c = lives_reach g.S.Store (g.V.Server.opens c.args.server.now) g.V.Reader.Read.remaining g.V.Writer.Write.contents
