use Rattle.till_and_server.proofs.Extending.{words_reach}
use Rattle.till_and_server.proofs.laws.words_reach_the_disk.Goals as goal

pub returns : goal.returns
returns g c = words_reach (g.V.Server.opens c.args.server.now) g.V.Reader.Read.remaining g.V.Writer.Write.contents
