use Rattle.till_and_server.proofs.Extending.{stays}
use Rattle.till_and_server.proofs.laws.extended_books_stay_recorded.Goals as goal

pub returns : goal.returns
returns g c = stays (g.V.Server.opens c.args.server.now) g.V.Reader.Read.remaining g.V.Writer.Write.contents
