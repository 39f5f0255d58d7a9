use Rattle.std.specs.Io.KnownBytes.{Consumes}
use Rattle.till_client.proofs.exchange.read_answer.Given as goal

abbrev pub invariant-reads : goal.invariant-reads
invariant-reads g l = Consumes (g.R.Read.remaining l.fn.reader) (g.R.Read.remaining l.reader) l.inbox.items
