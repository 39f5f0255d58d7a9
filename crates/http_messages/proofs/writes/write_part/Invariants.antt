use Rattle.std.proofs.Common.{drop}
use Rattle.http_messages.proofs.WriteLemmas.{IsWritten}
use Rattle.http_messages.proofs.writes.write_part.Given as goal

abbrev pub invariant-write : goal.invariant-write
invariant-write g l = IsWritten (g.W.Write.contents l.fn.writer) (g.W.Write.contents l.writer) (drop l.fn.at l.bytes) (drop l.at l.bytes)
