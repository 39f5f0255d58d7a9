use Rattle.std.proofs.Common.{drop}
use Rattle.std.specs.List.{flat_map}
use Rattle.http_messages.proofs.WriteLemmas.{IsWritten}
use Rattle.till_cashier.proofs.telling.write_parts.Given as goal

abbrev pub invariant-loop-part : goal.invariant-loop-part
invariant-loop-part g l =
    IsWritten (g.W.Write.contents l.fn.out) (g.W.Write.contents l.out) (flat_map (λ part. part.now) l.parts)
    (flat_map (λ part. part.now) (drop l.part-index l.parts))
