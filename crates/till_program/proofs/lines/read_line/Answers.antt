use Rattle.std.proofs.Common.{arith, map, string_bytes}
use Rattle.till_program.proofs.FrameLaws.{line_found}
use Rattle.till_program.proofs.lines.read_line.Goals as goal

pub returns-clause-found : goal.returns-clause-found
returns-clause-found c =
    line_found (λ x. map string_bytes x.items) c.texts_of.result c.args.bytes.now _
    (λ i. omega (arith, c.type_inv.bytes i)) c.in_ok-parts.ensures c.texts_of.ensures
