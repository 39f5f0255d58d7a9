use Rattle.std.proofs.Common.{[], Bor, List, ℕ, refl}
use Rattle.std.proofs.KnownBytes.{Appends-nil}
use Rattle.till_cashier.proofs.Parts.{part_first, part_written, part_cut, all_written}
use Rattle.till_cashier.proofs.telling.write_parts.Goals as goal

pub loop-part-init : goal.loop-part-init
loop-part-init g c = ([], Appends-nil _, refl)

pub returns-in-Err-clause-err : goal.returns-in-Err-clause-err
returns-in-Err-clause-err g c =
    part_cut _ _ _ _ _ _ _ (part_first (λ (part : Bor (List ℕ)). part.now) c.args.parts.now c.loop-part.part-index _ c.loop-part-test.true)
    c.loop-part.invariant c.in-Err.ensures.err

pub loop-part-preserved : goal.loop-part-preserved
loop-part-preserved g c =
    part_written _ _ _ _ _ _ _ (part_first (λ (part : Bor (List ℕ)). part.now) c.args.parts.now c.loop-part.part-index _ c.loop-part-test.true)
    c.loop-part.invariant c.in-Ok.ensures.ok

pub returns-clause-ok : goal.returns-clause-ok
returns-clause-ok g c =
    all_written (λ (part : Bor (List ℕ)). part.now) c.args.parts.now c.loop-part.part-index _ _ c.loop-part-test.false c.loop-part.invariant
