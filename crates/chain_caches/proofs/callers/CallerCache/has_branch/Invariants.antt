use Rattle.std.specs.Prelude.{⊤}
use Rattle.chain_caches.proofs.callers.CallerCache.has_branch.Given as goal

abbrev pub invariant-loop-caller : goal.invariant-loop-caller
invariant-loop-caller l = ⊤
