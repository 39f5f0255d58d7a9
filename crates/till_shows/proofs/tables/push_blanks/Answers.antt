use Rattle.std.proofs.Common.{◌∙◌, ◌∷◌, ◌++◌, [], ℕ, List, ap, arith}
use Rattle.till_shows.proofs.TableLemmas.{blanks_more}
use Rattle.till_shows.proofs.tables.push_blanks.Goals as goal

pub loop-preserved : goal.loop-preserved
loop-preserved c = (
  omega (arith, c.loop-test.true),
  c.in_ok-push_str.ensures.bytes ∙ ap (λ (l : List ℕ). l ++ 32 ∷ []) c.loop.invariant.1 ∙ blanks_more _ c.loop.counter,
)
