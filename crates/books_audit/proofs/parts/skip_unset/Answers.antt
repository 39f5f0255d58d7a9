use Rattle.std.proofs.Common.{[], ◌∷◌, false, refl, ◌∙◌}
use Rattle.books_audit.proofs.parts.skip_unset.Goals as goal

pub returns-then-first-eq0-clause-found : goal.returns-then-first-eq0-clause-found
returns-then-first-eq0-clause-found c = (0 ∷ [], (false, refl, refl), c.in_ok-first.ensures.cases.0 ∙ (λ i. c.if-first-eq0.true i ∷ c.in_ok-first.rest.now))
