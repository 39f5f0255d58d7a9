use Rattle.std.proofs.Common.{Some, refl, sym, ap}
use Rattle.till_shows.specs.Lines.{Table}
use Rattle.till_shows.proofs.FoundLemmas.{handed_on}
use Rattle.till_shows.proofs.lists.add_row.Goals as goal

pub returns-in_err-row-clause-other : goal.returns-in_err-row-clause-other
returns-in_err-row-clause-other c = handed_on _ _ c.from_residual.ensures.1 (λ e. rw (c.in_err-row.ensures.other e) refl)

pub returns-clause-shown : goal.returns-clause-shown
returns-clause-shown c = rw c.in_ok-row.ensures.shown (ap (λ (t : Table). Some t) (sym c.in_ok-add.ensures.added))
