use Rattle.sql_rows.proofs.Common.{◌∙◌, sym, subst, IfOk, state, HasCleanDisk}
use Rattle.till_book.specs.Journal.{Journal}
use Rattle.till_book.specs.Read.{IsReadOf}
use Rattle.till_book.specs.Steps.{Rests, Stays}
use Rattle.till_book.proofs.Resting.{finds_after, stays_after}
use Rattle.till_book.proofs.steps.read_book.Goals as goal

pub returns-clause-read : goal.returns-clause-read
returns-clause-read g c =
    let says = IsReadOf in
    let same = sym (c.conn-1.given.1 (sym (c.all_rows-rows.ensures.inside.same_reference ∙ c.transaction-tx.ensures.same_reference))) in
    subst (λ h.
    HasCleanDisk (state g.S.Store h)
    → IfOk c.all_rows-rows.result
    (λ it. (journal : Journal) → Rests (state g.S.Store c.args.conn.now) journal → Rests (state g.S.Store h) journal × says it journal))
    same
    (finds_after g.S.Store c.args.conn.now c.rollback.new.self.0 c.transaction-tx.ensures.begun c.all_rows-rows.ensures.inside
    c.rollback.ensures.undone c.rollback.ensures.survives says c.all_rows-rows.ensures.found)

pub returns-clause-stays : goal.returns-clause-stays
returns-clause-stays g c =
    let same = sym (c.conn-1.given.1 (sym (c.all_rows-rows.ensures.inside.same_reference ∙ c.transaction-tx.ensures.same_reference))) in
    subst (λ h. HasCleanDisk (state g.S.Store h) → Stays (state g.S.Store c.args.conn.now) (state g.S.Store h)) same
    (stays_after g.S.Store c.args.conn.now c.rollback.new.self.0 c.transaction-tx.ensures.begun
    c.all_rows-rows.ensures.inside c.rollback.ensures.undone c.rollback.ensures.survives)
