use Rattle.sql_rows.proofs.Common.{◌∙◌, sym, subst, IfOk, state, HasCleanDisk}
use Rattle.till_book.specs.Ends.{IsReadAfter}
use Rattle.till_book.specs.declared.lists.BookRows.{BookRows}
use Rattle.till_book.specs.Journal.{Journal}
use Rattle.till_book.specs.Steps.{Rests, Stays}
use Rattle.till_book.proofs.Resting.{finds_after, stays_after}
use Rattle.till_book.proofs.steps.read_after.Goals as goal

pub returns-clause-found : goal.returns-clause-found
returns-clause-found g c =
    let says : BookRows → Journal → Type 0 = λ it. IsReadAfter c.args.number it in
    let same = sym (c.conn-1.given.1 (sym (c.rows_after-found.ensures.inside.same_reference ∙ c.transaction-tx.ensures.same_reference))) in
    subst (λ h.
    HasCleanDisk (state g.S.Store h)
    → IfOk c.rows_after-found.result
    (λ it. (journal : Journal) → Rests (state g.S.Store c.args.conn.now) journal → Rests (state g.S.Store h) journal × says it journal))
    same
    (finds_after g.S.Store c.args.conn.now c.rollback.new.self.0 c.transaction-tx.ensures.begun c.rows_after-found.ensures.inside
    c.rollback.ensures.undone c.rollback.ensures.survives says c.rows_after-found.ensures.says)

pub returns-clause-stays : goal.returns-clause-stays
returns-clause-stays g c =
    let same = sym (c.conn-1.given.1 (sym (c.rows_after-found.ensures.inside.same_reference ∙ c.transaction-tx.ensures.same_reference))) in
    subst (λ h. HasCleanDisk (state g.S.Store h) → Stays (state g.S.Store c.args.conn.now) (state g.S.Store h)) same
    (stays_after g.S.Store c.args.conn.now c.rollback.new.self.0 c.transaction-tx.ensures.begun
    c.rows_after-found.ensures.inside c.rollback.ensures.undone c.rollback.ensures.survives)
