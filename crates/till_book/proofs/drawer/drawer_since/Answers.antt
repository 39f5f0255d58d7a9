use Rattle.sql_rows.proofs.Common.{◌∙◌, sym, subst, IfOk, state, HasCleanDisk}
use Rattle.till_book.specs.Drawer.{IsSince}
use Rattle.till_book.specs.declared.drawer.DrawerRows.{DrawerRows}
use Rattle.till_book.specs.Journal.{Journal}
use Rattle.till_book.specs.Steps.{Rests, Stays}
use Rattle.till_book.proofs.Resting.{finds_after, stays_after}
use Rattle.till_book.proofs.drawer.drawer_since.Goals as goal

pub returns-clause-found : goal.returns-clause-found
returns-clause-found g c =
    let says : DrawerRows → Journal → Type 0 = λ it. IsSince c.args.replies c.args.known.now it in
    let same = sym (c.conn-1.given.1 (sym (c.rows_since-found.ensures.inside.same_reference ∙ c.transaction-tx.ensures.same_reference))) in
    subst (λ h.
    HasCleanDisk (state g.S.Store h)
    → IfOk c.rows_since-found.result
    (λ it. (journal : Journal) → Rests (state g.S.Store c.args.conn.now) journal → Rests (state g.S.Store h) journal × says it journal))
    same
    (finds_after g.S.Store c.args.conn.now c.rollback.new.self.0 c.transaction-tx.ensures.begun c.rows_since-found.ensures.inside
    c.rollback.ensures.undone c.rollback.ensures.survives says c.rows_since-found.ensures.says)

pub returns-clause-stays : goal.returns-clause-stays
returns-clause-stays g c =
    let same = sym (c.conn-1.given.1 (sym (c.rows_since-found.ensures.inside.same_reference ∙ c.transaction-tx.ensures.same_reference))) in
    subst (λ h. HasCleanDisk (state g.S.Store h) → Stays (state g.S.Store c.args.conn.now) (state g.S.Store h)) same
    (stays_after g.S.Store c.args.conn.now c.rollback.new.self.0 c.transaction-tx.ensures.begun
    c.rows_since-found.ensures.inside c.rollback.ensures.undone c.rollback.ensures.survives)
