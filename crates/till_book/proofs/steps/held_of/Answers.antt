use Rattle.sql_rows.proofs.Common.{◌∙◌, sym, subst, IfOk, state, HasCleanDisk}
use Rattle.std.specs.Prelude.{Option}
use Rattle.till_book.specs.Register.{IsHeld}
use Rattle.till_book.specs.declared.rents.HeldRental.{HeldRental}
use Rattle.till_book.specs.Journal.{Journal}
use Rattle.till_book.specs.Steps.{Rests, Stays}
use Rattle.till_book.proofs.Resting.{finds_after, stays_after}
use Rattle.till_book.proofs.steps.held_of.Goals as goal

pub returns-clause-found : goal.returns-clause-found
returns-clause-found g c =
    let says : Option HeldRental → Journal → Type 0 = λ it. IsHeld c.args.copy it in
    let same = sym (c.conn-1.given.1 (sym (c.held_at-found.ensures.inside.same_reference ∙ c.transaction-tx.ensures.same_reference))) in
    subst (λ h.
    HasCleanDisk (state g.S.Store h)
    → IfOk c.held_at-found.result
    (λ it. (journal : Journal) → Rests (state g.S.Store c.args.conn.now) journal → Rests (state g.S.Store h) journal × says it journal))
    same
    (finds_after g.S.Store c.args.conn.now c.rollback.new.self.0 c.transaction-tx.ensures.begun c.held_at-found.ensures.inside
    c.rollback.ensures.undone c.rollback.ensures.survives says c.held_at-found.ensures.says)

pub returns-clause-stays : goal.returns-clause-stays
returns-clause-stays g c =
    let same = sym (c.conn-1.given.1 (sym (c.held_at-found.ensures.inside.same_reference ∙ c.transaction-tx.ensures.same_reference))) in
    subst (λ h. HasCleanDisk (state g.S.Store h) → Stays (state g.S.Store c.args.conn.now) (state g.S.Store h)) same
    (stays_after g.S.Store c.args.conn.now c.rollback.new.self.0 c.transaction-tx.ensures.begun
    c.held_at-found.ensures.inside c.rollback.ensures.undone c.rollback.ensures.survives)
