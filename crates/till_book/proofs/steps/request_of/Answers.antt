use Rattle.sql_rows.proofs.Common.{◌∙◌, sym, subst, IfOk, state, HasCleanDisk}
use Rattle.std.specs.Prelude.{◌≡◌, ◌+◌, ℕ, List, Option, slice_get}
use Rattle.till_book.specs.Journal.{Journal}
use Rattle.till_book.specs.Steps.{Rests}
use Rattle.till_book.proofs.Resting.{finds_after}
use Rattle.till_book.proofs.steps.request_of.Goals as goal

pub returns-clause-found : goal.returns-clause-found
returns-clause-found g c =
    let says : Option (List ℕ) → Journal → Type 0 = (λ it journal. (i : ℕ) → c.args.number ≡ i + 1 → it ≡ slice_get journal.entries i) in
    let same = sym (c.conn-1.given.1 (sym (c.entry_at-found.ensures.inside.same_reference ∙ c.transaction-tx.ensures.same_reference))) in
    subst (λ h.
    HasCleanDisk (state g.S.Store h)
    → IfOk c.entry_at-found.result
    (λ it. (journal : Journal) → Rests (state g.S.Store c.args.conn.now) journal → Rests (state g.S.Store h) journal × says it journal))
    same
    (finds_after g.S.Store c.args.conn.now c.rollback.new.self.0 c.transaction-tx.ensures.begun c.entry_at-found.ensures.inside
    c.rollback.ensures.undone c.rollback.ensures.survives says c.entry_at-found.ensures.says)
