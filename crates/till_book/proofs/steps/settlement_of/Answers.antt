use Rattle.sql_rows.proofs.Common.{◌∙◌, sym, subst, IfOk, option_map, option_to_list, state, HasCleanDisk}
use Rattle.std.specs.Prelude.{◌≡◌, Option}
use Rattle.till_book.specs.Journal.{Journal, settled_of}
use Rattle.till_book.specs.declared.rows.BookReply.{BookReply}
use Rattle.till_book.specs.Seen.{seen_reply}
use Rattle.till_book.specs.Steps.{Rests, Stays}
use Rattle.till_book.proofs.Resting.{finds_after, stays_after}
use Rattle.till_book.proofs.steps.settlement_of.Goals as goal

pub returns-clause-found : goal.returns-clause-found
returns-clause-found g c =
    let says : Option BookReply → Journal → Type 0 = (λ it journal. option_to_list (option_map seen_reply it) ≡ settled_of c.args.number journal.settled) in
    let same = sym (c.conn-1.given.1 (sym (c.settled_at-found.ensures.inside.same_reference ∙ c.transaction-tx.ensures.same_reference))) in
    subst (λ h.
    HasCleanDisk (state g.S.Store h)
    → IfOk c.settled_at-found.result
    (λ it. (journal : Journal) → Rests (state g.S.Store c.args.conn.now) journal → Rests (state g.S.Store h) journal × says it journal))
    same
    (finds_after g.S.Store c.args.conn.now c.rollback.new.self.0 c.transaction-tx.ensures.begun c.settled_at-found.ensures.inside
    c.rollback.ensures.undone c.rollback.ensures.survives says c.settled_at-found.ensures.found)

pub returns-clause-stays : goal.returns-clause-stays
returns-clause-stays g c =
    let same = sym (c.conn-1.given.1 (sym (c.settled_at-found.ensures.inside.same_reference ∙ c.transaction-tx.ensures.same_reference))) in
    subst (λ h. HasCleanDisk (state g.S.Store h) → Stays (state g.S.Store c.args.conn.now) (state g.S.Store h)) same
    (stays_after g.S.Store c.args.conn.now c.rollback.new.self.0 c.transaction-tx.ensures.begun
    c.settled_at-found.ensures.inside c.rollback.ensures.undone c.rollback.ensures.survives)
