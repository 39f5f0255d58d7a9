use Rattle.sql_rows.proofs.Common.{◌∙◌, sym, subst, state, HasCleanDisk, Survives}
use Rattle.till_book.specs.Journal.{with_reply}
use Rattle.till_book.specs.Steps.{Comes, LeavesChanged, IsNextReply}
use Rattle.till_book.proofs.Resting.{committed, left_after}
use Rattle.till_book.proofs.steps.record.Goals as goal

pub returns-in-Ok-commit-clause-made : goal.returns-in-Ok-commit-clause-made
returns-in-Ok-commit-clause-made g c =
    let given = (IsNextReply c.args.number) in
    let change = (with_reply (record { status = c.args.status; body = c.args.body.now })) in
    let same = sym (c.conn-1.given.1 (sym (c.in-Ok.ensures.inside.same_reference ∙ c.transaction-tx.ensures.same_reference))) in
    subst (λ h. HasCleanDisk (state g.S.Store h) → Comes given change (state g.S.Store c.args.conn.now) (state g.S.Store h)) same
    (committed g.S.Store c.args.conn.now c.commit.new.self.0 given change c.transaction-tx.ensures.begun
    c.in-Ok.ensures.inside c.in-Ok.ensures.says c.commit.ensures.survives
    g.met.S.Store.settled (λ k. (c.in-Ok-commit.ensures.ok k).1))

pub returns-in-Ok-commit-clause-crash : goal.returns-in-Ok-commit-clause-crash
returns-in-Ok-commit-clause-crash g c =
    let given = (IsNextReply c.args.number) in
    let change = (with_reply (record { status = c.args.status; body = c.args.body.now })) in
    let same = sym (c.conn-1.given.1 (sym (c.in-Ok.ensures.inside.same_reference ∙ c.transaction-tx.ensures.same_reference))) in
    subst (λ h. Survives (state g.S.Store c.args.conn.now) (state g.S.Store h) (LeavesChanged given change (state g.S.Store c.args.conn.now))) same
    (left_after g.S.Store c.args.conn.now c.commit.new.self.0 given change c.transaction-tx.ensures.begun
    c.in-Ok.ensures.inside c.in-Ok.ensures.says c.commit.ensures.survives)

pub returns-in-Err-commit-clause-crash : goal.returns-in-Err-commit-clause-crash
returns-in-Err-commit-clause-crash g c =
    let given = (IsNextReply c.args.number) in
    let change = (with_reply (record { status = c.args.status; body = c.args.body.now })) in
    let same = sym (c.conn-1.given.1 (sym (c.in-Ok.ensures.inside.same_reference ∙ c.transaction-tx.ensures.same_reference))) in
    subst (λ h. Survives (state g.S.Store c.args.conn.now) (state g.S.Store h) (LeavesChanged given change (state g.S.Store c.args.conn.now))) same
    (left_after g.S.Store c.args.conn.now c.commit.new.self.0 given change c.transaction-tx.ensures.begun
    c.in-Ok.ensures.inside c.in-Ok.ensures.says c.commit.ensures.survives)
