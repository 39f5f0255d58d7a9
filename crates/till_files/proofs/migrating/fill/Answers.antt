use Rattle.shop_schema.proofs.Common.{◌≡◌, ◌∙◌, sym, subst, arith, state, HasCleanDisk, Survives}
use Rattle.till_files.specs.Migrations.{IsFilled, LeavesFilled}
use Rattle.till_files.proofs.Making.{rests_after, first_begun, left_filled}
use Rattle.till_files.proofs.migrating.fill.Goals as goal

pub returns-in-Ok-clause-filled : goal.returns-in-Ok-clause-filled
returns-in-Ok-clause-filled g c clean =
    let old = c.args.conn.now in
    let last = c.fill_tables.new.tx.conn.now in
    let end = c.commit.new.self.0 in
    let same : end ≡ c.conn-2-1.given.0 =
    sym (c.conn-2-1.given.1 (sym (c.fill_tables.ensures.inside.same_reference ∙ c.transaction-tx.ensures.same_reference))) in
    let clean_end : HasCleanDisk (state g.S.Store end) = subst (λ h. HasCleanDisk (state g.S.Store h)) (sym same) clean in
    let clean_last : HasCleanDisk (state g.S.Store last) = omega (arith, clean_end, c.commit.ensures.survives.clean) in
    let fills = rw c.transaction-tx.ensures.begun at (c.in_ok-fill_tables.ensures.says clean_last) in
    subst (λ h. IsFilled (state g.S.Store old) (state g.S.Store h)) same
    (λ journal holds.
    rests_after g.S.Store old last end journal g.met.S.Store.settled
    (fills journal (first_begun g.S.Store old last end journal holds)) (c.in-Ok.ensures.ok clean_end).1)

pub returns-in-Ok-clause-crash : goal.returns-in-Ok-clause-crash
returns-in-Ok-clause-crash g c =
    let old = c.args.conn.now in
    let end = c.commit.new.self.0 in
    let same : end ≡ c.conn-2-1.given.0 =
    sym (c.conn-2-1.given.1 (sym (c.fill_tables.ensures.inside.same_reference ∙ c.transaction-tx.ensures.same_reference))) in
    subst (λ h. Survives (state g.S.Store old) (state g.S.Store h) (LeavesFilled (state g.S.Store old))) same
    (left_filled g.S.Store old c.fill_tables.new.tx.conn.now end (rw c.transaction-tx.ensures.begun at c.in_ok-fill_tables.ensures.says)
    (rw c.transaction-tx.ensures.begun at c.fill_tables.ensures.inside.survives) c.commit.ensures.survives)

pub returns-in-Err-clause-crash : goal.returns-in-Err-clause-crash
returns-in-Err-clause-crash g c =
    let old = c.args.conn.now in
    let end = c.commit.new.self.0 in
    let same : end ≡ c.conn-2-1.given.0 =
    sym (c.conn-2-1.given.1 (sym (c.fill_tables.ensures.inside.same_reference ∙ c.transaction-tx.ensures.same_reference))) in
    subst (λ h. Survives (state g.S.Store old) (state g.S.Store h) (LeavesFilled (state g.S.Store old))) same
    (left_filled g.S.Store old c.fill_tables.new.tx.conn.now end (rw c.transaction-tx.ensures.begun at c.in_ok-fill_tables.ensures.says)
    (rw c.transaction-tx.ensures.begun at c.fill_tables.ensures.inside.survives) c.commit.ensures.survives)
