use Rattle.shop_schema.proofs.Common.{◌≡◌, ◌∙◌, sym, subst, arith, state, HasCleanDisk, Survives, crash_new, LeavesNewFirst, IsNewFirst, first_books}
use Rattle.shop_schema.proofs.FirstTexts.{new_first}
use Rattle.shop_schema.proofs.first.create_first.Goals as goal

pub returns-in-Err-clause-crash : goal.returns-in-Err-clause-crash
returns-in-Err-clause-crash g c =
    let old = c.args.conn.now in
    let books = first_books c.args.office.now in
    let last = c.fill_first.new.tx.conn.now in
    let end = c.commit.new.self.0 in
    let same : end ≡ c.conn-2-1.given.0 = sym (c.conn-2-1.given.1 (sym (c.fill_first.ensures.same_reference ∙ c.transaction-tx.ensures.same_reference))) in
    let inside : HasCleanDisk (state g.S.Store last) → LeavesNewFirst (state g.S.Store old) books (state g.S.Store last).now.trees =
    λ clean none. (c.in_ok-fill_first.ensures.holds clean (rw c.transaction-tx.ensures.begun none)).stands in
    subst (λ h. Survives (state g.S.Store old) (state g.S.Store h) (LeavesNewFirst (state g.S.Store old) books)) same
    (crash_new g.S.Store old last end (LeavesNewFirst (state g.S.Store old) books) inside
    (rw c.transaction-tx.ensures.begun at c.fill_first.ensures.survives) c.commit.ensures.survives)

pub returns-in-Ok-clause-made : goal.returns-in-Ok-clause-made
returns-in-Ok-clause-made g c clean none =
    let books = first_books c.args.office.now in
    let last = c.fill_first.new.tx.conn.now in
    let end = c.commit.new.self.0 in
    let same : end ≡ c.conn-2-1.given.0 = sym (c.conn-2-1.given.1 (sym (c.fill_first.ensures.same_reference ∙ c.transaction-tx.ensures.same_reference))) in
    let clean_end : HasCleanDisk (state g.S.Store end) = subst (λ h. HasCleanDisk (state g.S.Store h)) (sym same) clean in
    let clean_last : HasCleanDisk (state g.S.Store last) = omega (arith, clean_end, c.commit.ensures.survives.clean) in
    let holds = c.in_ok-fill_first.ensures.holds clean_last (rw c.transaction-tx.ensures.begun none) in
    let done = (c.in-Ok.ensures.ok clean_end).1 in
    subst (λ h. IsNewFirst (state g.S.Store h) books) same (new_first (state g.S.Store last) (state g.S.Store end) books holds done.now_is done.committed_is)

pub returns-in-Ok-clause-crash : goal.returns-in-Ok-clause-crash
returns-in-Ok-clause-crash g c =
    let old = c.args.conn.now in
    let books = first_books c.args.office.now in
    let last = c.fill_first.new.tx.conn.now in
    let end = c.commit.new.self.0 in
    let same : end ≡ c.conn-2-1.given.0 = sym (c.conn-2-1.given.1 (sym (c.fill_first.ensures.same_reference ∙ c.transaction-tx.ensures.same_reference))) in
    let inside : HasCleanDisk (state g.S.Store last) → LeavesNewFirst (state g.S.Store old) books (state g.S.Store last).now.trees =
    λ clean none. (c.in_ok-fill_first.ensures.holds clean (rw c.transaction-tx.ensures.begun none)).stands in
    subst (λ h. Survives (state g.S.Store old) (state g.S.Store h) (LeavesNewFirst (state g.S.Store old) books)) same
    (crash_new g.S.Store old last end (LeavesNewFirst (state g.S.Store old) books) inside
    (rw c.transaction-tx.ensures.begun at c.fill_first.ensures.survives) c.commit.ensures.survives)
