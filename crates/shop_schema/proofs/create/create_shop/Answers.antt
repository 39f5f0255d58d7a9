use Rattle.shop_schema.proofs.Common.{◌≡◌, ◌∙◌, sym, subst, arith, state, HasCleanDisk, Survives, crash_new, LeavesNew, IsNewShop}
use Rattle.shop_schema.proofs.CreateTexts.{new_shop}
use Rattle.shop_schema.proofs.create.create_shop.Goals as goal

pub returns-in-Err-clause-crash : goal.returns-in-Err-clause-crash
returns-in-Err-clause-crash g c =
    let old = c.args.conn.now in
    let last = c.create_tables.new.tx.conn.now in
    let end = c.commit.new.self.0 in
    let same : end ≡ c.conn-2-1.given.0 = sym (c.conn-2-1.given.1 (sym (c.create_tables.ensures.same_reference ∙ c.transaction-tx.ensures.same_reference))) in
    let inside : HasCleanDisk (state g.S.Store last) → LeavesNew (state g.S.Store old) (state g.S.Store last).now.trees =
    λ clean none. let it = c.in_ok-create_tables.ensures.made clean (rw c.transaction-tx.ensures.begun none) in (it.1, it.2) in
    subst (λ h. Survives (state g.S.Store old) (state g.S.Store h) (LeavesNew (state g.S.Store old))) same
    (crash_new g.S.Store old last end (LeavesNew (state g.S.Store old)) inside
    (rw c.transaction-tx.ensures.begun at c.create_tables.ensures.survives) c.commit.ensures.survives)

pub returns-in-Ok-clause-made : goal.returns-in-Ok-clause-made
returns-in-Ok-clause-made g c clean none =
    let last = c.create_tables.new.tx.conn.now in
    let end = c.commit.new.self.0 in
    let same : end ≡ c.conn-2-1.given.0 = sym (c.conn-2-1.given.1 (sym (c.create_tables.ensures.same_reference ∙ c.transaction-tx.ensures.same_reference))) in
    let clean_end : HasCleanDisk (state g.S.Store end) = subst (λ h. HasCleanDisk (state g.S.Store h)) (sym same) clean in
    let clean_last : HasCleanDisk (state g.S.Store last) = omega (arith, clean_end, c.commit.ensures.survives.clean) in
    let made = c.in_ok-create_tables.ensures.made clean_last (rw c.transaction-tx.ensures.begun none) in
    let done = (c.in-Ok.ensures.ok clean_end).1 in
    subst (λ h. IsNewShop (state g.S.Store h)) same (new_shop (state g.S.Store last) (state g.S.Store end) made.0 made.1 made.2 done.now_is done.committed_is)

pub returns-in-Ok-clause-crash : goal.returns-in-Ok-clause-crash
returns-in-Ok-clause-crash g c =
    let old = c.args.conn.now in
    let last = c.create_tables.new.tx.conn.now in
    let end = c.commit.new.self.0 in
    let same : end ≡ c.conn-2-1.given.0 = sym (c.conn-2-1.given.1 (sym (c.create_tables.ensures.same_reference ∙ c.transaction-tx.ensures.same_reference))) in
    let inside : HasCleanDisk (state g.S.Store last) → LeavesNew (state g.S.Store old) (state g.S.Store last).now.trees =
    λ clean none. let it = c.in_ok-create_tables.ensures.made clean (rw c.transaction-tx.ensures.begun none) in (it.1, it.2) in
    subst (λ h. Survives (state g.S.Store old) (state g.S.Store h) (LeavesNew (state g.S.Store old))) same
    (crash_new g.S.Store old last end (LeavesNew (state g.S.Store old)) inside
    (rw c.transaction-tx.ensures.begun at c.create_tables.ensures.survives) c.commit.ensures.survives)
