use Rattle.shop_schema.proofs.Common.{◌∙◌, arith, state, HasCleanDisk}
use Rattle.chain_requests.proofs.Resting.{Commits, left_back, said_back, rests_after}
use Rattle.chain_files.proofs.Made.{made_new}
use Rattle.chain_files.proofs.creation.make.Goals as goal

pub returns-in-Ok-clause-made : goal.returns-in-Ok-clause-made
returns-in-Ok-clause-made g c clean none =
    let mid = c.fill.new.tx.conn.now in
    let same = c.fill.ensures.same_reference ∙ c.transaction-tx.ensures.same_reference in
    let ending = left_back g.S.Store mid c.conn-2-1.given same c.commit.ensures.survives in
    let clean_mid : HasCleanDisk (state g.S.Store mid) = omega (arith, clean, ending.clean) in
    rests_after g.S.Store c.args.conn.now mid c.conn-2-1.given.0 _ g.met.S.Store.settled
    (c.in_ok-fill.ensures.holds clean_mid (rw c.transaction-tx.ensures.begun none))
    (said_back g.S.Store mid c.conn-2-1.given same Commits (λ k. (c.in-Ok.ensures.ok k).1) clean)

pub returns-in-Ok-clause-crash : goal.returns-in-Ok-clause-crash
returns-in-Ok-clause-crash g c =
    let ending =
    left_back g.S.Store c.fill.new.tx.conn.now c.conn-2-1.given
    (c.fill.ensures.same_reference ∙ c.transaction-tx.ensures.same_reference) c.commit.ensures.survives in
    made_new g.S.Store c.args.conn.now c.fill.new.tx.conn.now c.conn-2-1.given.0 _
    (λ clean none. c.in_ok-fill.ensures.holds clean (rw c.transaction-tx.ensures.begun none))
    (rw c.transaction-tx.ensures.begun at c.fill.ensures.survives) ending

pub returns-in-Err-clause-crash : goal.returns-in-Err-clause-crash
returns-in-Err-clause-crash g c =
    let ending =
    left_back g.S.Store c.fill.new.tx.conn.now c.conn-2-1.given
    (c.fill.ensures.same_reference ∙ c.transaction-tx.ensures.same_reference) c.commit.ensures.survives in
    made_new g.S.Store c.args.conn.now c.fill.new.tx.conn.now c.conn-2-1.given.0 _
    (λ clean none. c.in_ok-fill.ensures.holds clean (rw c.transaction-tx.ensures.begun none))
    (rw c.transaction-tx.ensures.begun at c.fill.ensures.survives) ending
