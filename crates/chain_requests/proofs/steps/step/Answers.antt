use Rattle.shop_schema.proofs.Common.{◌∙◌, refl, arith, IfOk-weaker, state, HasCleanDisk, survives_more, false≢true, sym}
use Rattle.sqlite.specs.Steps.{FailsToCommit}
use Rattle.chain_requests.specs.Steps.{asker, asked_of}
use Rattle.chain_requests.proofs.Resting.{Commits, left_back, said_back, leaves_less, looks, either_of, undone_either, leaves_then, made_nothing, shows_made}
use Rattle.chain_requests.proofs.Resting.{made_commit, leaves_after, undone_after, of_any_error}
use Rattle.shop_schema.specs.Asked.{HoldsBooks}
use Rattle.chain_requests.specs.Wells.{RestsOnBooks}
use Rattle.chain_requests.proofs.Wells.{books_begun, fails_at_rest}
use Rattle.chain_requests.proofs.steps.step.Goals as goal

pub returns-in-Ok-clause-made : goal.returns-in-Ok-clause-made
returns-in-Ok-clause-made g c =
    let one = rw c.in-Ok-Answered.field-0-is at c.in-Ok-Answered.ensures.does in
    let same = one.inside.same_reference ∙ c.transaction-tx.ensures.same_reference in
    let mid = c.answer_inside.new.tx.conn.now in
    made_commit c.args.limits (asker c.args.asked.now) (asked_of c.args.asked.now) c.args.conn.now c.transaction-tx.ensures.begun
    one c.conn-in-Ok-Answered-1.given.0 (left_back g.S.Store mid c.conn-in-Ok-Answered-1.given same c.commit.ensures.survives)
    g.met.S.Store.settled (said_back g.S.Store mid c.conn-in-Ok-Answered-1.given same Commits (λ k. (c.in-Ok.ensures.ok k).1))

pub returns-in-Ok-clause-crash : goal.returns-in-Ok-clause-crash
returns-in-Ok-clause-crash g c =
    let one = rw c.in-Ok-Answered.field-0-is at c.in-Ok-Answered.ensures.does in
    let ending =
    left_back g.S.Store c.answer_inside.new.tx.conn.now c.conn-in-Ok-Answered-1.given
    (one.inside.same_reference ∙ c.transaction-tx.ensures.same_reference) c.commit.ensures.survives in
    leaves_after c.args.limits (asker c.args.asked.now)
    (asked_of c.args.asked.now) c.args.conn.now c.transaction-tx.ensures.begun one c.conn-in-Ok-Answered-1.given.0 ending

pub returns-then-not-done-clause-made : goal.returns-then-not-done-clause-made
returns-then-not-done-clause-made g c clean =
    let one = rw c.in-Ok-Answered.field-0-is at c.in-Ok-Answered.ensures.does in
    let look =
    looks c.args.conn.now one c.transaction-tx.ensures.begun c.transaction-tx.ensures.same_reference
    c.conn-1.given c.rollback.ensures.survives c.rollback.ensures.undone in
    made_nothing c.args.limits (asker c.args.asked.now) (asked_of c.args.asked.now) refl (look.says clean) c.if-not-done.true (look.rests clean)

pub returns-in-Err-clause-undone : goal.returns-in-Err-clause-undone
returns-in-Err-clause-undone g c clean =
    let look =
    looks c.args.conn.now c.in-Err.ensures.does c.transaction-tx.ensures.begun c.transaction-tx.ensures.same_reference
    c.conn-in-Err-1.given c.rollback-in-Err.ensures.survives c.rollback-in-Err.ensures.undone in
    undone_either c.args.limits (asker c.args.asked.now) (asked_of c.args.asked.now) (λ books it. it.0) (λ books rests held. look.rests clean books rests)

pub returns-then-is_open-clause-crash : goal.returns-then-is_open-clause-crash
returns-then-is_open-clause-crash g c =
    let one = rw c.in-Ok-Answered.field-0-is at c.in-Ok-Answered.ensures.does in
    let ending =
    left_back g.S.Store c.answer_inside.new.tx.conn.now c.conn-in-Ok-Answered-1.given
    (one.inside.same_reference ∙ c.transaction-tx.ensures.same_reference) c.commit.ensures.survives in
    leaves_then (leaves_after c.args.limits (asker c.args.asked.now)
    (asked_of c.args.asked.now) c.args.conn.now c.transaction-tx.ensures.begun one c.conn-in-Ok-Answered-1.given.0 ending)
    c.is_open.ensures.crash

pub returns-else-is_open-clause-crash : goal.returns-else-is_open-clause-crash
returns-else-is_open-clause-crash g c =
    let one = rw c.in-Ok-Answered.field-0-is at c.in-Ok-Answered.ensures.does in
    let ending =
    left_back g.S.Store c.answer_inside.new.tx.conn.now c.conn-in-Ok-Answered-1.given
    (one.inside.same_reference ∙ c.transaction-tx.ensures.same_reference) c.commit.ensures.survives in
    leaves_then (leaves_after c.args.limits (asker c.args.asked.now)
    (asked_of c.args.asked.now) c.args.conn.now c.transaction-tx.ensures.begun one c.conn-in-Ok-Answered-1.given.0 ending)
    c.is_open.ensures.crash

pub returns-then-is_open-clause-undone : goal.returns-then-is_open-clause-undone
returns-then-is_open-clause-undone g c clean =
    let one = rw c.in-Ok-Answered.field-0-is at c.in-Ok-Answered.ensures.does in
    let same = one.inside.same_reference ∙ c.transaction-tx.ensures.same_reference in
    let mid = c.answer_inside.new.tx.conn.now in
    let ending = left_back g.S.Store mid c.conn-in-Ok-Answered-1.given same c.commit.ensures.survives in
    let fails =
    said_back g.S.Store mid c.conn-in-Ok-Answered-1.given same (λ old new. FailsToCommit old new c.in-Err-commit.error) c.in-Err-commit.ensures.err in
    undone_either c.args.limits (asker c.args.asked.now) (asked_of c.args.asked.now) (λ books it. it.0)
    (undone_after c.args.conn.now c.conn-in-Ok-Answered-1.given.0 c.is_open.new.conn c.transaction-tx.ensures.begun one ending g.met.S.Store.settled fails
    (c.if-is_open.ensures.was clean refl) (c.is_open.ensures.same clean) c.is_open.ensures.crash clean)

pub returns-else-is_open-clause-undone : goal.returns-else-is_open-clause-undone
returns-else-is_open-clause-undone g c clean =
    let one = rw c.in-Ok-Answered.field-0-is at c.in-Ok-Answered.ensures.does in
    let ending =
    left_back g.S.Store c.answer_inside.new.tx.conn.now c.conn-in-Ok-Answered-1.given
    (one.inside.same_reference ∙ c.transaction-tx.ensures.same_reference) c.commit.ensures.survives in
    let after =
    leaves_after c.args.limits (asker c.args.asked.now)
    (asked_of c.args.asked.now) c.args.conn.now c.transaction-tx.ensures.begun one c.conn-in-Ok-Answered-1.given.0 ending in (
      λ other. absurd (other refl),
      either_of c.args.limits (asker c.args.asked.now) (asked_of c.args.asked.now) (leaves_then after c.is_open.ensures.crash) clean,
    )

pub returns-in-Ok-Shows-clause-made : goal.returns-in-Ok-Shows-clause-made
returns-in-Ok-Shows-clause-made g c clean =
    let one = rw c.in-Ok-Shows.field-0-is at c.in-Ok-Shows.ensures.does in
    let look =
    looks c.args.conn.now one c.transaction-tx.ensures.begun c.transaction-tx.ensures.same_reference
    c.conn-in-Ok-Shows-1.given c.rollback-in-Ok-Shows.ensures.survives c.rollback-in-Ok-Shows.ensures.undone in
    let clean_back : HasCleanDisk (state g.S.Store c.conn-in-Ok-Shows-1.given.0) = omega (arith, clean, c.show.ensures.crash.clean) in
    IfOk-weaker c.show.result _ _
    (λ reply.
    shows_made c.args.limits (asker c.args.asked.now) (asked_of c.args.asked.now) (state g.S.Store c.answer_inside.new.tx.conn.now)
    c.in-Ok-Shows.report refl (look.says clean_back) (look.rests clean_back) (c.show.ensures.same clean) (λ books it. it.0))
    (c.show.ensures.shown clean)

pub returns-in-Ok-Shows-clause-undone : goal.returns-in-Ok-Shows-clause-undone
returns-in-Ok-Shows-clause-undone g c clean =
    let look =
    looks c.args.conn.now c.in-Ok-Shows.ensures.does c.transaction-tx.ensures.begun c.transaction-tx.ensures.same_reference
    c.conn-in-Ok-Shows-1.given c.rollback-in-Ok-Shows.ensures.survives c.rollback-in-Ok-Shows.ensures.undone in
    let clean_back : HasCleanDisk (state g.S.Store c.conn-in-Ok-Shows-1.given.0) = omega (arith, clean, c.show.ensures.crash.clean) in
    of_any_error c.show.result _ (λ fault.
    undone_either c.args.limits (asker c.args.asked.now) (asked_of c.args.asked.now) (λ books it. it.0)
    (λ books rests. c.show.ensures.same clean books (look.rests clean_back books rests)))

pub returns-then-not-done-clause-crash : goal.returns-then-not-done-clause-crash
returns-then-not-done-clause-crash g c =
    let look =
    looks c.args.conn.now c.in-Ok-Answered.ensures.does c.transaction-tx.ensures.begun
    c.transaction-tx.ensures.same_reference c.conn-1.given c.rollback.ensures.survives c.rollback.ensures.undone in
    leaves_less _ _ _ look.crash

pub returns-in-Err-clause-crash : goal.returns-in-Err-clause-crash
returns-in-Err-clause-crash g c =
    let look =
    looks c.args.conn.now c.in-Err.ensures.does c.transaction-tx.ensures.begun c.transaction-tx.ensures.same_reference
    c.conn-in-Err-1.given c.rollback-in-Err.ensures.survives c.rollback-in-Err.ensures.undone in
    leaves_less _ _ _ look.crash

pub returns-in-Ok-Shows-clause-crash : goal.returns-in-Ok-Shows-clause-crash
returns-in-Ok-Shows-clause-crash g c =
    let look =
    looks c.args.conn.now c.in-Ok-Shows.ensures.does c.transaction-tx.ensures.begun c.transaction-tx.ensures.same_reference
    c.conn-in-Ok-Shows-1.given c.rollback-in-Ok-Shows.ensures.survives c.rollback-in-Ok-Shows.ensures.undone in
    leaves_less _ _ _ (survives_more _ _ _ look.crash c.show.ensures.crash)

pub returns-in-Ok-clause-decided : goal.returns-in-Ok-clause-decided
returns-in-Ok-clause-decided g c = rw c.in-Ok-Answered.field-0-is at c.in-Ok-Answered.ensures.decided

pub returns-then-not-done-clause-decided : goal.returns-then-not-done-clause-decided
returns-then-not-done-clause-decided g c = rw c.in-Ok-Answered.field-0-is at c.in-Ok-Answered.ensures.decided

pub returns-in-Err-clause-fails : goal.returns-in-Err-clause-fails
returns-in-Err-clause-fails g c row =
    fails_at_rest c.args.conn.now RestsOnBooks HoldsBooks (books_begun g.S.Store c.args.conn.now) c.in-Err.ensures.does (c.in-Err.ensures.fails row)
    c.transaction-tx.ensures.begun c.transaction-tx.ensures.same_reference c.conn-in-Err-1.given c.rollback-in-Err.ensures.survives

pub returns-in-Ok-Shows-clause-fails : goal.returns-in-Ok-Shows-clause-fails
returns-in-Ok-Shows-clause-fails g c row = absurd ((rw c.in-Ok-Shows.field-0-is at c.in-Ok-Shows.ensures.still) row)

pub returns-then-is_open-clause-fails : goal.returns-then-is_open-clause-fails
returns-then-is_open-clause-fails g c row =
    absurd (false≢true (sym ((rw c.in-Ok-Answered.field-0-is at c.in-Ok-Answered.ensures.still) row) ∙ c.if-not-done.false))

pub returns-else-is_open-clause-fails : goal.returns-else-is_open-clause-fails
returns-else-is_open-clause-fails g c row =
    absurd (false≢true (sym ((rw c.in-Ok-Answered.field-0-is at c.in-Ok-Answered.ensures.still) row) ∙ c.if-not-done.false))
