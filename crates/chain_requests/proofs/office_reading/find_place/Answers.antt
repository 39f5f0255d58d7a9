use Rattle.shop_schema.proofs.Common.{refl, Result, IfOk, IfOk-weaker}
use Rattle.chain_requests.proofs.Resting.{looks, looks_found}
use Rattle.chain_requests.proofs.office_reading.find_place.Goals as goal

-- a reply that holds of books with copies in custody holds of sound books
then_told : {X E : Type 0} (r : Result X E) {P Q : X → Type 0} → IfOk r P → ((x : X) → P x → Q x) → IfOk r Q
then_told r said more = IfOk-weaker r _ _ more said

pub returns-clause-told : goal.returns-clause-told
returns-clause-told g c clean =
    then_told c.place_in-told.result
    (looks_found refl
    (looks c.args.conn.now c.place_in-told.ensures.does c.transaction-tx.ensures.begun
    c.transaction-tx.ensures.same_reference c.conn-1.given c.rollback.ensures.survives c.rollback.ensures.undone)
    clean)
    (λ reply told books rests held sound. told books rests held sound.custody)

pub returns-clause-same : goal.returns-clause-same
returns-clause-same g c clean books rests held =
    (looks c.args.conn.now c.place_in-told.ensures.does c.transaction-tx.ensures.begun
    c.transaction-tx.ensures.same_reference c.conn-1.given c.rollback.ensures.survives c.rollback.ensures.undone).rests
    clean books rests
