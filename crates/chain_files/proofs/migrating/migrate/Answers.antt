use Rattle.shop_schema.proofs.Common.{◌∙◌}
use Rattle.chain_requests.proofs.Resting.{Commits, left_back, looks, said_back}
use Rattle.chain_files.proofs.Migrated.{were_unsound, migration_made, leaves_migration}
use Rattle.chain_files.proofs.migrating.migrate.Goals as goal

pub returns-in-Ok-clause-migrated : goal.returns-in-Ok-clause-migrated
returns-in-Ok-clause-migrated g c =
    let one = rw c.in-Ok-true.field-0-test at c.in-Ok-true.ensures in
    let same = one.inside.same_reference ∙ c.transaction-tx.ensures.same_reference in
    let mid = c.migrate_inside.new.tx.conn.now in
    migration_made c.args.conn.now c.conn-1.given.0 c.transaction-tx.ensures.begun one
    (left_back g.S.Store mid c.conn-1.given same c.commit.ensures.survives) g.met.S.Store.settled
    (said_back g.S.Store mid c.conn-1.given same Commits (λ k. (c.in-Ok.ensures.ok k).1))

pub returns-in-Ok-clause-crash : goal.returns-in-Ok-clause-crash
returns-in-Ok-clause-crash g c =
    let one = rw c.in-Ok-true.field-0-test at c.in-Ok-true.ensures in
    let ending =
    left_back g.S.Store c.migrate_inside.new.tx.conn.now c.conn-1.given
    (one.inside.same_reference ∙ c.transaction-tx.ensures.same_reference) c.commit.ensures.survives in
    leaves_migration c.args.conn.now c.conn-1.given.0 c.transaction-tx.ensures.begun one ending

pub returns-in-Err-commit-clause-crash : goal.returns-in-Err-commit-clause-crash
returns-in-Err-commit-clause-crash g c =
    let one = rw c.in-Ok-true.field-0-test at c.in-Ok-true.ensures in
    let ending =
    left_back g.S.Store c.migrate_inside.new.tx.conn.now c.conn-1.given
    (one.inside.same_reference ∙ c.transaction-tx.ensures.same_reference) c.commit.ensures.survives in
    leaves_migration c.args.conn.now c.conn-1.given.0 c.transaction-tx.ensures.begun one ending

pub returns-in-Ok-false-clause-damaged : goal.returns-in-Ok-false-clause-damaged
returns-in-Ok-false-clause-damaged g c clean is =
    let one = rw c.in-Ok-false.field-0-test at c.in-Ok-false.ensures in
    let look =
    looks c.args.conn.now one c.transaction-tx.ensures.begun c.transaction-tx.ensures.same_reference
    c.conn-in-Ok-false-1.given c.rollback.ensures.survives c.rollback.ensures.undone in
    let it = look.says clean in
    (it.0, λ first books. were_unsound _ _ it.1 first books)
