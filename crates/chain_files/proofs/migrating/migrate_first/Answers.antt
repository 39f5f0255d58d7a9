use Rattle.shop_schema.proofs.Common.{arith, on_ok_then, state, HasCleanDisk, survives_then}
use Rattle.chain_requests.proofs.Resting.{leaves_less}
use Rattle.chain_files.proofs.Migrated.{migration_from, leaves_from}
use Rattle.chain_files.proofs.migrating.migrate_first.Goals as goal

pub returns-in-Ok-clause-migrated : goal.returns-in-Ok-clause-migrated
returns-in-Ok-clause-migrated g c clean settled =
    let s0 = state g.S.Store c.args.conn.now in
    let s1 = state g.S.Store c.examine_first.new.conn in
    let s2 = state g.S.Store c.migrate.new.conn in
    let clean_1 : HasCleanDisk s1 = omega (arith, clean, c.migrate.ensures.crash.clean) in
    on_ok_then c.migrate.result (λ it. migration_from s0 s1 s2 settled (c.in-Ok.ensures.stays clean_1) it) (c.migrate.ensures.migrated clean)

pub returns-in-Ok-clause-crash : goal.returns-in-Ok-clause-crash
returns-in-Ok-clause-crash g c =
    let s0 = state g.S.Store c.args.conn.now in
    let s1 = state g.S.Store c.examine_first.new.conn in
    let s2 = state g.S.Store c.migrate.new.conn in
    survives_then s0 s1 s2 _ _ _ (λ _ db none. absurd none)
    (λ clean db leaves.
    let clean_1 : HasCleanDisk s1 = omega (arith, clean, c.migrate.ensures.crash.clean) in
    (c.in-Ok.ensures.first clean_1, λ settled. leaves_from s0 s1 s2 settled (c.in-Ok.ensures.stays clean_1) db leaves))
    c.in-Ok.ensures.crash c.migrate.ensures.crash

pub returns-in-Err-clause-crash : goal.returns-in-Err-clause-crash
returns-in-Err-clause-crash g c = leaves_less _ _ _ c.in-Err.ensures.crash
