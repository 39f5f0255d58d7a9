use Rattle.shop_schema.proofs.Common.{on_ok_then, clean_before, state}
use Rattle.shop_migration.proofs.MigrateTexts.{all_migrated}
use Rattle.shop_migration.proofs.MigrateBack.{tells_still, stood}
use Rattle.shop_migration.proofs.migrate_tables.Goals as goal

pub returns-clause-migrated : goal.returns-clause-migrated
returns-clause-migrated g c clean =
    let clean_3 = clean_before c.set_version.ensures.inside clean in
    let clean_2 = clean_before c.put_rule.ensures.inside clean_3 in
    let clean_1 = clean_before c.put_terms.ensures.inside clean_2 in
    let added = c.in_ok-add_tables.ensures.added clean_1 in
    let put = c.in_ok-put_terms.ensures.put clean_2 in
    let ruled = c.in_ok-put_rule.ensures.put clean_3 in
    on_ok_then c.set_version.result
    (λ set rules books sound holds.
    all_migrated _ rules books sound holds.stands.more.1 (set _ _ books (ruled _ books (put rules books sound (added books holds)))))
    (c.set_version.ensures.set clean)

pub returns-clause-shop : goal.returns-clause-shop
returns-clause-shop g c clean =
    let clean_3 = clean_before c.set_version.ensures.inside clean in
    let clean_2 = clean_before c.put_rule.ensures.inside clean_3 in
    let clean_1 = clean_before c.put_terms.ensures.inside clean_2 in
    let added = c.in_ok-add_tables.ensures.shop clean_1 in
    let put = c.in_ok-put_terms.ensures.shop clean_2 in
    let ruled = c.in_ok-put_rule.ensures.shop clean_3 in
    on_ok_then c.set_version.result (λ set first. set (ruled (put (added first)))) (c.set_version.ensures.shop clean)

pub returns-clause-keyed : goal.returns-clause-keyed
returns-clause-keyed g c clean =
    let clean_3 = clean_before c.set_version.ensures.inside clean in
    let clean_2 = clean_before c.put_rule.ensures.inside clean_3 in
    let clean_1 = clean_before c.put_terms.ensures.inside clean_2 in
    let made = c.in_ok-add_tables.ensures.shop clean_1 in
    let put = c.in_ok-put_terms.ensures.shop clean_2 in
    let ruled = c.in_ok-put_rule.ensures.shop clean_3 in
    let made_keyed = c.in_ok-add_tables.ensures.keyed clean_1 in
    let put_keyed = c.in_ok-put_terms.ensures.keyed clean_2 in
    let ruled_keyed = c.in_ok-put_rule.ensures.keyed clean_3 in
    on_ok_then c.set_version.result (λ set first keyed.
    let one = made first in
    let two = put one in
    set (ruled two) (ruled_keyed two (put_keyed one (made_keyed first keyed)))) (c.set_version.ensures.keyed clean)

pub returns-clause-stood : goal.returns-clause-stood
returns-clause-stood g c clean =
    let clean_3 = clean_before c.set_version.ensures.inside clean in
    let clean_2 = clean_before c.put_rule.ensures.inside clean_3 in
    let clean_1 = clean_before c.put_terms.ensures.inside clean_2 in
    let s0 = state g.S.Store c.args.tx.now.conn.now in
    let s1 = state g.S.Store c.add_tables.new.tx.conn.now in
    let s2 = state g.S.Store c.put_terms.new.tx.conn.now in
    let s3 = state g.S.Store c.put_rule.new.tx.conn.now in
    let s4 = state g.S.Store c.set_version.new.tx.conn.now in
    on_ok_then c.set_version.result (λ set first keyed token tells books holds.
    let one = c.in_ok-add_tables.ensures.shop clean_1 first in
    let two = c.in_ok-put_terms.ensures.shop clean_2 one in
    let three = c.in_ok-put_rule.ensures.shop clean_3 two in
    let keyed_2 = c.in_ok-put_terms.ensures.keyed clean_2 one (c.in_ok-add_tables.ensures.keyed clean_1 first keyed) in
    let added = c.in_ok-add_tables.ensures.tables clean_1 first in
    let filled = c.in_ok-put_terms.ensures.tables clean_2 one in
    let ruled = c.in_ok-put_rule.ensures.tables clean_3 two in
    let t0 = s0.now.trees in
    let still = tells_still t0 s1.now.trees s2.now.trees s3.now.trees s4.now.trees added filled ruled token tells in
    let left = set three (c.in_ok-put_rule.ensures.keyed clean_3 two keyed_2) token still in
    record {
      schema_is = first;
      keyed = keyed;
      stands = stood t0 s1.now.trees s2.now.trees s3.now.trees s4.now.trees added filled ruled token left tells books holds.stands;
    })
    (c.set_version.ensures.tables clean)
