use Rattle.shop_schema.proofs.Common.{clean_before, inside_as, inside_then, within_of}
use Rattle.chain_files.proofs.Migrated.{migrated_inside}
use Rattle.chain_files.proofs.migrating.migrate_inside.Goals as goal

pub returns : goal.returns
returns g c = record {
  inside = inside_as (inside_then c.in_ok-migrate_tables.ensures.inside (within_of c.in_ok-audit.ensures.does.inside));
  says = λ clean.
      let tables = c.in_ok-migrate_tables.ensures in
      let clean_mid = clean_before c.in_ok-audit.ensures.does.inside clean in
      migrated_inside _ _ _ _ (tables.migrated clean_mid) (tables.stood clean_mid)
      (λ is. (tables.shop clean_mid is.0, tables.keyed clean_mid is.0 is.1)) (c.in_ok-audit.ensures.does.says clean);
}
