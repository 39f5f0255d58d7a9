use Rattle.sql_rows.proofs.Inside.{on_ok_then}
use Rattle.shop_migration.proofs.MigrateTexts.{version_stays, version_keyed, version_left, version_set}
use Rattle.shop_migration.proofs.set_version.Goals as goal

pub returns-clause-set : goal.returns-clause-set
returns-clause-set g c clean =
    on_ok_then c.execute.result (λ ran terms rule books holds. version_set _ _ ran.0 ran.1 terms rule books holds) (c.execute.ensures.ran clean)

pub returns-clause-shop : goal.returns-clause-shop
returns-clause-shop g c clean = on_ok_then c.execute.result (λ ran shop. version_stays _ _ ran.0 ran.1 shop) (c.execute.ensures.ran clean)

pub returns-clause-keyed : goal.returns-clause-keyed
returns-clause-keyed g c clean = on_ok_then c.execute.result (λ ran shop keyed. version_keyed _ _ ran.0 ran.1 shop keyed) (c.execute.ensures.ran clean)

pub returns-clause-tables : goal.returns-clause-tables
returns-clause-tables g c clean =
    on_ok_then c.execute.result (λ ran shop keyed token tells. version_left _ _ ran.0 ran.1 shop keyed token tells) (c.execute.ensures.ran clean)
