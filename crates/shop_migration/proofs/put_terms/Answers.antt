use Rattle.sql_rows.proofs.Inside.{on_ok_then}
use Rattle.shop_migration.proofs.MigrateTexts.{terms_stay, terms_keyed, terms_left, terms_put}
use Rattle.shop_migration.proofs.put_terms.Goals as goal

pub returns-clause-put : goal.returns-clause-put
returns-clause-put g c clean =
    on_ok_then c.execute.result (λ ran rules books sound holds. terms_put _ _ ran.0 ran.1 rules books sound holds) (c.execute.ensures.ran clean)

pub returns-clause-shop : goal.returns-clause-shop
returns-clause-shop g c clean = on_ok_then c.execute.result (λ ran shop. terms_stay _ _ ran.0 ran.1 shop) (c.execute.ensures.ran clean)

pub returns-clause-keyed : goal.returns-clause-keyed
returns-clause-keyed g c clean = on_ok_then c.execute.result (λ ran shop keyed. terms_keyed _ _ ran.0 ran.1 shop keyed) (c.execute.ensures.ran clean)

pub returns-clause-tables : goal.returns-clause-tables
returns-clause-tables g c clean = on_ok_then c.execute.result (λ ran shop. terms_left _ _ ran.0 ran.1 shop) (c.execute.ensures.ran clean)
