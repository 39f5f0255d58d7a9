use Rattle.sql_rows.proofs.QueryFaults.{err_then}
use Rattle.shop_store.proofs.Whether.{tells}
use Rattle.shop_store.proofs.TokenReads.{told_office}
use Rattle.shop_store.proofs.TokenFaults.{office_met}
use Rattle.shop_store.proofs.chain.is_office.Goals as goal

pub returns-clause-does : goal.returns-clause-does
returns-clause-does g c = tells _ _ (rw (c.to_sql.ensures, c.token_text.ensures) at c.shows_row.ensures.does) (told_office _ _ c.args.token.now)

pub returns-clause-fails : goal.returns-clause-fails
returns-clause-fails g c clean ready holds =
    err_then c.shows_row.result _ _ (rw (c.to_sql.ensures, c.token_text.ensures) at (c.shows_row.ensures.told clean))
    (office_met _ _ c.args.token.now ready holds)
