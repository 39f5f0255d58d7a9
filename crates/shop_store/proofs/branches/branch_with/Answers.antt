use Rattle.std.proofs.Common.{rules}
use Rattle.sql_rows.proofs.QueryFaults.{err_then}
use Rattle.shop_ledger.proofs.Doing.{does_first}
use Rattle.shop_store.proofs.TokenReads.{read_branch}
use Rattle.shop_store.proofs.TokenFaults.{branch_met}
use Rattle.shop_store.proofs.branches.branch_with.Goals as goal

pub returns-clause-does : goal.returns-clause-does
returns-clause-does g c =
    does_first _ _ c.query_first.ensures.inside (rw (c.to_sql.ensures, c.token_text.ensures) at c.query_first.ensures.shown)
    (λ rows these. let read = read_branch _ _ c.args.token.now rows these in (read.0, λ row n some says. read.1 row n some (search rules)))

pub returns-clause-fails : goal.returns-clause-fails
returns-clause-fails g c clean ready holds =
    err_then c.query_first.result _ _ (rw (c.to_sql.ensures, c.token_text.ensures) at (c.query_first.ensures.told clean))
    (branch_met _ _ c.args.token.now (λ row fault says failed. search rules) ready holds)
