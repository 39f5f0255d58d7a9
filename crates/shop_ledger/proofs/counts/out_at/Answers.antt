use Rattle.std.proofs.Common.{rules, sym}
use Rattle.sql_rows.proofs.QueryFaults.{err_then}
use Rattle.shop_ledger.proofs.CountLemmas.{read_out}
use Rattle.shop_ledger.proofs.Doing.{does_first}
use Rattle.shop_ledger.proofs.LedgerFaults.{out_met}
use Rattle.shop_ledger.proofs.counts.out_at.Goals as goal

pub returns-clause-does : goal.returns-clause-does
returns-clause-does g c =
    does_first _ _ c.query_first.ensures.inside
    (rw (c.to_sql.ensures, c.get.ensures.value, c.to_sql-2.ensures, c.get-2.ensures.value) at c.query_first.ensures.shown)
    (λ rows these.
    let read = read_out _ _ c.args.branch c.args.copy rows these in
    (λ none. read.0 (sym none), λ row n some says. read.1 row n (sym some) (search rules)))

pub returns-clause-fails : goal.returns-clause-fails
returns-clause-fails g c clean ready holds =
    err_then c.query_first.result _ _
    (rw (c.to_sql.ensures, c.get.ensures.value, c.to_sql-2.ensures, c.get-2.ensures.value) at (c.query_first.ensures.told clean))
    (out_met _ _ c.args.branch c.args.copy (λ row fault says failed. search rules) ready holds)
