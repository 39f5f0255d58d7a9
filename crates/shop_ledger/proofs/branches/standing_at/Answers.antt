use Rattle.shop_schema.proofs.Common.{◌≤◌, rules, arith, inl, IfSome, inside_as}
use Rattle.sql_rows.proofs.QueryFaults.{err_then}
use Rattle.shop_ledger.proofs.StandingTexts.{told_standing}
use Rattle.shop_ledger.proofs.CountLemmas.{told_first}
use Rattle.shop_ledger.proofs.LedgerFaults.{standing_met, standing_read_met}
use Rattle.shop_ledger.proofs.branches.standing_at.Goals as goal

pub returns-in-Err-clause-fails : goal.returns-in-Err-clause-fails
returns-in-Err-clause-fails g c clean ready holds =
    standing_met {Fails = λ row fault. ⊥} _ _ c.args.branch (omega arith) (λ row fault none. absurd none) ready holds c.in-Err.fault
    (inl (rw (c.to_sql.ensures, c.get.ensures.value) at (c.in-Err.ensures.told clean)))

pub returns-clause-does : goal.returns-clause-does
returns-clause-does g c = record {
  inside = inside_as c.in-Ok.ensures.inside;
  says = λ clean.
      let shown = rw (c.to_sql.ensures, c.get.ensures.value) at (c.in-Ok.ensures.shown clean) in
      let told = told_standing _ _ c.args.branch _ shown (omega arith) in
      told_first _ _ _ c.first_of.result c.as_slice.ensures.value c.first_of.ensures.found told.0
      (λ row it some says. told.1 row it some (search rules) (search rules) (search rules));
}

pub returns-clause-bound : goal.returns-clause-bound
returns-clause-bound g c =
    told_first _ _ (λ standing. IfSome standing (λ it. it.keys ≤ 1_000_000)) c.first_of.result
    c.as_slice.ensures.value c.first_of.ensures.found (λ none. tt) (λ row it some says. search rules)

pub returns-clause-fails : goal.returns-clause-fails
returns-clause-fails g c clean ready holds =
    err_then c.first_of.result _ _ c.first_of.ensures.failed
    (standing_read_met _ _ c.args.branch (omega arith) _ _ c.as_slice.ensures.value
    (rw (c.to_sql.ensures, c.get.ensures.value) at (c.in-Ok.ensures.shown clean))
    (λ row fault says failed. search rules) ready holds)
