use Rattle.std.specs.Prelude.{Result, IfErr}
use Rattle.sqlite.specs.Held.{state}
use Rattle.sqlite.specs.Values.{bound}
use Rattle.shop_schema.specs.Asked.{FailsToCount}
use Rattle.shop_schema.proofs.Common.{ℕ, Option, StoreFault, subst, rules, inr, found_then, inside_as}
use Rattle.sql_rows.proofs.QueryFaults.{err_then}
use Rattle.shop_ledger.proofs.CountLemmas.{first_count}
use Rattle.shop_ledger.proofs.CountRows.{count_unread, count_read}
use Rattle.shop_ledger.proofs.counts.count_shown.Goals as goal

pub returns-in-Err-clause-told : goal.returns-in-Err-clause-told
returns-in-Err-clause-told g c clean =
    subst
    (λ (r : Result (Option ℕ) StoreFault).
    IfErr r (FailsToCount c.args.text.now (bound c.args.params.now) (state g.S.Store c.args.tx.now.conn.now) (state g.S.Store c.query_first.new.tx.conn.now)))
    c.in-Err.is
    (err_then c.query_first.result _ _ (c.query_first.ensures.told clean) (count_unread _ _ _ _ (λ row fault says failed. search rules)))

pub returns-in-Ok-clause-does : goal.returns-in-Ok-clause-does
returns-in-Ok-clause-does g c = record {
  inside = inside_as c.in-Ok.ensures.inside;
  says = λ clean.
      found_then _ _ c.fitting.result c.fitting.ensures.ok
      (λ n is.
      let these = c.in-Ok.ensures.shown clean in
      let first = first_count (λ row m says. search rules) these.0 c.in-Ok.found n these.2 is.0 in
      (these.0, these.1, first.0, first.1, first.2));
}

pub returns-in-Ok-clause-told : goal.returns-in-Ok-clause-told
returns-in-Ok-clause-told g c clean =
    let these = c.in-Ok.ensures.shown clean in
    err_then c.fitting.result _ _ c.fitting.ensures.failed
    (λ e fails. inr
    (these.0, these.1, λ failed row first n few is. fails n (count_read (λ r m says. search rules) these.0 c.in-Ok.found these.2 row first n is) few))
