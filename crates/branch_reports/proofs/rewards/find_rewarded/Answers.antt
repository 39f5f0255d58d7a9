use Rattle.shop_schema.proofs.Common.{◌≡◌, length, vec_len, arith, ◌∙◌, sym, ap, List, and_then, done, within_of, within_none, month_before, shop_of}
use Rattle.sql_rows.proofs.Chaining.{one_call}
use Rattle.shop_store.specs.declared.payments.PaymentRow.{PaymentRow}
use Rattle.shop_schema.specs.Asked.{HoldsBooks}
use Rattle.shop_ledger.specs.Asked.{HoldsBranch}
use Rattle.shop_ledger.proofs.Failing.{branch_stays, fails_after, has_books}
use Rattle.branch_reports.specs.Rewards.{payments_of}
use Rattle.branch_reports.proofs.Few.{few_rows}
use Rattle.branch_reports.proofs.RewardLemmas.{found_are}
use Rattle.branch_reports.proofs.MonthLemmas.{no_month, of_the_month}
use Rattle.branch_reports.proofs.rewards.find_rewarded.Goals as goal

pub returns-in_default-clause-does : goal.returns-in_default-clause-does
returns-in_default-clause-does g c = record {
  inside = within_none;
  says = λ clean books holds held. (
    holds,
    c.new.ensures.items
        ∙ no_month (month_before c.args.at) (shop_of c.args.branch books) c.args.purchases c.args.cents (sym c.in_default.is ∙ c.last_month.ensures),
  );
}

pub returns-in-Ok-rewarded_among-clause-does : goal.returns-in-Ok-rewarded_among-clause-does
returns-in-Ok-rewarded_among-clause-does g c =
    let b = c.args.branch in
    let month = c.in-Some.month in
    let days = month_before c.args.at in
    let are = sym c.in-Some.is ∙ c.last_month.ensures in
    let bounds = c.last_month_bounds-start.result in
    done (and_then (one_call c.in-Ok.ensures.does) (one_call c.in-Ok-payments_between.ensures.does)) (λ said books holds held.
    let customers = said.0 books holds held in
    let rows = said.1 books customers.0 held in (
      rows.0,
      found_are month days (shop_of b books) c.args.purchases c.args.cents _ _ c.in-Ok-rewarded_among.numbers.items are customers.1
          (ap (λ (rows : List PaymentRow). payments_of rows) c.as_slice.ensures.value ∙ rows.1
          ∙ of_the_month b month days bounds.0 bounds.1 are c.last_month_bounds-start.ensures books held)
          c.in-Ok-rewarded_among.ensures,
    ))

pub returns-in-Err-payments_between-clause-fails : goal.returns-in-Err-payments_between-clause-fails
returns-in-Err-payments_between-clause-fails g c =
    fails_after (HoldsBranch c.args.branch) HoldsBooks (one_call c.in-Ok.ensures.does) (λ said it. has_books (branch_stays said it))
    (within_of c.in-Err-payments_between.ensures.does.inside) c.in-Err-payments_between.ensures.fails

-- no more payments are found than are counted
pub returns-then-len-gt1000000-clause-fails : goal.returns-then-len-gt1000000-clause-fails
returns-then-len-gt1000000-clause-fails g c clean ready holds failed =
    let said = (and_then (one_call c.in-Ok.ensures.does) (one_call c.in-Ok-payments_between.ensures.does)).said clean in
    let books = holds.0 in
    let held = holds.2 in
    let customers = said.0 books holds.1 held in
    let rows = said.1 books customers.0 held in
    let few = few_rows c.args.branch books held _ c.in-Ok-payments_between.rows.items rows.1 in
    let count : vec_len c.in-Ok-payments_between.rows ≡ length c.in-Ok-payments_between.rows.items = omega (arith, c.in-Ok-payments_between.rows.ok.0) in
    absurd (omega (arith, few, count, c.if-len-gt1000000.true, c.len.ensures))
