use Rattle.shop_schema.proofs.Common.{rules, ◌≡◌, ◌∙◌, ◌≤◌, ◌+◌, sym, ap, subst, List, [], ◌∷◌, ◌++◌, take, Payment, seen_payment}
use Rattle.shop_store.specs.declared.payments.PaymentRow.{PaymentRow}
use Rattle.balance_rule.specs.Rewards.{is_on}
use Rattle.branch_reports.specs.Rewards.{AreSummed, payments_of}
use Rattle.branch_reports.proofs.RewardLemmas.{small_more, sums_more, sums_same, taken}
use Rattle.branch_reports.proofs.rewards.sums_of.Goals as goal
use Rattle.branch_reports.proofs.rewards.sums_of.Goals.{then-is_on+in_ok-add_paid, else-is_on}

abbrev seen : PaymentRow → Payment
seen row = seen_payment row.payment

pub loop-row-preserved : goal.loop-row-preserved
loop-row-preserved c =
    let i = c.loop-row.row-index in
    let rows = c.args.rows.now in
    let row = c.row-item.result in
    let month = c.args.month in
    let before = payments_of (take i rows) in
    let inv = c.loop-row.invariant in
    let next : payments_of (take (i + 1) rows) ≡ before ++ seen row ∷ [] = taken seen rows i row c.loop-row-test.true c.row-item.is in
    let told = ap (is_on month) (sym c.paid_by.ensures) ∙ sym c.is_on.ensures in
    elim c.if-is_on.branch [
      | then-is_on+in_ok-add_paid w ↦
          let low : row.payment.amount ≤ 99999 = search rules in
          rw w.sums-is (record {
            summed = subst (λ (ps : List Payment). AreSummed month w.add_paid.new.sums ps) (sym next)
                (sums_more month c.loop-row.sums w.add_paid.new.sums before (seen row) inv.summed (told ∙ w.if-is_on.true) w.in_ok-add_paid.ensures);
            small = small_more i row.payment.customer row.payment.amount c.loop-row.sums w.add_paid.new.sums low inv.small w.in_ok-add_paid.ensures;
          })
      | else-is_on w ↦
          rw w.sums-is (record {
            summed =
                subst (λ (ps : List Payment). AreSummed month c.loop-row.sums ps) (sym next)
                (sums_same month c.loop-row.sums before (seen row) inv.summed (told ∙ w.if-is_on.false));
            small = search rules;
          })
    ]
