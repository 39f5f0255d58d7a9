use Rattle.std.proofs.Common.{◌≡◌, ◌∙◌, ap, arith, ◌<◌}
use Rattle.std.specs.Prelude.{◌-◌}
use Rattle.shop_model.specs.Calendar.{seconds_of}
use Rattle.branch_reports.proofs.MonthLemmas.{month_start, bounds_within, bounds_before}
use Rattle.branch_reports.proofs.rewards.last_month_bounds.Goals as goal

pub returns-then-month-gt1 : goal.returns-then-month-gt1
returns-then-month-gt1 c = λ days is.
    let year = c.year-year.ensures.value in
    let month = c.month-month.ensures.value in
    let later : 1 < c.args.at.month = omega (arith, c.if-month-gt1.true, month) in
    let bounds = bounds_within c.args.at days later is in (
      ap seconds_of (c.month_start.ensures ∙ (λ i. month_start (year i) (month i - 1))) ∙ bounds.0,
      ap seconds_of (c.month_start-end.ensures ∙ (λ i. month_start (year i) (month i))) ∙ bounds.1,
    )

pub returns-then-year-gt1970 : goal.returns-then-year-gt1970
returns-then-year-gt1970 c = λ days is.
    let year = c.year-year.ensures.value in
    let month = c.month-month.ensures.value in
    let first : c.args.at.month ≡ 1 = omega (arith, c.if-month-gt1.false, c.month-month.ensures.low, month) in
    let later : 1970 < c.args.at.year = omega (arith, c.if-year-gt1970.true, year) in
    let bounds = bounds_before c.args.at days first later is in (
      ap seconds_of (c.month_start-then-year-gt1970.ensures ∙ (λ i. month_start (year i - 1) 12)) ∙ bounds.0,
      ap seconds_of (c.month_start-end.ensures ∙ (λ i. month_start (year i) (month i))) ∙ bounds.1,
    )
