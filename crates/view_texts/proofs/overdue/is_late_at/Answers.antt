use Rattle.view_texts.proofs.OverdueLines.{late_is}
use Rattle.view_texts.proofs.overdue.is_late_at.Goals as goal

pub returns : goal.returns
returns c =
    late_is c.args.row.now c.in_ok-rented.rented c.args.moment c.in_ok-period.period c.is_overdue.result
    c.in_ok-rented.ensures.value c.in_ok-rented.ensures.ok c.in_ok-period.ensures.ok c.is_overdue.ensures
