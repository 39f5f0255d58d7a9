use Rattle.view_texts.proofs.OverdueLines.{overdue_is}
use Rattle.view_texts.proofs.overdue.read_overdue.Goals as goal

pub returns : goal.returns
returns c = overdue_is c.args.row.now _ c.in_ok-text_at.ensures.ok c.in_ok-text_at-2.ensures.ok c.in_ok-text_at-3.ensures.ok c.in_ok-text_at-4.ensures.ok
