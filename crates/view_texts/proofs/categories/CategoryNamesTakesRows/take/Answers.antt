use Rattle.view_texts.proofs.CategoryLines.{names_more}
use Rattle.view_texts.proofs.categories.CategoryNamesTakesRows.take.Goals as goal

pub returns-clause-taken : goal.returns-clause-taken
returns-clause-taken c first given so_far =
    names_more given c.args.row.now c.args.self.now.sums.items c.push.new.self.items
    c.in_ok-text_at.field-0 c.in_ok-push.ensures.items c.in_ok-text_at.ensures.ok so_far
