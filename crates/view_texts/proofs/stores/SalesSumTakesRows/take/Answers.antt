use Rattle.view_texts.proofs.SalesLines.{sold_more}
use Rattle.view_texts.proofs.stores.SalesSumTakesRows.take.Goals as goal

pub returns-clause-taken : goal.returns-clause-taken
returns-clause-taken c first given so_far = sold_more c.args.self.now.sum c.in_ok-self.field-0 given c.args.row.now c.in_ok-self.ensures so_far
