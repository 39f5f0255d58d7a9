use Rattle.till_cashier.proofs.outs.add_titles.Goals as goal

pub returns-in_err-add_title : goal.returns-in_err-add_title
returns-in_err-add_title g c all = c.add_title.ensures c.in_ok-lists.ensures (c.loop-title.invariant all)

pub loop-title-preserved : goal.loop-title-preserved
loop-title-preserved g c all = c.add_title.ensures c.in_ok-lists.ensures (c.loop-title.invariant all)
