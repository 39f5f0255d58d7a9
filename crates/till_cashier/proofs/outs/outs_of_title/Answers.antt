use Rattle.till_cashier.proofs.outs.outs_of_title.Goals as goal

pub loop-film-preserved : goal.loop-film-preserved
loop-film-preserved g c listed = c.add_film.ensures listed (c.loop-film.invariant listed)
