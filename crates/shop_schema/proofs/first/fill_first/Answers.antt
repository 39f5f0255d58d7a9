use Rattle.shop_schema.proofs.Common.{arith, state, HasCleanDisk, on_ok_then, clean_before, survives_more}
use Rattle.shop_schema.proofs.FirstTexts.{first_filled}
use Rattle.shop_schema.proofs.first.fill_first.Goals as goal

pub returns-in_err-execute-clause-survives : goal.returns-in_err-execute-clause-survives
returns-in_err-execute-clause-survives g c = survives_more _ _ _ c.create_first_tables.ensures.survives c.execute.ensures.inside.survives

pub returns-clause-survives : goal.returns-clause-survives
returns-clause-survives g c =
    survives_more _ _ _ (survives_more _ _ _ c.create_first_tables.ensures.survives c.execute.ensures.inside.survives) c.execute-2.ensures.inside.survives

pub returns-clause-holds : goal.returns-clause-holds
returns-clause-holds g c clean none =
    let clean_2 = clean_before c.execute-2.ensures.inside clean in
    let clean_1 : HasCleanDisk (state g.S.Store c.create_first_tables.new.tx.conn.now) = omega (arith, clean_2, c.execute.ensures.inside.survives.clean) in
    let made = c.in_ok-create_first_tables.ensures.made clean_1 none in
    let told = c.in_ok-execute.ensures.ran clean_2 in
    on_ok_then c.execute-2.result
    (λ counted. first_filled _ _ _ c.args.office.now told.0 counted.0 (rw c.as_bytes.ensures.value at told.1) counted.1 made.0 made.1 made.2)
    (c.execute-2.ensures.ran clean)
