use Rattle.shop_schema.proofs.Common.{IfOk-weaker, clean_before, survives_more}
use Rattle.chain_files.proofs.creation.fill.Goals as goal

pub returns-in-OfOffice-clause-survives : goal.returns-in-OfOffice-clause-survives
returns-in-OfOffice-clause-survives g c = survives_more _ _ _ c.create_tables.ensures.survives c.put_token.ensures.inside.survives

pub returns-in-OfOpening-clause-survives : goal.returns-in-OfOpening-clause-survives
returns-in-OfOpening-clause-survives g c = survives_more _ _ _ c.create_tables.ensures.survives c.put_opening.ensures.inside.survives

pub returns-in-OfOffice-clause-holds : goal.returns-in-OfOffice-clause-holds
returns-in-OfOffice-clause-holds g c clean none =
    let made = c.in_ok-create_tables.ensures.made (clean_before c.put_token.ensures.inside clean) none in
    rw c.in-OfOffice.is (IfOk-weaker c.put_token.result _ _ (λ _ put. put made.0 made.1 made.2) (c.put_token.ensures.says clean))

pub returns-in-OfOpening-clause-holds : goal.returns-in-OfOpening-clause-holds
returns-in-OfOpening-clause-holds g c clean none =
    let made = c.in_ok-create_tables.ensures.made (clean_before c.put_opening.ensures.inside clean) none in
    rw c.in-OfOpening.is (IfOk-weaker c.put_opening.result _ _ (λ _ put. put made.0 made.1 made.2) (c.put_opening.ensures.says clean))
