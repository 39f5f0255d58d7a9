use Rattle.shop_schema.proofs.Common.{ap, ◌∙◌, sym, number_value, version_told}
use Rattle.shop_schema.proofs.Versions.{told_none, told_one, told_other, told_number, other_number}
use Rattle.shop_schema.proofs.known.told_by.Goals as goal

pub returns-then-rows-ne1 : goal.returns-then-rows-ne1
returns-then-rows-ne1 c found same = told_none c.args.rows.now found c.if-rows-ne1.true same

pub returns-in-Ok-eq1 : goal.returns-in-Ok-eq1
returns-in-Ok-eq1 c found same =
    told_one c.index-rows-0.result c.args.rows.now found _ c.if-rows-ne1.false c.index-rows-0.is
    (ap (λ n. version_told (number_value n)) (sym c.in-Ok-eq1.field-0-test) ∙ told_number c.index-rows-0.result c.in-Ok-eq1.field-0 c.in-Ok-eq1.ensures.ok) same

pub returns-in-Ok-eq2 : goal.returns-in-Ok-eq2
returns-in-Ok-eq2 c found same =
    told_one c.index-rows-0.result c.args.rows.now found _ c.if-rows-ne1.false c.index-rows-0.is
    (ap (λ n. version_told (number_value n)) (sym c.in-Ok-eq2.field-0-test) ∙ told_number c.index-rows-0.result c.in-Ok-eq2.field-0 c.in-Ok-eq2.ensures.ok) same

pub returns-in-Ok : goal.returns-in-Ok
returns-in-Ok c found same =
    told_one c.index-rows-0.result c.args.rows.now found _ c.if-rows-ne1.false c.index-rows-0.is
    (other_number c.in-Ok.field-0 c.in-Ok.field-0-test.1 c.in-Ok.field-0-test.0.1 ∙ told_number c.index-rows-0.result c.in-Ok.field-0 c.in-Ok.ensures.ok) same

pub returns-in-Err-Failed : goal.returns-in-Err-Failed
returns-in-Err-Failed c found same =
    told_one c.index-rows-0.result c.args.rows.now found _ c.if-rows-ne1.false c.index-rows-0.is
    (told_other c.index-rows-0.result (λ n fits some. c.in-Err-Failed.ensures.failed c.in-Err-Failed.field-0-is n fits some)) same
