use Rattle.shop_schema.proofs.OfficeOneToOne.{office_forms_are_one_to_one}
use Rattle.shop_schema.proofs.laws.office_forms_are_one_to_one.Goals as goal

pub returns : goal.returns
returns c = office_forms_are_one_to_one
