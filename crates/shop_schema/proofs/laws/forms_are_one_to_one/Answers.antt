use Rattle.shop_schema.proofs.OneToOne.{forms_are_one_to_one}
use Rattle.shop_schema.proofs.laws.forms_are_one_to_one.Goals as goal

pub returns : goal.returns
returns c = forms_are_one_to_one
