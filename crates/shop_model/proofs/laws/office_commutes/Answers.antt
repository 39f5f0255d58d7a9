use Rattle.shop_model.proofs.OfficeOrder as lemma
use Rattle.shop_model.proofs.laws.office_commutes.Goals as goal

pub returns : goal.returns
returns c = lemma.office_commutes
