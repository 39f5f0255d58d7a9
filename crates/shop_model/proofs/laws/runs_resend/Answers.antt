use Rattle.shop_model.proofs.Resends as lemma
use Rattle.shop_model.proofs.laws.runs_resend.Goals as goal

pub returns : goal.returns
returns c = lemma.runs_resend
