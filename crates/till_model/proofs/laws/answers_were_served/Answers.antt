use Rattle.till_model.proofs.OverStops.{answers_served}
use Rattle.till_model.proofs.laws.answers_were_served.Goals as goal

pub returns : goal.returns
returns c = answers_served
