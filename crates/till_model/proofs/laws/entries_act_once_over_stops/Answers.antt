use Rattle.till_model.proofs.OverStops.{once_over_stops}
use Rattle.till_model.proofs.laws.entries_act_once_over_stops.Goals as goal

pub returns : goal.returns
returns c = once_over_stops
