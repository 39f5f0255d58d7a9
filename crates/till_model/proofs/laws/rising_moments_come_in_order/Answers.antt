use Rattle.till_model.proofs.OverStops.{rising_in_order}
use Rattle.till_model.proofs.laws.rising_moments_come_in_order.Goals as goal

pub returns : goal.returns
returns c = rising_in_order
