use Rattle.till_model.proofs.Press.{press_to_disk}
use Rattle.till_model.proofs.laws.from_the_press_to_the_disk.Goals as goal

pub returns : goal.returns
returns c = press_to_disk
