use Rattle.chain_engine.proofs.Wells.{stays_well_in_memory}
use Rattle.chain_engine.proofs.laws.stays_well_in_memory.Goals as goal

pub returns : goal.returns
returns c = stays_well_in_memory
