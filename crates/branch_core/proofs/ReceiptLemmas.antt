-- Lemmas about the lines of the one consignment that was found.
use Rattle.shop_types.proofs.Common.{length-map}
use Rattle.shop_model.proofs.FoundLemmas.{at_one}
use Rattle.branch_core.proofs.ConsignmentLemmas.{all_counted}

pub ruleset one_arrival = (at_one, length-map, all_counted)
