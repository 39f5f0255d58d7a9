use Rattle.std.proofs.Common.{refl}
use Rattle.consign_store.proofs.ListLines.{nothing_taken}
use Rattle.consign_store.proofs.lists.empty.Goals as goal

pub returns : goal.returns
returns c = (refl, (refl, nothing_taken c.args.kind _ c.new.ensures))
