use Rattle.shop_ledger.proofs.Doing.{does_so}
use Rattle.shop_store.proofs.LastNumbers.{last_of}
use Rattle.shop_store.proofs.lasts.last_number.Goals as goal

pub returns : goal.returns
returns g c = let one = rw c.last_row.ensures at c.number_shown.ensures in does_so one.inside one.says (last_of c.args.table _ _)
