use Rattle.std.proofs.Common.{sym, subst, arith}
use Rattle.shop_ledger.specs.Seen.{IsOwner}
use Rattle.shop_ledger.proofs.kept.Owner.number.Goals as goal

pub returns-in-Branch-clause-real : goal.returns-in-Branch-clause-real
returns-in-Branch-clause-real c = subst IsOwner (sym c.in-Branch.is) (omega (arith, c.get.ensures.bound))
