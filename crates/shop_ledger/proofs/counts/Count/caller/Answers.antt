use Rattle.std.proofs.Common.{sym, subst, arith}
use Rattle.shop_ledger.specs.Counted.{IsCount}
use Rattle.shop_ledger.proofs.counts.Count.caller.Goals as goal

pub returns-in-Of-clause-real : goal.returns-in-Of-clause-real
returns-in-Of-clause-real c = subst IsCount (sym c.in-Of.is) (omega (arith, c.get.ensures.bound))
