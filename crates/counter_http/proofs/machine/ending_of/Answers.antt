use Rattle.shop_types.proofs.Common.{[], refl, arith, All-nil}
use Rattle.counter_http.specs.Exchanges.{GoesOn}
use Rattle.counter_http.proofs.machine.ending_of.Goals as goal

pub returns-in-Fails : goal.returns-in-Fails
returns-in-Fails c = λ e input rest after. (([], e, refl, All-nil GoesOn, rw c.in-Fails.is at after), omega arith, refl)

pub returns-in-Asks : goal.returns-in-Asks
returns-in-Asks c = λ e input rest after. (([], e, refl, All-nil GoesOn, rw c.in-Asks.is at after), omega arith, refl)
