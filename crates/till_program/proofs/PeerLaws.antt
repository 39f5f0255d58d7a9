-- A connection that gets its reply, or leaves, asks for nothing.
use Rattle.std.proofs.Common.{◌≡◌, ◌≢◌, ℕ, subst, sym}
use Rattle.std.specs.Bool.{⊤}
use Rattle.till_program.specs.declared.peers.Phase.{Phase}
use Rattle.till_program.specs.declared.peers.Phase.TheVariants.{Asks, Gets, Leaves, Gone}

abbrev asks_in : Phase → Type 0
asks_in Asks = ⊤
asks_in (Gets sent) = ⊥
asks_in Leaves = ⊥
asks_in Gone = ⊥

pub gets_asks_not : (phase : Phase) (sent : ℕ) → phase ≡ Gets sent → phase ≢ Asks
gets_asks_not phase sent is asks = subst asks_in is (subst asks_in (sym asks) tt)

pub leaves_asks_not : (phase : Phase) → phase ≡ Leaves → phase ≢ Asks
leaves_asks_not phase is asks = subst asks_in is (subst asks_in (sym asks) tt)
